use Rattle.std.proofs.Common.{rules, ◌≡◌, ◌∙◌, List, ap, length, take, sym, subst}
use Rattle.std.proofs.lemmas.Result.{on_ok_weaker}
use Rattle.cycle_sim.specs.declared.ports.Out.{Out}
use Rattle.batch_sim.specs.Called.{BatchRan, batch_clocks}
use Rattle.test_bench.proofs.Shows.{in_place}
use Rattle.test_bench.proofs.batch.step_front.Goals as goal

pub returns-clause-steps : goal.returns-clause-steps
returns-clause-steps c =
    let m = c.args.sim.now.netlist in
    let old = c.args.outs.now in
    let new = c.step_within.new.outs in
    let len : old.len ≡ length old.items = search rules in
    let size : length new ≡ length old.items = c.step_within.ensures.outs ∙ ap (λ (z : List Out). length z) c.deref_mut.ensures.value in
    record {
      netlist = c.step_within.ensures.steps.netlist;
      ok = on_ok_weaker c.step_within.result (λ h. subst (λ z. BatchRan m (batch_clocks m c.args.enables.now c.args.dins.now) c.args.sim.now.contents c.step_within.new.sim.contents (take c.args.places z)) (sym (in_place old.len old.items new len size)) h) c.step_within.ensures.steps.ok;
      stop = c.step_within.ensures.steps.stop;
    }
