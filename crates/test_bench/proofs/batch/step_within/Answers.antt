use Rattle.std.proofs.Common.{rules, ◌≡◌, length, sym, subst}
use Rattle.std.proofs.lemmas.Result.{on_ok_weaker}
use Rattle.batch_sim.specs.Called.{BatchRan, batch_clocks}
use Rattle.test_bench.proofs.Shows.{in_front}
use Rattle.test_bench.proofs.batch.step_within.Goals as goal

pub returns-clause-steps : goal.returns-clause-steps
returns-clause-steps c =
    let m = c.args.sim.now.netlist in
    let new = c.step_batch.new.outs in
    let count : length new ≡ c.args.places = search rules in
    record {
      netlist = c.step_batch.ensures.netlist;
      ok = on_ok_weaker c.step_batch.result (λ h. subst (λ z. BatchRan m (batch_clocks m c.args.enables.now c.args.dins.now) c.args.sim.now.contents c.step_batch.new.self.contents z) (sym (in_front c.args.places new _ count)) h) c.step_batch.ensures.ok;
      stop = search rules;
    }
