use Rattle.std.proofs.Common.{rules, ◌≡◌, ◌∙◌, List, ap, length, take, subst, sym}
use Rattle.cycle_sim.specs.declared.ports.Out.{Out}
use Rattle.row_stream.specs.Batches.{Ran}
use Rattle.row_stream.proofs.Batches.{in_place}
use Rattle.row_stream.proofs.batch.step_front.Goals as goal

pub returns-clause-steps : goal.returns-clause-steps
returns-clause-steps c =
    let old = c.args.outs.now in
    let new = c.step_within.new.outs in
    let len : old.len ≡ length old.items = search rules in
    let size : length new ≡ length old.items = c.step_within.ensures.outs ∙ ap (λ (z : List Out). length z) c.deref_mut.ensures.value in
    record { netlist = c.step_within.ensures.steps.netlist; ran = subst (λ z. Ran c.args.sim.now.netlist c.args.dins.now c.args.sim.now.contents c.step_within.new.sim.contents (take (length c.args.dins.now) z)) (sym (in_place old.len old.items new len size)) c.step_within.ensures.steps.ran }
