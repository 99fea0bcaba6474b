use Rattle.std.proofs.Common.{rules, ◌≡◌, length, subst, sym}
use Rattle.row_stream.specs.Batches.{Ran}
use Rattle.row_stream.proofs.Batches.{in_front}
use Rattle.row_stream.proofs.batch.step_within.Goals as goal

pub returns-clause-steps : goal.returns-clause-steps
returns-clause-steps c =
    let new = c.step_exact.new.outs in
    let count : length new ≡ length c.args.dins.now = search rules in
    record { netlist = c.step_exact.ensures.steps.netlist; ran = subst (λ z. Ran c.args.sim.now.netlist c.args.dins.now c.args.sim.now.contents c.step_exact.new.sim.contents z) (sym (in_front (length c.args.dins.now) new _ count)) c.step_exact.ensures.steps.ran }
