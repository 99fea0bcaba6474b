use Rattle.lane_rows.specs.Values.{values_of}
use Rattle.batch_sim.specs.Checked.{AreInputRows}
use Rattle.batch_sim.proofs.judge.given.are_given.Given as goal

abbrev pub invariant-loop-input : goal.invariant-loop-input
invariant-loop-input l = AreInputRows l.has_enable l.ports l.piece l.input (values_of l.rows)
