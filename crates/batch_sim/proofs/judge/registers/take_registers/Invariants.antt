use Rattle.std.proofs.Common.{◌≡◌, ℕ, ◌+◌, ◌<◌}
use Rattle.std.specs.Prelude.{slice_index}
use Rattle.lane_rows.specs.Values.{value_at, values_of}
use Rattle.batch_sim.proofs.judge.registers.take_registers.Given as goal

abbrev pub invariant-loop-r : goal.invariant-loop-r
invariant-loop-r l = (j : ℕ) → j < l.r → slice_index l.regs j ≡ value_at (values_of l.rows) l.count (l.first + j)
