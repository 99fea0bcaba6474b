use Rattle.std.proofs.Common.{◌≡◌, ◌+◌, ◌*◌, ◌<◌, ℕ, length, Some}
use Rattle.std.specs.Prelude.{slice_get}
use Rattle.lane_rows.specs.Values.{values_of}
use Rattle.batch_sim.specs.Shown.{row_out}
use Rattle.batch_sim.proofs.rows.shown.show_rows.Given as goal

abbrev pub invariant-loop-output : goal.invariant-loop-output
invariant-loop-output l = record {
  long : length l.outs ≡ length l.initial.outs;
  shown : (t k : ℕ) → t < l.clocks → k < l.output → slice_get l.outs (t * l.count + k) ≡ Some (row_out (values_of l.rows) l.first k t);
}
