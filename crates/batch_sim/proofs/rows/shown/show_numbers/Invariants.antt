use Rattle.std.proofs.Common.{◌≡◌, ◌≢◌, ◌+◌, ◌*◌, ◌<◌, ℕ, length, map, Some}
use Rattle.std.specs.Prelude.{slice_get}
use Rattle.batch_sim.specs.Shown.{shown_at}
use Rattle.batch_sim.proofs.rows.shown.show_numbers.Given as goal

abbrev pub invariant-loop-t : goal.invariant-loop-t
invariant-loop-t g l = record {
  long : length l.outs ≡ length l.initial.outs;
  here : (j : ℕ) → j < l.t → slice_get l.outs (j * l.count + l.output) ≡ Some (shown_at (map g.V.Lane.value l.valid) (map g.D.Lane.value l.dout) j);
  others : (j k : ℕ) → k < l.count → k ≢ l.output → slice_get l.outs (j * l.count + k) ≡ slice_get l.initial.outs (j * l.count + k);
}
