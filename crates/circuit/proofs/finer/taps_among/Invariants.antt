use Rattle.std.proofs.Common.{◌≡◌, ℕ, length, Some}
use Rattle.std.specs.Prelude.{slice_get}
use Rattle.wiring.specs.declared.netlist.Net.{Net}
use Rattle.circuit.specs.Splits.{IsTapAmong}
use Rattle.circuit.proofs.finer.taps_among.Given as goal

abbrev pub invariant-loop-age : goal.invariant-loop-age
invariant-loop-age l = record {
  long : length l.taps.items ≡ l.age-index;
  each : (k a : ℕ) (t : Net) → slice_get l.ages k ≡ Some a → slice_get l.taps.items k ≡ Some t → IsTapAmong l.split l.nets l.value a t;
}
