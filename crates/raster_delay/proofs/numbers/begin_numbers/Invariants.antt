use Rattle.std.proofs.Common.{◌≡◌, ◌<◌, ℕ, length, slice_index}
use Rattle.raster_delay.specs.Delays.{begin_of}
use Rattle.raster_delay.proofs.numbers.begin_numbers.Given as goal

abbrev pub invariant-loop-k : goal.invariant-loop-k
invariant-loop-k l = record {
  length : length l.delays.items ≡ l.k;
  numbers : (k : ℕ) → k < l.k → slice_index l.delays.items k ≡ slice_index l.numbers (begin_of l.inputs k);
}
