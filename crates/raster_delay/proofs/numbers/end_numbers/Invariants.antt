use Rattle.std.proofs.Common.{◌≡◌, ◌<◌, ℕ, length, slice_index}
use Rattle.raster_delay.specs.Delays.{end_of}
use Rattle.raster_delay.proofs.numbers.end_numbers.Given as goal

abbrev pub invariant-loop-k : goal.invariant-loop-k
invariant-loop-k l = record {
  length : length l.ends.items ≡ l.k;
  numbers : (k : ℕ) → k < l.k → slice_index l.ends.items k ≡ slice_index l.numbers (end_of l.inputs l.images k);
}
