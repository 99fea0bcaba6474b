use Rattle.std.proofs.Common.{◌≡◌, ℕ, ◌<◌, length}
use Rattle.std.specs.Prelude.{slice_index}
use Rattle.stimulus.specs.Stimulus.{stream}
use Rattle.stimulus.specs.Given.{rounds_of}
use Rattle.stimulus.proofs.pixels.fill_dins.Given as goal

abbrev pub invariant-loop-input : goal.invariant-loop-input
invariant-loop-input l = record {
  count : length l.dins.items ≡ length l.fn.dins.items;
  done : (k : ℕ) → k < l.input → slice_index l.dins.items k ≡ slice_index (stream (rounds_of l.rounds) k) l.number;
}
