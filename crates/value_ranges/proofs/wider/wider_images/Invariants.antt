use Rattle.std.proofs.Common.{◌≡◌}
use Rattle.value_ranges.specs.Wider.{wider_below}
use Rattle.value_ranges.specs.Ranges.{intervals_of}
use Rattle.value_ranges.proofs.wider.wider_images.Given as goal

-- those among the images before
abbrev pub invariant-loop-k : goal.invariant-loop-k
invariant-loop-k l = record {
  before : l.wider.items ≡ wider_below (intervals_of l.old) l.new l.is_same l.k;
}
