use Rattle.std.proofs.Common.{◌≡◌, length}
use Rattle.same_pictures.specs.Matching.{ArePairs}
use Rattle.same_pictures.proofs.pairing.all_pairs.Given as goal

abbrev pub invariant-loop-g : goal.invariant-loop-g
invariant-loop-g l = record {
  count : length l.pairs.items ≡ l.g;
  pairs : ArePairs l.fn.old l.fn.new l.pairs.items;
}
