use Rattle.std.proofs.Common.{◌≡◌, ◌+◌, ◌≤◌, ℕ, Some, length, map, slice_get}
use Rattle.pointwise_ir.specs.Trees.{Tree, tree_of, EachImage}
use Rattle.pointwise_eval.specs.Needs.{IsNeeded}
use Rattle.pointwise_eval.proofs.need.mark_reads.Given as goal

abbrev pub invariant-loop-k : goal.invariant-loop-k
invariant-loop-k l = record {
  long : length l.until ≡ l.inputs + length l.images;
  within : l.k ≤ length l.images;
  kept : (n g : ℕ) → IsNeeded l.fn.until n g → IsNeeded l.until n g;
  closed : (j : ℕ) (e : Tree) → l.k ≤ j → slice_get (map (λ d. tree_of d.body) l.images) j ≡ Some e → IsNeeded l.until (l.inputs + j + 1) (l.inputs + j) → EachImage (IsNeeded l.until (l.inputs + j)) e;
}

abbrev pub decreases-loop-k : goal.decreases-loop-k
decreases-loop-k l = l.k
