use Rattle.std.proofs.Common.{rules, ◌≡◌, sym, subst, All, []}
use Rattle.std.proofs.lemmas.List.Elements.{All-from_recursion}
use Rattle.std.proofs.lemmas.List.Sorted.{All-permutation, answers_always}
use Rattle.pointwise_ir.specs.Trees.{tree_of}
use Rattle.dk_base.specs.FrameSizes.{size_of}
use Rattle.stencil_sets.specs.declared.path.Rect.{Rect}
use Rattle.stencil_sets.specs.Paths.{IsNearRect}
use Rattle.stencil_sets.proofs.Readers.{sorted_by, exact_after}
use Rattle.stencil_sets.proofs.reader.rects_of.Goals as goal

pub returns : goal.returns
returns c = record {
  exact = let none : c.new-rects.result.items ≡ [] = search rules in
      exact_after (size_of c.args.size) (tree_of c.args.body.now) c.none.result c.new-rects.result.items c.add_reads.new.all.items c.sort_by_key.new.self.items none
      c.none.ensures.leads c.in_ok-add_reads.ensures.added c.in_ok-sort_by_key.ensures.permutation;
  near = let none : c.new-rects.result.items ≡ [] = search rules in
      All-permutation IsNearRect c.add_reads.new.all.items c.sort_by_key.new.self.items c.in_ok-sort_by_key.ensures.permutation
      (c.in_ok-add_reads.ensures.near (subst (All IsNearRect) (sym none) (All-from_recursion IsNearRect [] tt)));
  sorted = sorted_by c.sort_by_key.new.self.items (c.in_ok-sort_by_key.ensures.sorted (λ (r : Rect). r.across.least) (answers_always _ _ _ (λ f a r h called. search rules)));
}
