use Rattle.std.proofs.Common.{rules, ◌≡◌, ℤ, subst}
use Rattle.pointwise_ir.specs.Trees.{tree_of}
use Rattle.dk_base.specs.FrameSizes.{size_of}
use Rattle.stencil_sets.specs.Paths.{Covered, ReadsAt}
use Rattle.stencil_sets.specs.Marks.{MarksMore}
use Rattle.stencil_sets.proofs.Marked.{marks_as}
use Rattle.stencil_sets.proofs.kept.mark_reads.Goals as goal

pub returns-clause-more : goal.returns-clause-more
returns-clause-more c =
    let e = c.in_ok-rects.ensures.exact in
    let is : c.deref.result.now ≡ c.in_ok-rects.rects.items = search rules in
    marks_as c.args.kept.now c.mark_rects.new.kept (λ h. (x : ℤ) × (y : ℤ) × Covered c.in_ok-rects.rects.items h x y) (λ h. (x : ℤ) × (y : ℤ) × ReadsAt (size_of c.args.size) (tree_of c.args.body.now) h x y)
    (λ g p. (p.0, p.1, (e g p.0 p.1).0 p.2)) (λ g p. (p.0, p.1, (e g p.0 p.1).1 p.2)) (subst (λ r. MarksMore c.args.kept.now c.mark_rects.new.kept (λ h. (x : ℤ) × (y : ℤ) × Covered r h x y)) is c.mark_rects.ensures.more)
