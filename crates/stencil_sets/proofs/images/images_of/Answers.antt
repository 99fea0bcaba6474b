use Rattle.std.proofs.Common.{sym, subst, refl, ◌+◌}
use Rattle.dk_base.specs.Types.{width_of}
use Rattle.stencil_sets.proofs.Marked.{mark_there, mark_not}
use Rattle.stencil_sets.proofs.Numbered.{ImagesSoFar, images_more, images_left, images_done, images_form}
use Rattle.stencil_sets.proofs.images.images_of.Goals.{then-kept-g+in_ok-push_kept, else-kept-g}
use Rattle.stencil_sets.proofs.images.images_of.Goals as goal

pub loop-g-preserved : goal.loop-g-preserved
loop-g-preserved c =
    let p = c.args.ir.now in
    let kept = c.args.kept.now in
    let g = c.loop-g.g in
    let old = c.loop-g.images.items in
    elim c.if-kept-g.branch [
      | then-kept-g+in_ok-push_kept w ↦
          subst (λ v. ImagesSoFar p kept v.items (g + 1)) (sym w.images-is)
          (subst (λ xs. ImagesSoFar p kept xs (g + 1)) (sym w.in_ok-push_kept.ensures)
          (images_more p kept old g (record { number = g; width = width_of w.type_of.result }) refl
          (record { kept = c.requires.sound g (mark_there kept g w.if-kept-g.true); ty = w.type_of.result; typed = w.type_of.ensures; width = refl }) c.loop-g.invariant))
      | else-kept-g w ↦
          subst (λ v. ImagesSoFar p kept v.items (g + 1)) (sym w.images-is) (images_left p kept old g c.requires (mark_not kept g w.if-kept-g.false) c.loop-g.invariant)
    ]

pub returns : goal.returns
returns c = record {
  images = images_done c.args.ir.now c.law.ensures c.args.kept.now c.loop-g.images.items c.loop-g.g c.requires c.loop-g-test.false c.loop-g.invariant;
  form = images_form c.args.ir.now c.law.ensures c.args.kept.now c.loop-g.images.items c.loop-g.g c.requires c.loop-g.auto.g-end c.loop-g-test.false c.loop-g.invariant;
}
