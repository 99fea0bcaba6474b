use Rattle.std.proofs.Common.{rules, ◌≡◌, false, ℤ, pos, ◌+ℤ◌, ap, subst, ◌∙◌, w32, to_z, of_z, FitsSigned}
use Rattle.dk_base.specs.Frames.{in_frame}
use Rattle.dk_base.specs.Operators.{conversion_value}
use Rattle.pointwise_ir.specs.declared.expr.Expr.{Expr}
use Rattle.pointwise_ir.specs.Trees.{Tree, tree_of}
use Rattle.pointwise_ir.specs.Meaning.{value}
use Rattle.same_pictures.proofs.Moved.{to_word}
use Rattle.same_pictures.proofs.Numbers.{conversion_zero}
use Rattle.same_pictures.proofs.behind.+vanishes.Goals as goal

pub returns-in-Convert : goal.returns-in-Convert
returns-in-Convert t c = λ yes size known x y outside.
    let how = c.in-Convert.field-0 in
    let ty = c.in-Convert.field-2 in
    let fx : FitsSigned w32 c.args.dx = search rules in
    let fy : FitsSigned w32 c.args.dy = search rules in
    let word : ℤ → ℤ = λ z. to_z w32 (of_z w32 z) in
    let there = to_word (λ r. in_frame size (x +ℤ r) (y +ℤ word c.args.dy) ≡ false) c.args.dx fx
    (to_word (λ s. in_frame size (x +ℤ c.args.dx) (y +ℤ s) ≡ false) c.args.dy fy outside) in
    let inner = subst (λ (e : Expr). value size known (tree_of e) x y ≡ pos 0) c.deref-in-Convert.ensures (c.vanishes-in-Convert.ensures yes size known x y there) in
    ap (λ (e : Tree). value size known e x y) (ap tree_of c.in-Convert.is) ∙ ap (conversion_value how ty) inner ∙ conversion_zero how ty
