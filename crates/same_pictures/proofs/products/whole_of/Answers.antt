use Rattle.std.proofs.Common.{◌≡◌, ◌^◌, ℤ, pos, ◌+ℤ◌, ◌*ℤ◌, ap, sym, ◌∙◌}
use Rattle.std.specs.Int.{int_div_euclid}
use Rattle.dk_base.specs.declared.ty.Ty.{Ty}
use Rattle.dk_base.specs.declared.ty.Ty.TheVariants.{Unsigned}
use Rattle.dk_base.specs.Numbers.{wrap}
use Rattle.pointwise_ir.specs.Trees.{Tree, tree_of}
use Rattle.pointwise_ir.specs.Meaning.{value, pictures}
use Rattle.same_pictures.proofs.Numbers.{halved}
use Rattle.same_pictures.proofs.products.whole_of.Goals as goal

pub returns-then-is_same : goal.returns-then-is_same
returns-then-is_same c round is x y inside =
    let p = c.args.on.now.program.now in
    let at : Tree → ℤ = λ e. value p.size (pictures p round) e x y in
    let by = c.args.by in
    let v = at (tree_of c.in_ok-whole.whole.now) in
    let low : at (tree_of c.args.low.now) ≡ wrap (Unsigned by) v = ap at c.in_ok-whole.ensures ∙ ap (λ (t : Ty). wrap t v) c.in_ok-ty.ensures in
    let high : at (tree_of c.args.high.now) ≡ int_div_euclid v (pos (2 ^ by)) =
    c.bare.ensures round is x y inside ∙ ap at c.in_ok-other.ensures ∙ ap (λ (e : Tree). int_div_euclid (at e) (pos (2 ^ by))) (c.is_same.ensures c.if-is_same.true) in
    halved v by
    ∙ ap (λ z. z +ℤ (int_div_euclid v (pos (2 ^ by)) *ℤ pos (2 ^ by))) (sym low)
    ∙ ap (λ z. at (tree_of c.args.low.now) +ℤ (z *ℤ pos (2 ^ by))) (sym high)
