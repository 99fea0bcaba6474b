use Rattle.std.proofs.Common.{ℤ, ◌*ℤ◌, ap, ◌∙◌}
use Rattle.pointwise_ir.specs.Trees.{Tree, tree_of}
use Rattle.pointwise_ir.specs.Meaning.{value, pictures}
use Rattle.same_pictures.proofs.Numbers.{left_whole}
use Rattle.same_pictures.proofs.products.divided_factors.Goals as goal

pub returns-then-is_same : goal.returns-then-is_same
returns-then-is_same c round is x y inside =
    let p = c.args.on.now.program.now in
    let at : Tree → ℤ = λ e. value p.size (pictures p round) e x y in
    let sum = c.in_ok-sum.sum in
    let low = c.in_ok-low.low in
    let high = c.in_ok-high.high in
    left_whole (at (tree_of low.right.now)) (at (tree_of low.left.now)) (at (tree_of high.left.now)) (at (tree_of c.in_ok-left.left.now)) (at (tree_of sum.low.now)) (at (tree_of sum.high.now)) (at (tree_of c.args.e.now)) sum.by
    (c.in_ok-left.ensures round is x y inside) (c.in_ok-low.ensures round is x y inside)
    (c.in_ok-high.ensures round is x y inside ∙ ap (λ z. at (tree_of high.left.now) *ℤ z) (ap at (c.is_same.ensures c.if-is_same.true)))
    (c.in_ok-sum.ensures round is x y inside)
