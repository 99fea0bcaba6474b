use Rattle.std.proofs.Common.{ap, ◌∙◌}
use Rattle.pointwise_ir.specs.Trees.{Tree, tree_of}
use Rattle.pointwise_ir.specs.Meaning.{value, pictures}
use Rattle.same_pictures.proofs.Values.{body_stands}
use Rattle.same_pictures.proofs.matching.defining.Goals as goal

pub returns : goal.returns
returns c round is x y inside =
    let p = c.args.program.now in
    let g = c.in_ok-image.image in
    let body : Tree = tree_of c.in_ok-body.body.now in
    let (edge, at) = c.in_ok-image.ensures in
    ap (λ (t : Tree). value p.size (pictures p round) t x y) at
    ∙ body_stands p edge g body (λ r r_is u v. c.meaning_law.ensures.images r r_is.one_each g body c.in_ok-body.ensures u v) round is x y inside
