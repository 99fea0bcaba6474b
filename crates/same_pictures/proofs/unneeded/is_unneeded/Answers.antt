use Rattle.std.proofs.Common.{rules}
use Rattle.dk_base.specs.Types.{IsType}
use Rattle.pointwise_ir.specs.Trees.{tree_of}
use Rattle.pointwise_ir.specs.Meaning.{value, pictures}
use Rattle.same_pictures.proofs.Numbers.{conversion_same}
use Rattle.same_pictures.proofs.unneeded.is_unneeded.Goals as goal

pub returns : goal.returns
returns c = λ yes round is x y.
    let p = c.args.on.now.program.now in
    let typed : IsType c.args.ty = search rules in
    conversion_same c.args.how c.args.ty (value p.size (pictures p round) (tree_of c.args.e.now) x y) typed (c.is_held.ensures yes round is x y)
