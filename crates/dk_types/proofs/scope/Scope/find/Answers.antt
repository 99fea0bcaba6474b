use Rattle.dk_types.proofs.Names.{unknown, found}
use Rattle.dk_types.proofs.scope.Scope.find.Goals as goal

pub returns-in_err-index : goal.returns-in_err-index
returns-in_err-index c =
    rw c.from_residual.ensures (unknown c.args.self.now c.self.inside.images.entries c.args.name.now c.self.view_is c.in_err-index.ensures.index)

pub returns : goal.returns
returns c =
    found c.args.self.now c.self.inside.images.entries c.args.name.now c.in_ok-index.index c.in_ok-index.field-0-1.now c.in_ok-index.ty.now
    c.self.view_is c.self.invariant c.in_ok-index.ensures.index c.in_ok-index.ensures.entry
