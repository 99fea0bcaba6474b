use Rattle.dk_types.proofs.Names.{added, fuller, full_is}
use Rattle.dk_types.proofs.scope.Scope.add.Goals as goal

pub invariant_of-self-2 : goal.invariant_of-self-2
invariant_of-self-2 c =
    fuller c.args.self.now c.insert.new.self.entries c.args.name.now c.args.ty (full_is c.args.self.now c.self.inside.images.entries c.self.view_is c.self.invariant) c.requires.room c.requires.is_type
    (added c.args.self.now c.self.inside.images.entries c.insert.new.self.entries c.args.name c.args.ty c.self.view_is c.requires.new c.in_ok-insert.ensures.entries)

pub returns : goal.returns
returns c = added c.args.self.now c.self.inside.images.entries c.insert.new.self.entries c.args.name c.args.ty c.self.view_is c.requires.new c.in_ok-insert.ensures.entries
