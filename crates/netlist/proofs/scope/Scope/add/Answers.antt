use Rattle.std.proofs.Common.{refl, sym}
use Rattle.netlist.proofs.Naming.{taken, added, still_distinct}
use Rattle.netlist.proofs.scope.Scope.add.Goals as goal

pub returns-then-contains_key : goal.returns-then-contains_key
returns-then-contains_key c = taken c.args.self.now c.self.inside.names.entries c.args.name.now c.self.view_is c.args.declared c.self.invariant (sym c.if-contains_key.ensures)

pub invariant_of-self-2 : goal.invariant_of-self-2
invariant_of-self-2 c =
    still_distinct c.args.self.now c.self.inside.names.entries c.args.name.now c.self.view_is c.args.name c.args.stands refl c.insert.new.self.entries (sym c.if-contains_key.ensures) c.in_ok-insert.ensures.entries c.self.invariant

pub returns : goal.returns
returns c = added c.args.self.now c.self.inside.names.entries c.args.name.now c.self.view_is c.args.name c.args.stands refl c.insert.new.self.entries (sym c.if-contains_key.ensures) c.in_ok-insert.ensures.entries
