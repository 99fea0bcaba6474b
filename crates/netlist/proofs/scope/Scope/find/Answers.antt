use Rattle.netlist.proofs.Naming.{copied_named}
use Rattle.std.proofs.Common.{◌∙◌}
use Rattle.netlist.proofs.scope.Scope.find.Goals as goal

pub returns : goal.returns
returns c = copied_named c.args.self.now c.self.inside.names.entries c.args.name.now c.self.view_is c.copied.result (c.copied.ensures ∙ c.get.ensures.value)
