use Rattle.std.proofs.Common.{◌∙◌}
use Rattle.circuit.proofs.Knowing.{found_some}
use Rattle.circuit.proofs.known.KnownReads.find.Goals as goal

pub returns : goal.returns
returns c = found_some c.args.self.now c.self.inside.places.entries c.self.view_is c.args.key.now c.copied.result (c.copied.ensures ∙ c.get.ensures.value)
