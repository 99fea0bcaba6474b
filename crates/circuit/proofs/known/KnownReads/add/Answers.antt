use Rattle.circuit.proofs.Knowing.{added}
use Rattle.circuit.proofs.known.KnownReads.add.Goals as goal

pub returns : goal.returns
returns c = added c.args.self.now c.self.inside.places.entries c.self.view_is c.args.key c.args.place c.insert.new.self.entries c.in_ok-insert.ensures.entries
