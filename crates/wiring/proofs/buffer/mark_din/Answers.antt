use Rattle.wiring.specs.Netlist.{netlist_of}
use Rattle.wiring.proofs.MarkSpread.{din_spreads}
use Rattle.wiring.proofs.buffer.mark_din.Goals as goal

pub returns-clause-spreads : goal.returns-clause-spreads
returns-clause-spreads c = din_spreads (netlist_of c.args.wiring.now) c.args.marks.now c.add_mark.new.marks c.args.number c.requires.port c.requires.within c.add_mark.ensures
