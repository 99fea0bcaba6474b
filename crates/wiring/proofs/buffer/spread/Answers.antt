use Rattle.wiring.specs.Netlist.{netlist_of}
use Rattle.wiring.proofs.MarkSpread.{Spreads-trans}
use Rattle.wiring.proofs.buffer.spread.Goals as goal

pub returns-in_err-follow : goal.returns-in_err-follow
returns-in_err-follow c = Spreads-trans (netlist_of c.args.wiring.now) c.args.marks.now c.loop-number.marks c.follow.new.marks c.loop-number.invariant c.follow.ensures

pub loop-number-preserved : goal.loop-number-preserved
loop-number-preserved c = Spreads-trans (netlist_of c.args.wiring.now) c.args.marks.now c.loop-number.marks c.follow.new.marks c.loop-number.invariant c.follow.ensures
