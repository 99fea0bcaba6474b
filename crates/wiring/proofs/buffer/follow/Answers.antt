use Rattle.wiring.specs.Netlist.{netlist_of}
use Rattle.wiring.proofs.MarkSpread.{Spreads-trans}
use Rattle.wiring.proofs.buffer.follow.Goals as goal

pub returns-in_err-push : goal.returns-in_err-push
returns-in_err-push c = Spreads-trans (netlist_of c.args.wiring.now) c.args.marks.now c.loop.marks c.mark_drive.new.marks c.loop.invariant c.mark_drive.ensures

pub loop-preserved : goal.loop-preserved
loop-preserved c = Spreads-trans (netlist_of c.args.wiring.now) c.args.marks.now c.loop.marks c.mark_drive.new.marks c.loop.invariant c.mark_drive.ensures
