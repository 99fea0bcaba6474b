use Rattle.std.proofs.Common.{get_or, take}
use Rattle.std.proofs.lemmas.List.{take_more}
use Rattle.cycle_sim.proofs.Built.{zip_push}
use Rattle.wiring.specs.Netlist.{Netlist, netlist_of}
use Rattle.cycle_sim.specs.Code.{IsInstructionAt}
use Rattle.cycle_sim.proofs.build.note_code.Goals as goal

pub loop-number-preserved : goal.loop-number-preserved
loop-number-preserved c =
    let m : Netlist = netlist_of c.args.wiring.now in
    let k = get_or c.args.order.now c.loop-number.number-index 0 in
    let new = c.in_ok-note_instruction.ensures in
    let more = zip_push (IsInstructionAt m) (take c.loop-number.number-index c.args.order.now) c.loop-number.code.items k new.0 c.loop-number.invariant new.1 in
    rw (new.2, take_more c.args.order.now c.loop-number.number-index 0 c.loop-number-test.true) more
