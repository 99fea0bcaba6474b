use Rattle.wiring.specs.Netlist.{netlist_of}
use Rattle.array_packing.proofs.Places.{one_more}
use Rattle.array_packing.proofs.nets.are_slots.Goals as goal

pub loop-x-preserved : goal.loop-x-preserved
loop-x-preserved c = one_more (netlist_of c.args.m.now) c.args.slots.now c.args.arrays.now c.loop-x.x (c.is_slot_at.ensures c.if-not-is_slot_at.false) c.loop-x.invariant
