use Rattle.std.proofs.Common.{rules}
use Rattle.wiring.specs.Netlist.{netlist_of}
use Rattle.array_packing.proofs.Places.{all_slots}
use Rattle.array_packing.proofs.nets.have_slots.Goals as goal

pub returns : goal.returns
returns c h = all_slots (netlist_of c.args.m.now) c.args.slots.now c.args.arrays.now (search rules) (c.are_slots-all.ensures h)
