use Rattle.std.proofs.Common.{rules}
use Rattle.wiring.specs.Netlist.{netlist_of}
use Rattle.array_packing.proofs.Inner.{reached}
use Rattle.array_packing.proofs.check.holds_part.Goals as goal

pub returns-then-same_atom : goal.returns-then-same_atom
returns-then-same_atom c h =
    reached (netlist_of c.args.m.now) c.args.part.now c.loop.whole c.args.value c.args.low c.loop.rest c.loop.invariant (search rules) (search rules)
