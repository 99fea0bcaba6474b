use Rattle.std.proofs.Common.{rules}
use Rattle.wiring.specs.Netlist.{netlist_of}
use Rattle.array_packing.proofs.Inner.{inner_below, inner_above}
use Rattle.array_packing.proofs.check.inner_part.Goals as goal

pub returns-then-low-bits : goal.returns-then-low-bits
returns-then-low-bits c =
    inner_below (netlist_of c.args.m.now) c.in-Net.net c.in-Some.found.now.right c.in-Join.upper c.in-Join.lower c.args.whole.now c.args.low (search rules) (search rules) (search rules)

pub returns : goal.returns
returns c =
    inner_above (netlist_of c.args.m.now) c.in-Net.net c.in-Some.found.now.right c.in-Join.upper c.in-Join.lower c.args.whole.now c.args.low (search rules) (search rules) (search rules)
    c.in-Some-atom_bits.bits (search rules) (search rules)
