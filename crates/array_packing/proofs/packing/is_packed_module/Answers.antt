use Rattle.std.proofs.Common.{subst}
use Rattle.wiring.specs.Netlist.{Netlist, netlist_of}
use Rattle.array_packing.specs.Packing.{IsPacked}
use Rattle.array_packing.proofs.packing.is_packed_module.Goals as goal

pub returns : goal.returns
returns c h =
    let new = c.args.new.now.netlist in
    let old = c.args.old.now.netlist in
    let slots = c.args.slots.now in
    let tested = c.is_packed.ensures h in
    let seen_old : IsPacked (netlist_of c.wiring.result.now) old slots = subst (λ (m : Netlist). IsPacked (netlist_of c.wiring.result.now) m slots) c.wiring-2.ensures.netlist tested in
    subst (λ (m : Netlist). IsPacked m old slots) c.wiring.ensures.netlist seen_old
