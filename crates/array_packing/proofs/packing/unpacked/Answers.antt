use Rattle.std.proofs.Common.{◌≡◌, List, ap, sym, subst, ◌∙◌}
use Rattle.wiring.specs.Netlist.{Netlist}
use Rattle.array_packing.specs.declared.slots.Slot.{Slot}
use Rattle.array_packing.specs.Packing.{IsPacking, whole_slots}
use Rattle.array_packing.proofs.Whole.{whole_packing}
use Rattle.array_packing.proofs.packing.unpacked.Goals as goal

pub returns-clause-packing : goal.returns-clause-packing
returns-clause-packing c =
    let m : Netlist = c.args.old.netlist in
    let arrays : c.deref.result.now ≡ m.arrays = c.deref.ensures.value ∙ ap (λ (n : Netlist). n.arrays) c.wiring.ensures.netlist in
    let same = c.in_ok-slots.ensures ∙ ap (whole_slots 0) arrays in
    subst (λ (l : List Slot). IsPacking m m l) (sym same) (whole_packing m c.wiring.ensures.rules)
