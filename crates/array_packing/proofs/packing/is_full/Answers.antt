use Rattle.std.proofs.Common.{◌≡◌, List, ap, subst, ◌∙◌}
use Rattle.wiring.specs.declared.netlist.Shape.{Shape}
use Rattle.wiring.specs.Netlist.{Netlist}
use Rattle.array_packing.specs.Packing.{AreFilledTo, widths_of}
use Rattle.array_packing.proofs.Reached.{all_filled}
use Rattle.array_packing.proofs.packing.is_full.Goals as goal

pub returns : goal.returns
returns c h =
    let slots = c.args.slots.now in
    let arrays : c.deref.result.now ≡ c.args.new.now.netlist.arrays = c.deref.ensures.value ∙ ap (λ (m : Netlist). m.arrays) c.wiring.ensures.netlist in
    all_filled c.args.new.now.netlist slots (subst (λ (l : List Shape). AreFilledTo slots (widths_of l)) arrays (c.in_ok-full.ensures h))
