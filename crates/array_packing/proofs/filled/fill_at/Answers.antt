use Rattle.std.proofs.Common.{◌≡◌, subst, sym, Some}
use Rattle.std.specs.Prelude.{slice_get, slice_index_or}
use Rattle.std.proofs.lemmas.Option.{slice_get-get_or}
use Rattle.array_packing.specs.declared.slots.Slot.{Slot}
use Rattle.array_packing.specs.Packing.{AreFilledTo}
use Rattle.array_packing.proofs.Reached.{slot_filled}
use Rattle.array_packing.proofs.filled.fill_at.Goals as goal

pub returns : goal.returns
returns c h =
    let slots = c.args.slots.now in
    let none : Slot = record { array = 0; low = 0; width = 0 } in
    let slot = slice_index_or slots c.args.k none in
    let at : slice_get slots c.args.k ≡ Some slot = slice_get-get_or slots c.args.k none c.requires.there in
    subst (AreFilledTo slots) (sym (c.fill.ensures.filled h)) (slot_filled slots c.args.reached.now c.args.k slot at (c.fill.ensures.within h) (c.fill.ensures.low h) c.requires.filled)
