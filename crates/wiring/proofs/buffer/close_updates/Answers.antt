use Rattle.std.proofs.Common.{◌≡◌, Some, subst, List}
use Rattle.std.specs.Prelude.{slice_get, All}
use Rattle.wiring.specs.declared.netlist.Update.{Update}
use Rattle.wiring.specs.BufferBits.{update_drive}
use Rattle.wiring.specs.Netlist.{netlist_of}
use Rattle.wiring.specs.Marks.{HasMark, IsClosed}
use Rattle.wiring.proofs.MarkSpread.{update_opens, update_place, all_drives}
use Rattle.wiring.proofs.buffer.close_updates.Goals as goal

pub add_mark-requires-clause-place : goal.add_mark-requires-clause-place
add_mark-requires-clause-place c =
    let some = c.in-Some.ensures.some in
    let at : slice_get c.args.wiring.now.updates.items some.0 ≡ Some some.1 = subst (λ (l : List Update). slice_get l some.0 ≡ Some some.1) c.deref.ensures.value some.2 in
    subst (HasMark c.args.marks.now) some.3.target (update_place (netlist_of c.args.wiring.now) c.requires.rules c.args.marks.now c.requires.size some.0 some.1 at)

pub returns-in-Some-clause-spreads : goal.returns-in-Some-clause-spreads
returns-in-Some-clause-spreads c =
    let some = c.in-Some.ensures.some in
    let at : slice_get c.args.wiring.now.updates.items some.0 ≡ Some some.1 = subst (λ (l : List Update). slice_get l some.0 ≡ Some some.1) c.deref.ensures.value some.2 in
    update_opens (netlist_of c.args.wiring.now) c.args.marks.now c.add_mark.new.marks some.0 some.1 c.in-Some.target at some.3 c.add_mark.ensures

pub returns-in-None-clause-closed : goal.returns-in-None-clause-closed
returns-in-None-clause-closed c _ = all_drives (netlist_of c.args.wiring.now) c.args.marks.now c.requires.assigns (subst (λ (l : List Update). All (λ (u : Update). IsClosed c.args.marks.now (update_drive u)) l) c.deref.ensures.value c.in-None.ensures.none)
