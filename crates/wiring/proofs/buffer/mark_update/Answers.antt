use Rattle.std.proofs.Common.{◌≡◌, Some, subst, sym, List}
use Rattle.std.specs.Prelude.{slice_get}
use Rattle.wiring.specs.declared.netlist.Update.{Update}
use Rattle.wiring.specs.declared.netlist.Holder.{Holder}
use Rattle.wiring.specs.Netlist.{netlist_of}
use Rattle.wiring.specs.Marks.{Adds, HasMark}
use Rattle.wiring.proofs.MarkSpread.{update_spreads, update_place}
use Rattle.wiring.proofs.buffer.mark_update.Goals as goal

pub add_mark-requires-clause-place : goal.add_mark-requires-clause-place
add_mark-requires-clause-place c =
    let at : slice_get c.args.wiring.now.updates.items c.args.number ≡ Some c.in-Some.update.now = subst (λ (l : List Update). slice_get l c.args.number ≡ Some c.in-Some.update.now) c.deref.ensures.value c.in-Some.ensures in
    subst (HasMark c.args.marks.now) (sym c.target_of-target.ensures) (update_place (netlist_of c.args.wiring.now) c.requires.rules c.args.marks.now c.requires.size c.args.number c.in-Some.update.now at)

pub returns-else-not-is_open_update : goal.returns-else-not-is_open_update
returns-else-not-is_open_update c =
    let at : slice_get c.args.wiring.now.updates.items c.args.number ≡ Some c.in-Some.update.now = subst (λ (l : List Update). slice_get l c.args.number ≡ Some c.in-Some.update.now) c.deref.ensures.value c.in-Some.ensures in
    update_spreads (netlist_of c.args.wiring.now) c.args.marks.now c.add_mark.new.marks c.args.number c.in-Some.update.now at c.if-not-is_open_update.ensures (subst (λ (h : Holder). Adds c.args.marks.now c.add_mark.new.marks h) c.target_of-target.ensures c.add_mark.ensures)
