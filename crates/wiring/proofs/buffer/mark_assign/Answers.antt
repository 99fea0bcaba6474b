use Rattle.wiring.specs.Netlist.{netlist_of}
use Rattle.std.proofs.Common.{◌≡◌, Some, subst, List}
use Rattle.std.specs.Prelude.{slice_get}
use Rattle.wiring.specs.declared.netlist.Assign.{Assign}
use Rattle.wiring.proofs.MarkSpread.{assign_spreads, assign_place}
use Rattle.wiring.proofs.buffer.mark_assign.Goals as goal

pub add_mark-requires-clause-place : goal.add_mark-requires-clause-place
add_mark-requires-clause-place c =
    let at : slice_get c.args.wiring.now.assigns.items c.args.number ≡ Some c.in-Some.assign.now = subst (λ (l : List Assign). slice_get l c.args.number ≡ Some c.in-Some.assign.now) c.deref.ensures.value c.in-Some.ensures in
    assign_place (netlist_of c.args.wiring.now) c.requires.rules c.args.marks.now c.requires.size c.args.number c.in-Some.assign.now at

pub returns-else-not-is_open_assign : goal.returns-else-not-is_open_assign
returns-else-not-is_open_assign c =
    let at : slice_get c.args.wiring.now.assigns.items c.args.number ≡ Some c.in-Some.assign.now = subst (λ (l : List Assign). slice_get l c.args.number ≡ Some c.in-Some.assign.now) c.deref.ensures.value c.in-Some.ensures in
    assign_spreads (netlist_of c.args.wiring.now) c.args.marks.now c.add_mark.new.marks c.args.number c.in-Some.assign.now at c.if-not-is_open_assign.ensures c.add_mark.ensures
