use Rattle.std.proofs.Common.{◌≡◌, Some, subst, List}
use Rattle.std.specs.Prelude.{slice_get}
use Rattle.wiring.specs.declared.netlist.Assign.{Assign}
use Rattle.wiring.specs.Netlist.{netlist_of}
use Rattle.wiring.specs.Marks.{HasMark}
use Rattle.wiring.proofs.MarkSpread.{assign_opens, assign_place}
use Rattle.wiring.proofs.buffer.close.Goals as goal

pub add_mark-requires-clause-place : goal.add_mark-requires-clause-place
add_mark-requires-clause-place c =
    let some = c.in-Some.ensures.some in
    let at : slice_get c.args.wiring.now.assigns.items some.0 ≡ Some some.1 = subst (λ (l : List Assign). slice_get l some.0 ≡ Some some.1) c.deref.ensures.value some.2 in
    subst (HasMark c.args.marks.now) some.3.target (assign_place (netlist_of c.args.wiring.now) c.requires.rules c.args.marks.now c.requires.size some.0 some.1 at)

pub returns-in-Some-clause-spreads : goal.returns-in-Some-clause-spreads
returns-in-Some-clause-spreads c =
    let some = c.in-Some.ensures.some in
    let at : slice_get c.args.wiring.now.assigns.items some.0 ≡ Some some.1 = subst (λ (l : List Assign). slice_get l some.0 ≡ Some some.1) c.deref.ensures.value some.2 in
    assign_opens (netlist_of c.args.wiring.now) c.args.marks.now c.add_mark.new.marks some.0 some.1 c.in-Some.target at some.3 c.add_mark.ensures
