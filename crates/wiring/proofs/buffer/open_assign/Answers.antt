use Rattle.std.proofs.Common.{take, length, subst, sym, refl}
use Rattle.std.specs.Prelude.{All}
use Rattle.std.proofs.lemmas.List.Elements.{All-push}
use Rattle.std.proofs.lemmas.Option.{slice_get_read}
use Rattle.wiring.specs.declared.netlist.Assign.{Assign}
use Rattle.wiring.specs.BufferBits.{assign_drive}
use Rattle.wiring.specs.Marks.{IsClosed}
use Rattle.wiring.proofs.Tabled.{take_step, take_whole}
use Rattle.wiring.proofs.buffer.open_assign.Goals as goal

pub returns-then-is_open_assign-clause-some : goal.returns-then-is_open_assign-clause-some
returns-then-is_open_assign-clause-some c =
    let at = slice_get_read c.args.assigns.now (length c.args.assigns.now) c.loop-assign.assign-index c.assign-item.result refl c.loop-assign-test.true c.assign-item.is in
    (c.loop-assign.assign-index, c.assign-item.result, at, c.if-is_open_assign.ensures)

pub loop-assign-preserved : goal.loop-assign-preserved
loop-assign-preserved c =
    let at = slice_get_read c.args.assigns.now (length c.args.assigns.now) c.loop-assign.assign-index c.assign-item.result refl c.loop-assign-test.true c.assign-item.is in
    subst (All (λ (x : Assign). IsClosed c.args.marks.now (assign_drive x))) (sym (take_step c.args.assigns.now c.loop-assign.assign-index c.assign-item.result at))
    (All-push (λ (x : Assign). IsClosed c.args.marks.now (assign_drive x)) (take c.loop-assign.assign-index c.args.assigns.now) c.assign-item.result c.loop-assign.invariant c.if-is_open_assign.ensures)

pub returns-clause-none : goal.returns-clause-none
returns-clause-none c = subst (All (λ (x : Assign). IsClosed c.args.marks.now (assign_drive x))) (take_whole c.args.assigns.now c.loop-assign.assign-index c.loop-assign-test.false) c.loop-assign.invariant
