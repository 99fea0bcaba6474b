use Rattle.std.proofs.Common.{take, length, subst, sym, refl}
use Rattle.std.specs.Prelude.{All}
use Rattle.std.proofs.lemmas.List.Elements.{All-push}
use Rattle.std.proofs.lemmas.Option.{slice_get_read}
use Rattle.wiring.specs.declared.netlist.Update.{Update}
use Rattle.wiring.specs.declared.netlist.Holder.{Holder}
use Rattle.wiring.specs.BufferBits.{update_drive}
use Rattle.wiring.specs.Marks.{IsClosed, IsOpen}
use Rattle.wiring.proofs.Tabled.{take_step, take_whole}
use Rattle.wiring.proofs.buffer.open_update.Goals as goal

pub returns-then-is_open_update-clause-some : goal.returns-then-is_open_update-clause-some
returns-then-is_open_update-clause-some c =
    let at = slice_get_read c.args.updates.now (length c.args.updates.now) c.loop-update.update-index c.update-item.result refl c.loop-update-test.true c.update-item.is in
    (c.loop-update.update-index, c.update-item.result, at, subst (λ (h : Holder). IsOpen c.args.marks.now (update_drive c.update-item.result) h) (sym c.target_of.ensures) c.if-is_open_update.ensures)

pub loop-update-preserved : goal.loop-update-preserved
loop-update-preserved c =
    let at = slice_get_read c.args.updates.now (length c.args.updates.now) c.loop-update.update-index c.update-item.result refl c.loop-update-test.true c.update-item.is in
    subst (All (λ (x : Update). IsClosed c.args.marks.now (update_drive x))) (sym (take_step c.args.updates.now c.loop-update.update-index c.update-item.result at))
    (All-push (λ (x : Update). IsClosed c.args.marks.now (update_drive x)) (take c.loop-update.update-index c.args.updates.now) c.update-item.result c.loop-update.invariant c.if-is_open_update.ensures)

pub returns-clause-none : goal.returns-clause-none
returns-clause-none c = subst (All (λ (x : Update). IsClosed c.args.marks.now (update_drive x))) (take_whole c.args.updates.now c.loop-update.update-index c.loop-update-test.false) c.loop-update.invariant
