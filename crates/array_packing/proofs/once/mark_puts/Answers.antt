use Rattle.std.proofs.Common.{◌+◌, ◌++◌, ◌∙◌, drop, ap, refl, sym, subst}
use Rattle.wiring.specs.declared.netlist.Update.{Update}
use Rattle.wiring.specs.Snapshot.{update_accesses, accesses_of}
use Rattle.array_packing.specs.Packing.{Marks}
use Rattle.array_packing.proofs.Marking.{accesses_more, marks_both}
use Rattle.array_packing.proofs.once.mark_puts.Goals as goal

pub loop-update-preserved : goal.loop-update-preserved
loop-update-preserved c = λ new marks.
    let rest = accesses_of update_accesses (drop (c.loop-update.update-index + 1) c.args.updates.now) in
    c.loop-update.invariant new
    (subst (Marks c.loop-update.seen new) (sym (accesses_more update_accesses c.args.updates.now c.loop-update.update-index c.update-item.result c.loop-update-test.true ∙ ap (λ (x : Update). update_accesses x ++ rest) (sym c.update-item.is)))
    (marks_both c.loop-update.seen c.mark_put.new.seen new _ rest (c.if-not-mark_put.ensures refl) marks))
