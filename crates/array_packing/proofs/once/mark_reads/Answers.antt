use Rattle.std.proofs.Common.{◌+◌, ◌++◌, ◌∙◌, drop, ap, refl, sym, subst}
use Rattle.wiring.specs.declared.netlist.Assign.{Assign}
use Rattle.wiring.specs.Snapshot.{right_accesses, accesses_of}
use Rattle.array_packing.specs.Packing.{Marks}
use Rattle.array_packing.proofs.Marking.{accesses_more, marks_both}
use Rattle.array_packing.proofs.once.mark_reads.Goals as goal

pub loop-assign-preserved : goal.loop-assign-preserved
loop-assign-preserved c = λ new marks.
    let rest = accesses_of (λ (a : Assign). right_accesses a.right) (drop (c.loop-assign.assign-index + 1) c.args.assigns.now) in
    c.loop-assign.invariant new
    (subst (Marks c.loop-assign.seen new) (sym (accesses_more (λ (a : Assign). right_accesses a.right) c.args.assigns.now c.loop-assign.assign-index c.assign-item.result c.loop-assign-test.true ∙ ap (λ (x : Assign). right_accesses x.right ++ rest) (sym c.assign-item.is)))
    (marks_both c.loop-assign.seen c.mark_read.new.seen new _ rest (c.if-not-mark_read.ensures refl) marks))
