use Rattle.std.proofs.Common.{rules, ap, subst, length, Contains, ◌<◌}
use Rattle.std.proofs.lemmas.Result.{on_ok_weaker}
use Rattle.stencil_sets.specs.Marks.{MarksMore}
use Rattle.stencil_sets.proofs.Marked.{marks_first, marks_done}
use Rattle.stencil_sets.proofs.kept.mark_all.Goals as goal

pub mark_needed-requires : goal.mark_needed-requires
mark_needed-requires c =
    let p = c.args.ir.now in
    let a = subst (λ n. MarksMore c.args.kept.now c.mark_inputs.new.kept (λ h. h < n)) (ap length c.inputs.ensures) c.mark_inputs.ensures.more in
    let b = subst (λ xs. MarksMore c.mark_inputs.new.kept c.mark_outputs.new.kept (λ h. Contains xs h)) c.outputs.ensures c.mark_outputs.ensures.more in
    record {
      one_each = search rules;
      sound = marks_first p c.args.kept.now c.mark_inputs.new.kept c.mark_outputs.new.kept c.requires.none a b;
    }

pub returns-clause-marks : goal.returns-clause-marks
returns-clause-marks c =
    let p = c.args.ir.now in
    let a = subst (λ n. MarksMore c.args.kept.now c.mark_inputs.new.kept (λ h. h < n)) (ap length c.inputs.ensures) c.mark_inputs.ensures.more in
    let b = subst (λ xs. MarksMore c.mark_inputs.new.kept c.mark_outputs.new.kept (λ h. Contains xs h)) c.outputs.ensures c.mark_outputs.ensures.more in
    on_ok_weaker c.mark_needed.result (λ s. marks_done p c.law.ensures c.args.kept.now c.mark_inputs.new.kept c.mark_outputs.new.kept c.mark_needed.new.kept c.requires.one_each a b s) c.mark_needed.ensures.done
