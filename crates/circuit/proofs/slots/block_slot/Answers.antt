use Rattle.std.proofs.Common.{◌∙◌, sym, ap, subst}
use Rattle.line_buffer.specs.Places.{Ascend, later}
use Rattle.line_buffer.proofs.Ages.{later_ascends}
use Rattle.circuit.specs.Splits.{lists_of, split_ages}
use Rattle.circuit.proofs.Splitting.{split_finer}
use Rattle.circuit.proofs.slots.block_slot.Goals as goal

pub segment_slot-requires-clause-ascend : goal.segment_slot-requires-clause-ascend
segment_slot-requires-clause-ascend c =
    let proposed = lists_of c.args.proposed.now in
    subst (Ascend 0) (sym (c.later_ages.ensures ∙ ap later c.split_of.ensures.ages)) (later_ascends (split_ages proposed c.args.plan.now c.args.image) (split_finer proposed c.args.plan.now c.args.image).ascending)
