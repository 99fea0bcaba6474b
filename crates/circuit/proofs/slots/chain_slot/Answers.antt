use Rattle.std.proofs.Common.{◌∙◌, sym, ap, subst}
use Rattle.line_buffer.specs.Places.{Ascend, later}
use Rattle.line_buffer.proofs.Ages.{later_ascends}
use Rattle.buffer_plan.proofs.Aged.{are_ages}
use Rattle.buffer_plan.specs.Plans.{ages_of}
use Rattle.circuit.proofs.slots.chain_slot.Goals as goal

pub segment_slot-requires-clause-ascend : goal.segment_slot-requires-clause-ascend
segment_slot-requires-clause-ascend c = subst (Ascend 0) (sym (c.later_ages.ensures ∙ ap later c.ages.ensures.ages)) (later_ascends (ages_of c.args.plan.now c.args.image) (are_ages c.args.plan.now c.args.image).ascending)
