use Rattle.std.proofs.Common.{length, ap, ◌∙◌}
use Rattle.line_buffer.specs.Places.{later}
use Rattle.circuit.specs.Splits.{lists_of}
use Rattle.circuit.proofs.Counting.{block_count}
use Rattle.circuit.proofs.slots.block_arrays.Goals as goal

pub returns : goal.returns
returns c = block_count (lists_of c.args.proposed.now) c.args.plan.now c.args.image _ (ap length (c.later_ages.ensures ∙ ap later c.split_of.ensures.ages))
