use Rattle.std.proofs.Common.{length, ap, ◌∙◌}
use Rattle.line_buffer.specs.Places.{later}
use Rattle.circuit.proofs.Counting.{chain_count}
use Rattle.circuit.proofs.slots.chain_arrays.Goals as goal

pub returns : goal.returns
returns c = chain_count c.args.plan.now c.args.image _ (ap length (c.later_ages.ensures ∙ ap later c.ages.ensures.ages))
