use Rattle.std.proofs.Common.{ℕ, ◌<◌, slice_index_or}
use Rattle.pointwise_ir.specs.Programs.{IsOutput, all_types}
use Rattle.pointwise_ir.proofs.typing.are_outputs.Given as goal

abbrev pub invariant-loop-output : goal.invariant-loop-output
invariant-loop-output l = (k : ℕ) (d : ℕ) → k < l.output-index → IsOutput (all_types l.inputs l.images) (slice_index_or l.outputs k d)
