use Rattle.std.proofs.Common.{ℕ, ◌<◌, slice_index_or}
use Rattle.pointwise_ir.specs.declared.program.Input.{Input}
use Rattle.dk_base.specs.Types.{IsPort}
use Rattle.pointwise_ir.proofs.typing.are_inputs.Given as goal

abbrev pub invariant-loop-input : goal.invariant-loop-input
invariant-loop-input l = (k : ℕ) (d : Input) → k < l.input-index → IsPort (slice_index_or l.inputs k d).ty
