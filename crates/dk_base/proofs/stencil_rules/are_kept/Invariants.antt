use Rattle.std.proofs.Common.{ℕ, ◌<◌, slice_index_or}
use Rattle.dk_base.specs.Stencils.{IsKept}
use Rattle.dk_base.proofs.stencil_rules.are_kept.Given as goal

abbrev pub invariant-loop-output : goal.invariant-loop-output
invariant-loop-output l = (k : ℕ) (d : ℕ) → k < l.output-index → IsKept l.images (slice_index_or l.outputs k d)
