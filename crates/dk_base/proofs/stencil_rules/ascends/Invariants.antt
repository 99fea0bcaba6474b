use Rattle.std.proofs.Common.{ℕ, ◌+◌, ◌<◌, slice_index_or}
use Rattle.dk_base.specs.declared.stencils.Image.{Image}
use Rattle.dk_base.proofs.stencil_rules.ascends.Given as goal

abbrev pub invariant-loop-k : goal.invariant-loop-k
invariant-loop-k l = (i : ℕ) (d : Image) → i + 1 < l.k → (slice_index_or l.images i d).number < (slice_index_or l.images (i + 1) d).number
