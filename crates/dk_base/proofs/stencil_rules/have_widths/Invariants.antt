use Rattle.std.proofs.Common.{ℕ, ◌<◌, slice_index_or}
use Rattle.dk_base.specs.declared.stencils.Image.{Image}
use Rattle.dk_base.specs.Stencils.{HasWidth}
use Rattle.dk_base.proofs.stencil_rules.have_widths.Given as goal

abbrev pub invariant-loop-image : goal.invariant-loop-image
invariant-loop-image l = (k : ℕ) (d : Image) → k < l.image-index → HasWidth (slice_index_or l.images k d)
