use Rattle.std.proofs.Common.{◌≡◌, ℕ, slice_index_or, ◌<◌, ◌≤◌}
use Rattle.pointwise_ir.specs.declared.program.Definition.{Definition}
use Rattle.dk_inline.specs.Standing.{IsFoldedImage}
use Rattle.dk_inline.proofs.fold.fold_images.Given as goal

abbrev pub invariant-loop-image : goal.invariant-loop-image
invariant-loop-image l = record {
  done : (k : ℕ) (d : Definition) → k < l.image-index → IsFoldedImage (slice_index_or l.fn.images k d) (slice_index_or l.images k d);
  rest : (k : ℕ) (d : Definition) → l.image-index ≤ k → slice_index_or l.images k d ≡ slice_index_or l.fn.images k d;
}
