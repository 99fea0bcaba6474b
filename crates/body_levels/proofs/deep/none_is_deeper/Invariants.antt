use Rattle.std.proofs.Common.{◌≡◌, ◌<◌, ℕ, max, Some, slice_get}
use Rattle.pointwise_ir.specs.declared.program.Definition.{Definition}
use Rattle.body_levels.specs.Deep.{image_levels, HasWithin}
use Rattle.body_levels.proofs.deep.none_is_deeper.Given as goal

-- so it is for the images before
abbrev pub invariant-loop-k : goal.invariant-loop-k
invariant-loop-k l = record {
  before : (j : ℕ) (d : Definition) → j < l.k → slice_get l.old.images j ≡ Some d → HasWithin l.new d.name (max l.most (image_levels d));
}
