use Rattle.std.proofs.Common.{ℕ, ◌<◌, ◌≡◌, slice_index}
use Rattle.dk_base.specs.Stencils.{numbers}
use Rattle.dk_base.proofs.stencil_rules.inputs_first.Given as goal

abbrev pub invariant-loop-k : goal.invariant-loop-k
invariant-loop-k l = (j : ℕ) → j < l.k → slice_index (numbers l.images) j ≡ j
