use Rattle.std.proofs.Common.{ℕ, ◌<◌}
use Rattle.dk_types.specs.Typed.{Definition, typing_of}
use Rattle.dk_inline.specs.Nodes.{IsDeep}
use Rattle.dk_inline.proofs.extent.first_deep.Given as goal

abbrev pub invariant-loop-k : goal.invariant-loop-k
invariant-loop-k l = (j : ℕ) (d : Definition) → j < l.k → IsDeep (typing_of l.program) j d → ⊥
