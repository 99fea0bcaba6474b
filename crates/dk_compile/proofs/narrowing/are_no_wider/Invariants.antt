use Rattle.std.proofs.Common.{ℕ, ◌<◌}
use Rattle.pointwise_ir.specs.Programs.{types_of}
use Rattle.dk_compile.specs.Narrowed.{HasNoMoreBits}
use Rattle.dk_compile.proofs.narrowing.are_no_wider.Given as goal

abbrev pub invariant-loop-k : goal.invariant-loop-k
invariant-loop-k l = record {
  each : (j : ℕ) → j < l.k → HasNoMoreBits (types_of l.fn.old) (types_of l.fn.new) j;
}
