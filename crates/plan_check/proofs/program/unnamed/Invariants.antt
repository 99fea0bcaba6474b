use Rattle.std.proofs.Common.{◌<◌, ℕ}
use Rattle.pointwise_ir.specs.Programs.{names_of}
use Rattle.plan_check.specs.Program.{IsNamed}
use Rattle.plan_check.proofs.program.unnamed.Given as goal

abbrev pub invariant-loop-k : goal.invariant-loop-k
invariant-loop-k l = (k : ℕ) → k < l.k → IsNamed (names_of l.ir) l.stencils l.images k
