use Rattle.std.proofs.Common.{◌≤ℤ◌}
use Rattle.stencil_sets.specs.Found.{RunSoFar}
use Rattle.stencil_sets.proofs.found.push_run.Given as goal

abbrev pub invariant-loop-dx : goal.invariant-loop-dx
invariant-loop-dx l = RunSoFar l.fn.all.items l.all.items l.fn.f l.fn.g l.fn.dy l.fn.from l.dx × (l.fn.from ≤ℤ l.dx) × (l.dx ≤ℤ l.fn.end)
