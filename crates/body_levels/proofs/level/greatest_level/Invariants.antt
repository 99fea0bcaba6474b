use Rattle.std.proofs.Common.{◌≡◌, take}
use Rattle.pointwise_ir.specs.Programs.{bodies_of}
use Rattle.body_levels.specs.Levels.{greatest_level}
use Rattle.body_levels.proofs.level.greatest_level.Given as goal

abbrev pub invariant-loop-k : goal.invariant-loop-k
invariant-loop-k l = record {
  most : l.most ≡ greatest_level (take l.k (bodies_of l.program));
}
