use Rattle.std.proofs.Common.{◌≡◌, min, take}
use Rattle.pointwise_ir.specs.Programs.{bodies_of}
use Rattle.body_levels.specs.Reasons.{pieces_of}
use Rattle.body_levels.proofs.room.all_pieces.Given as goal

abbrev pub invariant-loop-k : goal.invariant-loop-k
invariant-loop-k l = record {
  pieces : l.pieces ≡ min (pieces_of l.most (take l.k (bodies_of l.program))) 4294967295;
}
