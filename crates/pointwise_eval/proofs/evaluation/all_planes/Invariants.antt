use Rattle.std.proofs.Common.{take, ◌+◌, length}
use Rattle.pointwise_ir.specs.Programs.{all_types}
use Rattle.pointwise_ir.specs.Meaning.{pictures}
use Rattle.pointwise_eval.specs.Planes.{ShowsNeeded, AreKnownOrGone}
use Rattle.pointwise_eval.specs.Rounds.{round_of}
use Rattle.pointwise_eval.proofs.evaluation.all_planes.Given as goal

abbrev pub invariant-loop-k : goal.invariant-loop-k
invariant-loop-k l = record {
  shows : ShowsNeeded l.ir.size (all_types l.ir.inputs (take l.k l.ir.images)) (pictures l.ir (round_of l.ir.size l.frames)) l.until (length l.ir.inputs + l.k) l.planes.items;
  known : AreKnownOrGone l.ir.size (pictures l.ir (round_of l.ir.size l.frames)) l.planes.items;
}
