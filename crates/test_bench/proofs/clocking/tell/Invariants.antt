use Rattle.std.proofs.Common.{◌≡◌, take}
use Rattle.test_bench.specs.Clocking.{GoOn}
use Rattle.test_bench.specs.BatchClocks.{pairs_of}
use Rattle.test_bench.proofs.clocking.tell.Given as goal

abbrev pub invariant-loop-out : goal.invariant-loop-out
invariant-loop-out g l =
    let outside = g.D.Desk.outside in
    record {
      only : outside l.desk ≡ record (outside l.fn.desk) { notes = (outside l.desk).notes };
      notes : GoOn (outside l.fn.desk).notes (pairs_of (take l.out-index l.outs)) (outside l.desk).notes;
    }
