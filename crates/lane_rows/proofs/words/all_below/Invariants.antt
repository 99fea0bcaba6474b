use Rattle.std.proofs.Common.{map}
use Rattle.std.specs.Prelude.{IsTrue}
use Rattle.lane_rows.specs.Words.{AreInside}
use Rattle.lane_rows.proofs.words.all_below.Given as goal

abbrev pub invariant-loop-t : goal.invariant-loop-t
invariant-loop-t g l = IsTrue l.inside → AreInside l.t (map g.I.Lane.value l.index) (g.I.Lane.value l.bound)
