use Rattle.std.proofs.Common.{◌≡◌, ◌++◌, ◌≤◌, List, length, take}
use Rattle.std.specs.Prelude.{vec_capacity}
use Rattle.std.specs.List.{All}
use Rattle.wiring.specs.Snapshot.{Snapshot}
use Rattle.test_bench.specs.Clocking.{AreKept}
use Rattle.test_bench.specs.BatchClocks.{AreShownIn}
use Rattle.test_bench.proofs.clocking.show_all.Given as goal

abbrev pub invariant-loop-number : goal.invariant-loop-number
invariant-loop-number l = record {
  count : length l.pictures.items ≡ length l.fn.pictures.items;
  room : All (λ shown. l.most ≤ vec_capacity shown.samples) l.pictures.items;
  kept : (shots all : List Snapshot) → length shots ≡ l.count → AreShownIn (length l.fn.pictures.items) shots l.outs → AreKept l.most all l.fn.pictures.items → AreKept l.most (all ++ take l.number shots) l.pictures.items;
}
