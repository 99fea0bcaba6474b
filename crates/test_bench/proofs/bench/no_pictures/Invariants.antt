use Rattle.std.proofs.Common.{◌≡◌, ◌≤◌, [], length}
use Rattle.std.specs.Prelude.{vec_capacity}
use Rattle.std.specs.List.{All}
use Rattle.test_bench.specs.Clocking.{AreKept}
use Rattle.test_bench.proofs.bench.no_pictures.Given as goal

abbrev pub invariant-loop : goal.invariant-loop
invariant-loop l = record {
  count : length l.pictures.items ≡ l.counter;
  kept : AreKept l.most [] l.pictures.items;
  room : All (λ shown. l.most ≤ vec_capacity shown.samples) l.pictures.items;
}
