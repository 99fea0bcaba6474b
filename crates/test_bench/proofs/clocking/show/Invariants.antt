use Rattle.std.proofs.Common.{◌≡◌, ℕ, ◌<◌, ◌≤◌, length, Some}
use Rattle.std.specs.Prelude.{slice_get, vec_capacity}
use Rattle.std.specs.List.{All}
use Rattle.cycle_sim.specs.declared.ports.Out.{Out}
use Rattle.test_bench.specs.declared.picture.Shown.{Shown}
use Rattle.test_bench.specs.BatchClocks.{Extends, sample_of}
use Rattle.test_bench.proofs.clocking.show.Given as goal

abbrev pub invariant-loop-k : goal.invariant-loop-k
invariant-loop-k l = record {
  count : length l.pictures.items ≡ length l.outs;
  room : All (λ shown. l.most ≤ vec_capacity shown.samples) l.pictures.items;
  done : (j : ℕ) (old new : Shown) (out : Out) → j < l.k → slice_get l.fn.pictures.items j ≡ Some old → slice_get l.pictures.items j ≡ Some new → slice_get l.outs j ≡ Some out → Extends l.most old new (sample_of out);
  rest : (j : ℕ) → l.k ≤ j → slice_get l.pictures.items j ≡ slice_get l.fn.pictures.items j;
}
