use Rattle.std.proofs.Common.{◌≡◌, ◌≢◌, ◌<◌, ◌≤◌, ◌+◌, ◌*◌, ◌^◌, ℕ, List, slice_index}
use Rattle.std.specs.Prelude.{All}
use Rattle.raster_delay.specs.Network.{Holds, constraint_at}
use Rattle.raster_delay.proofs.numbers.relax.Given as goal

abbrev pub invariant-loop-i : goal.invariant-loop-i
invariant-loop-i l = record {
  near : (m : ℕ) → ((v : ℕ) → slice_index l.initial.numbers v ≤ m) → (v : ℕ) → slice_index l.numbers v ≤ m + l.i * 2 ^ 25;
  holds : (k : ℕ) → k < l.i → Holds l.numbers (constraint_at l.constraints k);
  least : (d : List ℕ) → All (Holds d) l.constraints → ((v : ℕ) → slice_index l.initial.numbers v ≤ slice_index d v) → (v : ℕ) → slice_index l.numbers v ≤ slice_index d v;
  more : (v : ℕ) → slice_index l.initial.numbers v ≤ slice_index l.numbers v;
  others : (v : ℕ) → ((k : ℕ) → k < l.i → (constraint_at l.constraints k).target ≢ v) → slice_index l.numbers v ≡ slice_index l.initial.numbers v;
}
