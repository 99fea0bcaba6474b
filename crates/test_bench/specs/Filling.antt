-- Used by private functions only.
-- Pictures of which only some may be whole.
use Rattle.std.specs.Prelude.{◌≡◌, ℕ, ◌+◌, ◌*◌, ◌≤◌, List, length, slice_get, slice_index, Some}
use Rattle.dk_base.specs.Frames.{Size, area}
use Rattle.test_bench.specs.declared.picture.Shown.{Shown}
use Rattle.stimulus.specs.declared.stop.Stop.TheVariants.{Index, Count}
use Rattle.stimulus.specs.declared.stop.BenchFault.{BenchFault}
use Rattle.stimulus.specs.declared.stop.BenchFault.TheVariants.{Stopped, OutOfMemory}
use Rattle.test_bench.specs.Writing.{IsFirstShort, IsWhole}

-- pictures, each of which is whole if it has shown the samples of all rounds
pub record AreFilled (size : Size) (ports : List ℕ) (rounds : ℕ) (pictures : List Shown) : Type 0 where
  pub count : length ports ≡ 2 * length pictures
  pub each : (k : ℕ) (kept : Shown) → slice_get pictures k ≡ Some kept → rounds * area size ≤ kept.count → IsWhole (rounds * area size) (slice_index ports (2 * k + 1)) kept

-- a picture has not shown the required samples, or out of memory
abbrev pub IsShort : List Shown → (asked : ℕ) → BenchFault → Type 0
IsShort pictures asked (Stopped (Count shown wanted)) = IsFirstShort pictures asked shown × (wanted ≡ asked)
IsShort pictures asked (Stopped (Index clock array index)) = ⊥
IsShort pictures asked OutOfMemory = Unit {0}
