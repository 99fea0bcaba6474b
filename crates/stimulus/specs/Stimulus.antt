-- What a module is given in each clock of a test bench.
use Rattle.std.specs.Prelude.{ℕ, ◌+◌, ◌-◌, ◌%◌, ◌^◌, Bool, true, false, nat_eq, if◌then◌else◌, List, [], ◌∷◌, length, map, replicate, slice_index, slice_index_or, Option, None, Some}
use Rattle.std.specs.List.{flat_map, range_with_len}
use Rattle.wiring.specs.Clock.{Clock}
use Rattle.stimulus.specs.declared.drive.Drive.{Drive}

-- the samples of rounds: of each round, of each input, in raster order
abbrev pub Rounds : Type 0
Rounds = List (List (List ℕ))

-- the pixels of an input, one round after another
abbrev pub stream : Rounds → ℕ → List ℕ
stream rounds input = flat_map (λ round. slice_index_or round input []) rounds

-- pixel k of each of this many inputs, 0 after the last pixel
abbrev pub dins_at : (inputs : ℕ) → Rounds → ℕ → List ℕ
dins_at inputs rounds k = map (λ input. slice_index (stream rounds input) k) (range_with_len 0 inputs)

abbrev pub reset_clock : ℕ → Clock
reset_clock inputs = record { reset = true; enable = true; dins = replicate inputs 0 }

abbrev pub pixel_clock : ℕ → Rounds → ℕ → Clock
pixel_clock inputs rounds k = record { reset = false; enable = true; dins = dins_at inputs rounds k }

-- the greatest value of each din
abbrev pub greatest_dins : List ℕ → List ℕ
greatest_dins widths = map (λ w. 2 ^ w - 1) widths

abbrev pub held_clock : List ℕ → Clock
held_clock widths = record { reset = false; enable = false; dins = greatest_dins widths }

-- a held clock follows clock k: after every this many
abbrev pub is_held_after : Option ℕ → ℕ → Bool
is_held_after None k = false
is_held_after (Some count) k = nat_eq ((k + 1) % count) 0

-- how many clocks, clock k the first, end with the next one that a held clock follows: 0 if there are no held clocks
abbrev pub clocks_left : Option ℕ → ℕ → ℕ
clocks_left None k = 0
clocks_left (Some count) k = count - k % count

-- clock k, and the held one after it
abbrev pub clocks_at : Option ℕ → List ℕ → Rounds → ℕ → List Clock
clocks_at hold widths rounds k = pixel_clock (length widths) rounds k ∷ (if is_held_after hold k then held_clock widths ∷ [] else [])

-- a reset clock, and then as many clocks as are asked for, counted from 0, with the held ones between them
abbrev pub stimulus : Drive → List ℕ → Rounds → List Clock
stimulus drive widths rounds = reset_clock (length widths) ∷ flat_map (clocks_at drive.hold widths rounds) (range_with_len 0 drive.clocks)
