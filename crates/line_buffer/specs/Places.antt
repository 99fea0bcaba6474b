-- Where the pixels of an image are, by their ages and the clock.
use Rattle.std.specs.Prelude.{ℕ, zero, suc, ◌+◌, ◌-◌, ◌%◌, ◌<◌, nat_le, nat_eq, List, [], ◌∷◌, slice_index, slice_index_or, if◌then◌else◌}
use Rattle.wiring.specs.declared.netlist.Shape.{Shape}
use Rattle.wiring.specs.Snapshot.{Contents}

-- a word of an array, both by their numbers
pub record Place : Type 0 where
  pub array : ℕ
  pub word : ℕ

-- what it holds
abbrev pub word_at : Contents → Place → ℕ
word_at c p = slice_index (slice_index_or c.arrays p.array []) p.word

-- the last of the ages, or `low` without any
abbrev pub last_of : (low : ℕ) → List ℕ → ℕ
last_of low [] = low
last_of low (high ∷ ages) = last_of high ages

-- the ages above 0, of ages that ascend
abbrev pub later : List ℕ → List ℕ
later [] = []
later (zero ∷ ages) = ages
later (suc age ∷ ages) = suc age ∷ ages

-- the greatest age
abbrev pub depth_of : List ℕ → ℕ
depth_of ages = last_of 0 ages

-- each is above the one before it
abbrev pub Ascend : (low : ℕ) → List ℕ → Type 0
Ascend low [] = Unit {0}
Ascend low (high ∷ ages) = (low < high) × Ascend high ages

-- a ring: one array, `first`, of as many words as the depth
abbrev pub ring_shapes : (width : ℕ) → List ℕ → List Shape
ring_shapes width ages = if nat_eq (depth_of ages) 0 then [] else (record { width = width; depth = depth_of ages }) ∷ []

abbrev pub ring_place : (first : ℕ) → List ℕ → (age t : ℕ) → Place
ring_place first ages age t = record { array = first; word = (t - age) % depth_of ages }

-- a chain: an array for each age above 0, from `first` on, of as many words as lie between it and the age before it
abbrev pub segment_shapes : (width low : ℕ) → List ℕ → List Shape
segment_shapes width low [] = []
segment_shapes width low (high ∷ ages) = (record { width = width; depth = high - low }) ∷ segment_shapes width high ages

abbrev pub chain_shapes : (width : ℕ) → List ℕ → List Shape
chain_shapes width ages = segment_shapes width 0 (later ages)

abbrev pub segment_place : (first low : ℕ) → List ℕ → (age t : ℕ) → Place
segment_place first low [] age t = record { array = first; word = 0 }
segment_place first low (high ∷ ages) age t = if nat_le age high then record { array = first; word = (t - (age - low)) % (high - low) } else segment_place (first + 1) high ages age t

abbrev pub chain_place : (first : ℕ) → List ℕ → (age t : ℕ) → Place
chain_place first ages age t = segment_place first 0 (later ages) age t
