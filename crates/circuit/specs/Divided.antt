-- How the chains of a plan are divided for block memories: the arrays that each segment becomes.
use Rattle.std.specs.Prelude.{◌≡◌, ℕ, ◌+◌, ◌-◌, ◌<◌, ◌≤◌, List, [], ◌∷◌, ◌++◌, Contains, flat_map, replicate}
use Rattle.std.specs.List.Sorted.{IsNonDecreasing}
use Rattle.std.specs.List.{AllZip}
use Rattle.dk_base.specs.declared.stencils.Image.{Image}
use Rattle.buffer_plan.specs.Plans.{Plan, ages_of}
use Rattle.circuit.specs.Taps.{Keeps}
use Rattle.circuit.specs.Splits.{split_ages}
use Rattle.circuit.specs.declared.splits.TheConstants.{MAX_REGISTERS}

-- the words of the segments of a chain: from `low` to the first age, and from each age to the next
abbrev pub segments : (low : ℕ) → (ages : List ℕ) → List ℕ
segments low [] = []
segments low (age ∷ ages) = (age - low) ∷ segments age ages

-- those of the chains of all kept images
abbrev pub all_segments : Plan → List ℕ
all_segments plan = flat_map (λ (i : Image). segments 0 (ages_of plan i.number)) plan.system.stencils.images

-- A segment of more than `least` words is long. This is the shortest long one of at most `words` words and at most `MAX_REGISTERS` fewer.
pub record IsShortest (least : ℕ) (all : List ℕ) (words shortest : ℕ) : Type 0 where
  pub among : Contains all shortest
  pub long : least < shortest
  pub within : shortest ≤ words
  pub near : words ≤ shortest + MAX_REGISTERS
  pub shorter : (other : ℕ) → Contains all other → least < other → words ≤ other + MAX_REGISTERS → shortest ≤ other

-- The words of the arrays that a segment becomes, in order. A long one becomes a block memory, one word shorter than the shortest that is near, and single words. Another one of at most `MAX_REGISTERS` words becomes single words, and any other stays one array.
pub data AreArraysOf (least : ℕ) (all : List ℕ) (words : ℕ) (arrays : List ℕ) : Type 0 where
  by_memory : (shortest : ℕ) → least < words → IsShortest least all words shortest → arrays ≡ (shortest - 1) ∷ replicate (words + 1 - shortest) 1 → AreArraysOf least all words arrays
  by_registers : words ≤ least → words ≤ MAX_REGISTERS → arrays ≡ replicate words 1 → AreArraysOf least all words arrays
  by_array : words ≤ least → MAX_REGISTERS < words → arrays ≡ words ∷ [] → AreArraysOf least all words arrays

-- the ages that come out of arrays of these words, in a row, where `low` goes in
abbrev pub ages_after : (low : ℕ) → (arrays : List ℕ) → List ℕ
ages_after low [] = []
ages_after low (words ∷ arrays) = (low + words) ∷ ages_after (low + words) arrays

-- The ages of a chain from `low` on, each of whose segments has become its arrays.
pub record AreDivided (least : ℕ) (all : List ℕ) (low : ℕ) (ages split : List ℕ) : Type 0 where
  pub arrays : List (List ℕ)
  pub each : AllZip (AreArraysOf least all) (segments low ages) arrays
  pub ages_are : split ≡ ages_after low (flat_map (λ words. words) arrays)

-- the divided ages of each kept image, in order
abbrev pub AreSplits : (least : ℕ) → Plan → (splits : List (List ℕ)) → Type 0
AreSplits least plan splits = AllZip (λ (i : Image) split. AreDivided least (all_segments plan) 0 (ages_of plan i.number) split) plan.system.stencils.images splits

-- The chain of each kept image is over its divided ages.
abbrev pub AreChainsDivided : (least : ℕ) → Plan → (proposed : List (List ℕ)) → Type 0
AreChainsDivided least plan proposed = (g : ℕ) → Keeps plan g → AreDivided least (all_segments plan) 0 (ages_of plan g) (split_ages proposed plan g)

-- Used by private functions only.
-- the words of the long segments, ascending
pub record AreLong (least : ℕ) (all lengths : List ℕ) : Type 0 where
  pub ascending : IsNonDecreasing lengths
  pub among : (words : ℕ) → Contains lengths words → Contains all words × (least < words)
  pub has : (words : ℕ) → Contains all words → least < words → Contains lengths words

-- the least of the numbers that are not below the bound
pub record IsLeastFrom (numbers : List ℕ) (bound least : ℕ) : Type 0 where
  pub among : Contains numbers least
  pub from : bound ≤ least
  pub lower : (n : ℕ) → Contains numbers n → bound ≤ n → least ≤ n

-- the ages after the arrays of a segment were added
pub record AddsArrays (least : ℕ) (all : List ℕ) (low high : ℕ) (old new : List ℕ) : Type 0 where
  pub arrays : List ℕ
  pub are : AreArraysOf least all (high - low) arrays
  pub added : new ≡ old ++ ages_after low arrays
