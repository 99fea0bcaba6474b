-- The ages of a chain that is divided further: more than are read, with the same greatest age.
use Rattle.std.specs.Prelude.{◌≡◌, ◌==◌, ℕ, ◌<◌, nat_lt, Bool, true, ◌&&◌, ◌||◌, List, [], ◌∷◌, length, map, slice_get, slice_index_or, Some, Vec, Contains, if◌then◌else◌}
use Rattle.std.specs.List.{list_all, list_any}
use Rattle.std.specs.List.Sorted.{IsStrictlyIncreasing}
use Rattle.std.specs.declared.alloc.Global.{Global}
use Rattle.wiring.specs.declared.netlist.Net.{Net}
use Rattle.buffer_plan.specs.Plans.{Plan, place_in, ages_of}
use Rattle.line_buffer.specs.Places as L

-- the fewest words of a long array, and ages that are proposed for each kept image in order
pub record Splits : Type 0 where
  pub least : ℕ
  pub proposed : List (List ℕ)

-- the lists of vectors
abbrev pub lists_of : List (Vec ℕ Global) → List (List ℕ)
lists_of lists = map (λ (v : Vec ℕ Global). v.items) lists

-- each age is above the one before it, and the first above `low`
abbrev pub ascends : (low : ℕ) → List ℕ → Bool
ascends low [] = true
ascends low (high ∷ ages) = nat_lt low high && ascends high ages

-- the age is 0 or among these
abbrev pub has_age : (split : List ℕ) → (age : ℕ) → Bool
has_age split age = age == 0 || list_any (λ (x : ℕ). x == age) split

-- The ages `split` make a finer chain than `ages`: they ascend from above 0, each of `ages` above 0 is among them, and both have the same greatest age.
abbrev pub is_finer : (ages split : List ℕ) → Bool
is_finer ages split = ascends 0 split && (list_all (has_age split) ages && L.depth_of split == L.depth_of ages)

-- The ages of the chain of image g: those that are proposed, if they make a finer chain, and else those that are read.
unfoldable pub split_ages : (proposed : List (List ℕ)) → Plan → (g : ℕ) → List ℕ
split_ages proposed plan g =
    if is_finer (ages_of plan g) (slice_index_or proposed (place_in plan g) []) then slice_index_or proposed (place_in plan g) [] else ages_of plan g

-- What a finer chain has: its ages ascend, each age above 0 that is read is among them, and the greatest is the same.
pub record IsFiner (ages split : List ℕ) : Type 0 where
  pub ascending : IsStrictlyIncreasing split
  pub among : (age : ℕ) → Contains ages age → 0 < age → Contains split age
  pub last : L.depth_of split ≡ L.depth_of ages

-- the tap of an age, among the nets of a finer chain: the image's net at age 0, and else the net of this age
pub record IsTapAmong (split : List ℕ) (nets : List Net) (value : Net) (age : ℕ) (tap : Net) : Type 0 where
  pub now : age ≡ 0 → tap ≡ value
  pub later : 0 < age → (k : ℕ) × (slice_get split k ≡ Some age) × (slice_get nets k ≡ Some tap)

-- the taps of the ages that are read
pub record AreTapsAmong (ages split : List ℕ) (nets : List Net) (value : Net) (taps : List Net) : Type 0 where
  pub one_each : length taps ≡ length ages
  pub each : (k age : ℕ) (tap : Net) → slice_get ages k ≡ Some age → slice_get taps k ≡ Some tap → IsTapAmong split nets value age tap
