-- Rows of numbers of a lane over the clocks of a batch.
use Rattle.std.specs.Prelude.{◌≡◌, ℕ, ◌+◌, ◌*◌, ◌^◌, ◌<◌, ◌≤◌, List, slice_index, length, map, if◌then◌else◌, ◌==◌}

-- the number of a row at a clock
abbrev pub number_in : {A : Type 0} → (A → ℕ) → List A → ℕ → ℕ
number_in value row t = slice_index (map value row) t

-- one of two numbers, by a bit
abbrev pub choice : ℕ → ℕ → ℕ → ℕ
choice bit on off = if bit == 1 then on else off

-- a row was written: it has as many numbers as before, and this one at each clock
pub record IsWritten {A : Type 0} (value : A → ℕ) (old new : List A) (number : ℕ → ℕ) : Type 0 where
  pub count : length new ≡ length old
  pub each : (t : ℕ) → t < length new → slice_index (map value new) t ≡ number t

-- a row was made of one row, and of two rows, clock by clock
abbrev pub IsSingleOf : {A : Type 0} → (A → ℕ) → (ℕ → ℕ) → (old new a : List A) → Type 0
IsSingleOf value f old new a = IsWritten value old new (λ t. f (number_in value a t))

abbrev pub IsPairOf : {A : Type 0} → (A → ℕ) → (ℕ → ℕ → ℕ) → (old new a b : List A) → Type 0
IsPairOf value f old new a b = IsWritten value old new (λ t. f (number_in value a t) (number_in value b t))

-- one number can stand above another one of this many bits, in a lane
pub record CanJoin (bits width count : ℕ) (above below : ℕ → ℕ) : Type 0 where
  pub narrow : width ≤ bits
  pub fits : (t : ℕ) → t < count → above t * 2 ^ width + below t < 2 ^ bits

-- two rows of this many clocks
pub record AreTwoRows {A B : Type 0} (count : ℕ) (first : List A) (second : List B) : Type 0 where
  pub a : length first ≡ count
  pub b : length second ≡ count

-- a row of bits and two rows to choose from, of this many clocks
pub record AreChoiceRows {A B : Type 0} (count : ℕ) (bits : List B) (ones others : List A) : Type 0 where
  pub bit : length bits ≡ count
  pub on : length ones ≡ count
  pub off : length others ≡ count
