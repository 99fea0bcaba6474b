-- Whole numbers: their bits, and how they are brought into the range of a type.
use Rattle.std.specs.Prelude.{◌≡◌, ℕ, ◌-◌, ◌^◌, ◌≤◌, ◌<◌, nat_eq, nat_lt, ℤ, pos, ◌+ℤ◌, ◌-ℤ◌, ◌*ℤ◌, int_lt, unsigned_abs, if◌then◌else◌}
use Rattle.std.specs.Int.{int_rem_euclid, leading_zeros, w64}
use Rattle.dk_base.specs.declared.ty.Ty.{Ty}
use Rattle.dk_base.specs.Types.{width_of, above, least_of, greatest_of, IsIn}

-- n is the least number of bits, at least 1, that hold v
pub record IsBitCount (v n : ℕ) : Type 0 where
  pub some : 1 ≤ n
  pub holds : v < 2 ^ n
  pub least : (m : ℕ) → 1 ≤ m → v < 2 ^ m → n ≤ m

-- that number of bits, of a number below 2 ^ 64
abbrev pub bit_count : ℕ → ℕ
bit_count v = if nat_eq v 0 then 1 else 64 - leading_zeros w64 v

-- the two's complement of a number in w bits: the number below 2 ^ w that is equal to it modulo 2 ^ w
unfoldable pub code : ℕ → ℤ → ℕ
code w v = unsigned_abs (int_rem_euclid v (pos (2 ^ w)))

-- what bits are worth in a type
unfoldable pub number : Ty → ℕ → ℤ
number t n = if nat_lt n (above t) then pos n else pos n -ℤ pos (2 ^ width_of t)

-- the number of the range that is equal to v modulo 2 ^ width
abbrev pub wrap : Ty → ℤ → ℤ
wrap t v = number t (code (width_of t) v)

-- the number of the range that is nearest to v
abbrev pub saturate : Ty → ℤ → ℤ
saturate t v = if int_lt v (least_of t) then least_of t else if int_lt (greatest_of t) v then greatest_of t else v

-- v and w differ by a multiple of m
abbrev pub AreEqualModulo : ℕ → ℤ → ℤ → Type 0
AreEqualModulo m v w = (k : ℤ) × (v ≡ w +ℤ (k *ℤ pos m))

-- w is in the range, and equal to v modulo 2 ^ width
pub record IsWrapped (t : Ty) (v w : ℤ) : Type 0 where
  pub inside : IsIn t w
  pub equal : AreEqualModulo (2 ^ width_of t) v w

abbrev pub distance : ℤ → ℤ → ℕ
distance v w = unsigned_abs (v -ℤ w)

-- w is in the range, and no number of the range is nearer to v
pub record IsNearest (t : Ty) (v w : ℤ) : Type 0 where
  pub inside : IsIn t w
  pub nearest : (u : ℤ) → IsIn t u → distance v w ≤ distance v u
