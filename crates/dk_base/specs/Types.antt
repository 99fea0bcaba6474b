-- Types of whole numbers: their widths and ranges, and the types of what the operators give.
use Rattle.std.specs.Prelude.{ℕ, ◌+◌, ◌-◌, ◌^◌, ◌≤◌, max, nat_eq, nat_le, nat_lt, Bool, true, false, ℤ, pos, ◌+ℤ◌, ◌-ℤ◌, ◌≤ℤ◌, ◌<ℤ◌, neg_ℤ}
use Rattle.dk_base.specs.declared.TheConstants.{MAX_WIDTH, MAX_PORT_WIDTH}
use Rattle.dk_base.specs.declared.ty.Ty.{Ty}
use Rattle.dk_base.specs.declared.ty.Ty.TheVariants.{Unsigned, Signed}

-- the number of bits of a type
abbrev pub width_of : Ty → ℕ
width_of (Unsigned n) = n
width_of (Signed n) = n

abbrev pub is_signed : Ty → Bool
is_signed (Unsigned n) = false
is_signed (Signed n) = true

-- the unsigned type of one bit
abbrev pub is_bit : Ty → Bool
is_bit (Unsigned n) = nat_eq n 1
is_bit (Signed n) = false

-- a type of values has 1 to 64 bits
pub record IsType (t : Ty) : Type 0 where
  pub some : 1 ≤ width_of t
  pub most : width_of t ≤ MAX_WIDTH

-- the type of an input or an output: unsigned, of 1 to 16 bits
abbrev pub IsPort : Ty → Type 0
IsPort (Unsigned n) = (1 ≤ n) × (n ≤ MAX_PORT_WIDTH)
IsPort (Signed n) = ⊥

-- how many numbers below 0 a type has, and how many from 0 on
abbrev pub below : Ty → ℕ
below (Unsigned n) = 0
below (Signed n) = 2 ^ (n - 1)

abbrev pub above : Ty → ℕ
above (Unsigned n) = 2 ^ n
above (Signed n) = 2 ^ (n - 1)

-- the range of a type: unsigned 0 to 2 ^ n - 1, signed -2 ^ (n - 1) to 2 ^ (n - 1) - 1
pub record IsIn (t : Ty) (v : ℤ) : Type 0 where
  pub least : pos 0 ≤ℤ (v +ℤ pos (below t))
  pub greatest : v <ℤ pos (above t)

-- the ends of the range
abbrev pub least_of : Ty → ℤ
least_of t = neg_ℤ (pos (below t))

abbrev pub greatest_of : Ty → ℤ
greatest_of t = pos (above t) -ℤ pos 1

-- all numbers of a are numbers of b
pub record IsWithin (a b : Ty) : Type 0 where
  pub low : below a ≤ below b
  pub high : above a ≤ above b

-- an image of the declared type takes a body of the type
abbrev pub converts : (body declared : Ty) → Bool
converts (Unsigned n) (Unsigned m) = nat_le n m
converts (Unsigned n) (Signed m) = nat_lt n m
converts (Signed n) (Unsigned m) = false
converts (Signed n) (Signed m) = nat_le n m

-- the wider of two types of one kind; of a mixed pair, the unsigned one first becomes signed and one bit wider
abbrev pub common_type : Ty → Ty → Ty
common_type (Unsigned n) (Unsigned m) = Unsigned (max n m)
common_type (Unsigned n) (Signed m) = Signed (max (n + 1) m)
common_type (Signed n) (Unsigned m) = Signed (max n (m + 1))
common_type (Signed n) (Signed m) = Signed (max n m)

-- the types of the operators' values, of any width
abbrev pub sum_type : Ty → Ty → Ty
sum_type (Unsigned n) (Unsigned m) = Unsigned (max n m + 1)
sum_type (Unsigned n) (Signed m) = Signed (width_of (common_type (Unsigned n) (Signed m)) + 1)
sum_type (Signed n) b = Signed (width_of (common_type (Signed n) b) + 1)

abbrev pub difference_type : Ty → Ty → Ty
difference_type a b = Signed (width_of (common_type a b) + 1)

abbrev pub product_type : Ty → Ty → Ty
product_type (Unsigned n) (Unsigned m) = Unsigned (n + m)
product_type (Unsigned n) (Signed m) = Signed (n + m)
product_type (Signed n) b = Signed (n + width_of b)

abbrev pub negation_type : Ty → Ty
negation_type a = Signed (width_of a + 1)

abbrev pub magnitude_type : Ty → Ty
magnitude_type a = Unsigned (width_of a)

-- the same kind with k bits more, and with k bits fewer
abbrev pub shifted_type : Ty → ℕ → Ty
shifted_type (Unsigned n) k = Unsigned (n + k)
shifted_type (Signed n) k = Signed (n + k)

abbrev pub narrowed_type : Ty → ℕ → Ty
narrowed_type (Unsigned n) k = Unsigned (n - k)
narrowed_type (Signed n) k = Signed (n - k)
