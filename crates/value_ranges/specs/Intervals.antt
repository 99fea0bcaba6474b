-- Intervals of whole numbers, and the types that hold them.
use Rattle.std.specs.Prelude.{◌≡◌, ◌≤◌, ℤ, pos, ◌≤ℤ◌, false}
use Rattle.dk_base.specs.declared.ty.Ty.{Ty}
use Rattle.dk_base.specs.Types.{IsType, IsIn, width_of, is_signed}
use Rattle.value_ranges.specs.declared.interval.Interval.{Interval}

-- a value from least to greatest
pub record IsBetween (r : Interval) (v : ℤ) : Type 0 where
  pub least : r.least ≤ℤ v
  pub greatest : v ≤ℤ r.greatest

-- each value of the interval is one of the type
abbrev pub IsHeldBy : Interval → Ty → Type 0
IsHeldBy r t = (v : ℤ) → IsBetween r v → IsIn t v

-- the type of fewest bits that holds the interval; it has no values below 0 where the interval has none
pub record IsLeastType (r : Interval) (t : Ty) : Type 0 where
  pub typed : IsType t
  pub holds : IsHeldBy r t
  pub fewest : (u : Ty) → IsType u → IsHeldBy r u → width_of t ≤ width_of u
  pub unsigned : pos 0 ≤ℤ r.least → is_signed t ≡ false

-- no type of values holds it
abbrev pub HasNoType : Interval → Type 0
HasNoType r = (u : Ty) → IsType u → IsHeldBy r u → ⊥
