-- Decimal numbers grow with their digits.
use Rattle.std.proofs.Common.{ℕ, ◌+◌, ◌*◌, ◌-◌, ◌≤◌, List, [], ◌∷◌, ◌<◌, arith, get_or, length, drop, drop-cons, suc}
use Rattle.dk_base.specs.Ascii.{value_after}

pub value_grows : (v : ℕ) (ds : List ℕ) → v ≤ value_after v ds
value_grows v [] = omega arith
value_grows v (d ∷ ds) = let h = value_grows (10 * v + (d - 48)) ds in omega (arith, h)

-- one digit more
pub value_at : (v : ℕ) (ds : List ℕ) (i : ℕ) → i < length ds → 10 * v + (get_or ds i 0 - 48) ≤ value_after v (drop i ds)
value_at v ds i h = rw (drop-cons ds i 0) (value_grows (10 * v + (get_or ds i 0 - 48)) (drop (suc i) ds))
