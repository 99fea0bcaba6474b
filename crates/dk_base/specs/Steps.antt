-- Where a step through a frame ends.
use Rattle.std.specs.Prelude.{◌≡◌, ℕ, ℤ, Bool, true, false, IsTrue}
use Rattle.dk_base.specs.Frames.{Size, is_below, clamped}

-- A step to coordinate x ends at u: if it is clamped, at the nearest coordinate of the side; if not, at x, which must be on the side.
abbrev pub EndsOn : (is_clamped : Bool) → (side : ℕ) → (x u : ℤ) → Type 0
EndsOn true side x u = u ≡ clamped side x
EndsOn false side x u = (u ≡ x) × IsTrue (is_below x side)

-- A step to the point (x, y) ends at (u, v).
abbrev pub EndsAt : (is_clamped : Bool) → Size → (x y u v : ℤ) → Type 0
EndsAt is_clamped size x y u v = EndsOn is_clamped size.width x u × EndsOn is_clamped size.height y v
