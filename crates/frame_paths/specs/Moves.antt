-- What steps make of one coordinate.
use Rattle.std.specs.Prelude.{◌≡◌, ℕ, ◌<◌, ◌≤◌, ◌*◌, ℤ, pos, ◌+ℤ◌, ◌≤ℤ◌, ◌<ℤ◌, Option, Some, None, unsigned_abs}
use Rattle.std.specs.Int.{int_min, int_max}
use Rattle.dk_base.specs.declared.TheConstants.{MAX_SIDE}
use Rattle.pointwise_ir.specs.declared.expr.Edge.{Edge}
use Rattle.dk_base.specs.Steps.{EndsOn}
use Rattle.pointwise_ir.specs.Reads.{is_clamped}
use Rattle.frame_paths.specs.declared.moves.Moves.{Moves}
use Rattle.frame_paths.specs.declared.moves.Interval.{Interval}
use Rattle.frame_paths.specs.declared.moves.Offsets.{Offsets}

-- a number brought into least to most
abbrev pub brought : (least most : ℤ) → ℤ → ℤ
brought least most v = int_max least (int_min most v)

-- the moves lead coordinate x to u
pub record Leads (m : Moves) (x u : ℤ) : Type 0 where
  pub first : m.first ≤ℤ x
  pub last : x ≤ℤ m.last
  pub to : u ≡ brought m.least m.most (x +ℤ m.shift)

abbrev pub LeadsOn : Option Moves → (x u : ℤ) → Type 0
LeadsOn None x u = ⊥
LeadsOn (Some m) x u = Leads m x u

-- first the moves, and then a step
abbrev pub LeadsThen : (side : ℕ) → Moves → Edge → ℤ → (x u : ℤ) → Type 0
LeadsThen side m edge by x u = (w : ℤ) × Leads m x w × EndsOn (is_clamped edge) side (w +ℤ by) u

-- they lead some coordinate of the frame, and each into the frame
pub record LeadWithin (side : ℕ) (m : Moves) : Type 0 where
  pub first : pos 0 ≤ℤ m.first
  pub some : m.first ≤ℤ m.last
  pub last : m.last <ℤ pos side
  pub least : pos 0 ≤ℤ m.least
  pub order : m.least ≤ℤ m.most
  pub most : m.most <ℤ pos side

-- and their shift is no greater than a frame
pub record IsMoves (side : ℕ) (m : Moves) : Type 0 where
  pub within : LeadWithin side m
  pub shift : unsigned_abs m.shift ≤ MAX_SIDE

-- the coordinate is one of the interval's
pub record IsIn (i : Interval) (x : ℕ) : Type 0 where
  pub first : i.first ≤ x
  pub last : x ≤ i.last

abbrev pub IsInOn : Option Interval → ℕ → Type 0
IsInOn None x = ⊥
IsInOn (Some i) x = IsIn i x

-- it has some coordinate, and none that is not in the frame
pub record IsInterval (side : ℕ) (i : Interval) : Type 0 where
  pub some : i.first ≤ i.last
  pub last : i.last < side

-- the offset is one of these
pub record IsOffset (o : Offsets) (d : ℤ) : Type 0 where
  pub least : o.least ≤ℤ d
  pub greatest : d ≤ℤ o.greatest

-- they are not far
pub record AreNear (o : Offsets) : Type 0 where
  pub least : unsigned_abs o.least ≤ 2 * MAX_SIDE
  pub greatest : unsigned_abs o.greatest ≤ 2 * MAX_SIDE
