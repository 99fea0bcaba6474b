-- Used by private functions only.
-- Live reads as they are found, one after another in order.
use Rattle.std.specs.Prelude.{◌≡◌, ℕ, ◌+◌, ◌*◌, ◌≤◌, ℤ, ◌≤ℤ◌, ◌<ℤ◌, ◌⊎◌, ◌↔◌, Contains, List, [], ◌∷◌, ◌++◌, length, All, unsigned_abs, Result, OnOk, OnErr, IfOk, IfErr}
use Rattle.dk_base.specs.declared.TheConstants.{MAX_SIDE, MAX_COUNTED_READS}
use Rattle.dk_base.specs.declared.stencils.LiveRead.{LiveRead}
use Rattle.dk_base.specs.Stencils.{IsBefore, AreInOrder}
use Rattle.dk_base.specs.Frames.{Size}
use Rattle.pointwise_ir.specs.Trees.{Tree}
use Rattle.pointwise_ir.specs.Stencils.{the}
use Rattle.stencil_sets.specs.declared.found.Halt.{Halt}
use Rattle.stencil_sets.specs.declared.found.Halt.TheVariants.{Full, OutOfMemory}
use Rattle.stencil_sets.specs.declared.path.Rect.{Rect}
use Rattle.frame_paths.specs.Moves.{IsOffset}
use Rattle.stencil_sets.specs.Paths.{IsNearRect, Covered, ReadsAt}

-- all of these are before it
abbrev pub AllBefore : List LiveRead → LiveRead → Type 0
AllBefore [] r = Unit {0}
AllBefore (a ∷ rs) r = IsBefore a r × AllBefore rs r

-- a row of the rectangle has the column offset
pub record InRow (rect : Rect) (dy dx : ℤ) : Type 0 where
  pub down : IsOffset rect.down dy
  pub across : IsOffset rect.across dx

-- the row of some rectangle does
abbrev pub InRows : List Rect → (dy dx : ℤ) → Type 0
InRows [] dy dx = ⊥
InRows (r ∷ rs) dy dx = InRow r dy dx ⊎ InRows rs dy dx

-- each begins at this column offset or later
abbrev pub AllFrom : ℤ → List Rect → Type 0
AllFrom least [] = Unit {0}
AllFrom least (r ∷ rs) = (least ≤ℤ r.across.least) × AllFrom least rs

-- in the order of their first column offsets
abbrev pub AreSorted : List Rect → Type 0
AreSorted [] = Unit {0}
AreSorted (r ∷ rs) = AllFrom r.across.least rs × AreSorted rs

-- Rectangles as a search goes through them.
pub record AreRects (rects : List Rect) : Type 0 where
  -- their offsets are not far
  pub near : All IsNearRect rects
  -- they are in the order of their first columns
  pub sorted : AreSorted rects

-- What an expression reads in some pixel, as rectangles.
pub record AreRectsOf (size : Size) (e : Tree) (rects : List Rect) : Type 0 where
  -- they have all the offsets that it reads, and no others
  pub exact : (g : ℕ) (dx dy : ℤ) → Covered rects g dx dy ↔ ReadsAt size e g dx dy
  -- which are not far
  pub near : All IsNearRect rects
  -- they are in the order of their first columns
  pub sorted : AreSorted rects

-- Those of some rectangles that are of image g.
pub record AreOfImage (rects : List Rect) (g : ℕ) (chosen : List Rect) : Type 0 where
  -- they have all its offsets, and no others
  pub exact : (dy dx : ℤ) → InRows chosen dy dx ↔ Covered rects g dx dy
  -- which are not far
  pub near : All IsNearRect chosen
  -- they are in the order of their first columns
  pub sorted : AreSorted chosen

-- Reads in order to which this one can be added.
pub record IsOpen (reads : List LiveRead) (next : LiveRead) : Type 0 where
  -- they are in order
  pub order : AreInOrder reads
  -- all are before it
  pub before : AllBefore reads next

-- reads of image b by image a in one row, from a column offset on
pub record IsLeft (rects : List Rect) (a b : ℕ) (row from : ℤ) (f g : ℕ) (dx dy : ℤ) : Type 0 where
  pub reader : f ≡ a
  pub source : g ≡ b
  pub down : dy ≡ row
  pub low : from ≤ℤ dx
  pub in_row : InRows rects row dx

-- reads of image b by image a, from a row on
pub record IsBelow (rects : List Rect) (a b : ℕ) (row : ℤ) (f g : ℕ) (dx dy : ℤ) : Type 0 where
  pub reader : f ≡ a
  pub source : g ≡ b
  pub low : row ≤ℤ dy
  pub in_rows : InRows rects dy dx

-- reads of image b by image a
pub record IsOf (rects : List Rect) (a b : ℕ) (f g : ℕ) (dx dy : ℤ) : Type 0 where
  pub reader : f ≡ a
  pub source : g ≡ b
  pub in_rows : InRows rects dy dx

-- its rows are among those from one to before another
pub record IsAmong (first end : ℤ) (rect : Rect) : Type 0 where
  pub least : first ≤ℤ rect.down.least
  pub greatest : rect.down.greatest <ℤ end

-- The rows of some rectangles are among those from one to before another.
pub record AreAmong (low high : ℤ) (rects : List Rect) : Type 0 where
  -- those of each
  pub among : All (IsAmong low high) rects
  -- there may be none
  pub order : low ≤ℤ high
  -- the first is not far
  pub first : unsigned_abs low ≤ 2 * MAX_SIDE
  -- and neither is the end
  pub end : unsigned_abs high ≤ 2 * MAX_SIDE + 1

-- from `end` on, nothing of the rectangle's row is left, and between `next` and there it has all from its first column offset on
pub record IsBehind (rect : Rect) (dy next end : ℤ) : Type 0 where
  pub later : next ≤ℤ end
  pub covered : (dx : ℤ) → next ≤ℤ dx → rect.across.least ≤ℤ dx → dx <ℤ end → InRow rect dy dx

-- more reads than are counted
abbrev pub Stopped : Halt → List LiveRead → Type 0
Stopped Full reads = length reads ≡ MAX_COUNTED_READS + 1
Stopped OutOfMemory reads = Unit {0}

-- the new list has what the old one has, and these
abbrev pub Gains : (old new : List LiveRead) → ((f g : ℕ) → (dx dy : ℤ) → Type 0) → Type 0
Gains old new R = (f g : ℕ) (dx dy : ℤ) → Contains new (the f g dx dy) ↔ (Contains old (the f g dx dy) ⊎ R f g dx dy)

-- it has nothing else
abbrev pub Within : (old new : List LiveRead) → ((f g : ℕ) → (dx dy : ℤ) → Type 0) → Type 0
Within old new R = (f g : ℕ) (dx dy : ℤ) → Contains new (the f g dx dy) → Contains old (the f g dx dy) ⊎ R f g dx dy

-- reads of image g by image f in one row, from one column offset to before another
pub record IsRun (a b : ℕ) (row from end : ℤ) (f g : ℕ) (dx dy : ℤ) : Type 0 where
  pub reader : f ≡ a
  pub source : g ≡ b
  pub down : dy ≡ row
  pub low : from ≤ℤ dx
  pub high : dx <ℤ end

-- Where the search of a rectangle's row ends: at column offset `end`.
pub record IsPartEnd (reads : List LiveRead) (f g : ℕ) (rect : Rect) (row from end : ℤ) : Type 0 where
  -- what follows is behind all that are found
  pub before : AllBefore reads (the f g end row)
  -- nothing of the rectangle's row is left
  pub behind : IsBehind rect row from end

-- One read is added to those that are found.
pub record AddsRead {T : Type 0} (old new : List LiveRead) (read : LiveRead) (result : Result T Halt) : Type 0 where
  -- all are in order, also where it is not added
  pub order : AreInOrder new
  -- it is the last
  pub items : OnOk result (new ≡ old ++ read ∷ [])
  -- it is left out only if there are too many reads or memory is out
  pub stopped : IfErr result (λ halt. Stopped halt new)
  -- and then all stays
  pub same : OnErr result (new ≡ old)

-- The reads of a kind, added to those that are found. If all were added, `next` holds of the value.
pub record Finds {T : Type 0} (old new : List LiveRead) (kind : (f g : ℕ) → (dx dy : ℤ) → Type 0) (result : Result T Halt) (next : T → Type 0) : Type 0 where
  -- all are in order, also where it ends early
  pub order : AreInOrder new
  -- all of the kind are found
  pub found : OnOk result (Gains old new kind)
  -- and nothing else, also where it ends early
  pub sound : Within old new kind
  -- what follows is behind them
  pub before : IfOk result next
  -- it ends early only where there are too many, or no memory
  pub stopped : IfErr result (λ halt. Stopped halt new)

-- what holds while a run is found: it is found up to before this column offset
pub record RunSoFar (old new : List LiveRead) (a b : ℕ) (row from col : ℤ) : Type 0 where
  pub order : AreInOrder new
  pub gains : Gains old new (λ f g dx dy. IsRun a b row from col f g dx dy)
  pub before : AllBefore new (the a b col row)
