-- Used by private functions only.
-- What an expression reads at the ends of paths, and in a frame.
use Rattle.std.specs.Prelude.{◌≡◌, ℕ, ◌<◌, ℤ, ◌+ℤ◌, ◌⊎◌, ◌↔◌, IsTrue, All, OnOk, Result, List, [], ◌∷◌}
use Rattle.dk_base.specs.Frames.{Size, in_frame}
use Rattle.pointwise_ir.specs.Trees.{Tree}
use Rattle.pointwise_ir.specs.Reads.{Reads}
use Rattle.frame_paths.specs.declared.path.Path.{Path}
use Rattle.frame_paths.specs.Moves.{IsOffset, AreNear}
use Rattle.frame_paths.specs.Paths.{LeadsTo}
use Rattle.stencil_sets.specs.declared.path.Rect.{Rect}

-- the offset is one of the rectangle's
pub record IsIn (r : Rect) (g : ℕ) (dx dy : ℤ) : Type 0 where
  pub image : r.image ≡ g
  pub across : IsOffset r.across dx
  pub down : IsOffset r.down dy

-- its offsets are not far
pub record IsNearRect (rect : Rect) : Type 0 where
  pub across : AreNear rect.across
  pub down : AreNear rect.down

-- some rectangle has the offset
abbrev pub Covered : List Rect → (g : ℕ) → (dx dy : ℤ) → Type 0
Covered [] g dx dy = ⊥
Covered (r ∷ rs) g dx dy = IsIn r g dx dy ⊎ Covered rs g dx dy

-- Where the path ends, the expression reads a pixel of image g: dx columns to the right and dy rows down of where the path began.
abbrev pub ReadsFrom : Size → Tree → Path → (g : ℕ) → (dx dy : ℤ) → Type 0
ReadsFrom size e p g dx dy = (x : ℤ) × (y : ℤ) × (u : ℤ) × (v : ℤ) × LeadsTo p x y u v × Reads size e u v g (x +ℤ dx) (y +ℤ dy)

-- in some pixel of the frame the expression reads the pixel of image g that is dx columns to the right and dy rows down
abbrev pub ReadsAt : Size → Tree → (g : ℕ) → (dx dy : ℤ) → Type 0
ReadsAt size e g dx dy = (x : ℤ) × (y : ℤ) × IsTrue (in_frame size x y) × Reads size e x y g (x +ℤ dx) (y +ℤ dy)

-- The offsets from where a path begins to where it ends, as reads of an image.
pub record IsRectOf (path : Path) (number : ℕ) (rect : Rect) : Type 0 where
  -- it has all of them, and no others
  pub leads : (g : ℕ) (dx dy : ℤ) → IsIn rect g dx dy
      ↔ (number ≡ g) × (x : ℤ) × (y : ℤ) × LeadsTo path x y (x +ℤ dx) (y +ℤ dy)
  -- which are not far
  pub near : IsNearRect rect

-- What an expression reads where a path ends is added to some rectangles.
pub record AddsRects {T E : Type 0} (size : Size) (e : Tree) (path : Path) (old new : List Rect) (result : Result T E) : Type 0 where
  -- they have its offsets beside those that they had, and no others
  pub added : OnOk result ((g : ℕ) (x y : ℤ) → Covered new g x y ↔ (Covered old g x y ⊎ ReadsFrom size e path g x y))
  -- none is far, where none was
  pub near : All IsNearRect old → All IsNearRect new

-- reads of image b by image a that the rectangles have
pub record IsByReader (rects : List Rect) (a b : ℕ) (f g : ℕ) (dx dy : ℤ) : Type 0 where
  pub reader : f ≡ a
  pub source : g ≡ b
  pub covered : Covered rects b dx dy

-- reads by image a of images before it that the rectangles have
pub record IsOfReader (rects : List Rect) (a : ℕ) (f g : ℕ) (dx dy : ℤ) : Type 0 where
  pub reader : f ≡ a
  pub earlier : g < a
  pub covered : Covered rects g dx dy

-- reads that the expression makes, as image a's
pub record IsReadOf (size : Size) (e : Tree) (a : ℕ) (f g : ℕ) (dx dy : ℤ) : Type 0 where
  pub reader : f ≡ a
  pub made : ReadsAt size e g dx dy
