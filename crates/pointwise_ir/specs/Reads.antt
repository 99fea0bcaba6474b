-- Which pixels an expression reads at a point, the live reads, and the images that are kept.
use Rattle.std.specs.Prelude.{◌≡◌, ℕ, ◌<◌, ℤ, ◌+ℤ◌, Bool, true, false, IsTrue, Contains, length, ◌⊎◌}
use Rattle.dk_base.specs.Frames.{Size, in_frame}
use Rattle.dk_base.specs.Steps as S
use Rattle.pointwise_ir.specs.declared.expr.Edge.{Edge}
use Rattle.pointwise_ir.specs.declared.expr.Edge.TheVariants.{Zero, Clamp}
use Rattle.pointwise_ir.specs.Trees.{Tree, constant, read, shifted, unary, binary, select, convert, scale}
use Rattle.pointwise_ir.specs.Programs.{Program, IsBody}

-- a step with this edge is a clamped one
abbrev pub is_clamped : Edge → Bool
is_clamped Zero = false
is_clamped Clamp = true

-- a step to the point (x, y) ends at (u, v)
abbrev pub EndsAt : Size → Edge → (x y u v : ℤ) → Type 0
EndsAt size edge x y u v = S.EndsAt (is_clamped edge) size x y u v

-- at the point (x, y) the expression reads the pixel (u, v) of image g
abbrev pub Reads : Size → Tree → (x y : ℤ) → (g : ℕ) → (u v : ℤ) → Type 0
Reads size (constant c t) x y g u v = ⊥
Reads size (read edge h dx dy) x y g u v = (g ≡ h) × EndsAt size edge (x +ℤ dx) (y +ℤ dy) u v
Reads size (shifted edge dx dy a) x y g u v = (w : ℤ) × (z : ℤ) × EndsAt size edge (x +ℤ dx) (y +ℤ dy) w z × Reads size a w z g u v
Reads size (unary op a) x y g u v = Reads size a x y g u v
Reads size (binary op a b) x y g u v = Reads size a x y g u v ⊎ Reads size b x y g u v
Reads size (select c a b) x y g u v = Reads size c x y g u v ⊎ (Reads size a x y g u v ⊎ Reads size b x y g u v)
Reads size (convert how a t) x y g u v = Reads size a x y g u v
Reads size (scale op a k) x y g u v = Reads size a x y g u v

-- some pixel of image f reads the pixel of image g that is dx columns to the right and dy rows down
abbrev pub IsLive : Program → (f g : ℕ) → (dx dy : ℤ) → Type 0
IsLive p f g dx dy = (e : Tree) × IsBody p f e × (x : ℤ) × (y : ℤ) × IsTrue (in_frame p.size x y) × Reads p.size e x y g (x +ℤ dx) (y +ℤ dy)

-- the images that the outputs need, and the inputs
pub data Kept (p : Program) : ℕ → Type 0 where
  input : (g : ℕ) → g < length p.inputs → Kept p g
  output : (g : ℕ) → Contains p.outputs g → Kept p g
  reached : (f g : ℕ) → (dx dy : ℤ) → Kept p f → IsLive p f g dx dy → Kept p g
