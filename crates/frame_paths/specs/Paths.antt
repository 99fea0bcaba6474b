-- What steps make of the pixels of a frame.
use Rattle.std.specs.Prelude.{ℤ, ◌+ℤ◌, Option, Some, None}
use Rattle.dk_base.specs.Frames.{Size}
use Rattle.pointwise_ir.specs.declared.expr.Edge.{Edge}
use Rattle.pointwise_ir.specs.Reads.{EndsAt}
use Rattle.frame_paths.specs.declared.path.Path.{Path}
use Rattle.frame_paths.specs.Moves.{Leads, IsMoves}

-- the path leads from the pixel (x, y) to (u, v)
pub record LeadsTo (p : Path) (x y u v : ℤ) : Type 0 where
  pub across : Leads p.across x u
  pub down : Leads p.down y v

abbrev pub LeadsToOn : Option Path → (x y u v : ℤ) → Type 0
LeadsToOn None x y u v = ⊥
LeadsToOn (Some p) x y u v = LeadsTo p x y u v

-- first the path, and then a step
abbrev pub StepsTo : Size → Path → Edge → (dx dy : ℤ) → (x y u v : ℤ) → Type 0
StepsTo size p edge dx dy x y u v = (w : ℤ) × (z : ℤ) × LeadsTo p x y w z × EndsAt size edge (w +ℤ dx) (z +ℤ dy) u v

-- it leads some pixel of the frame, and each into the frame
pub record IsPath (size : Size) (p : Path) : Type 0 where
  pub across : IsMoves size.width p.across
  pub down : IsMoves size.height p.down
