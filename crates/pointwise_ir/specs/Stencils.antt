-- The stencils of a program: the images that it keeps and their live reads.
use Rattle.std.specs.Prelude.{◌≡◌, ℕ, ◌↔◌, ℤ, List, Contains, length, Some, slice_get}
use Rattle.std.specs.List.{All}
use Rattle.dk_base.specs.declared.stencils.Image.{Image}
use Rattle.dk_base.specs.declared.stencils.LiveRead.{LiveRead}
use Rattle.dk_base.specs.declared.ty.Ty.{Ty}
use Rattle.dk_base.specs.Types.{width_of}
use Rattle.dk_base.specs.Stencils.{AreInOrder, Ascends, IsKept, Stencils}
use Rattle.pointwise_ir.specs.Programs.{Program, types_of}
use Rattle.pointwise_ir.specs.Reads.{IsLive, Kept}

-- the read of image g by image f at this offset
abbrev pub the : (f g : ℕ) → (dx dy : ℤ) → LiveRead
the f g dx dy = record { f = f; g = g; dx = dx; dy = dy }

-- a live read by an image that is kept
pub record IsKeptRead (p : Program) (f g : ℕ) (dx dy : ℤ) : Type 0 where
  pub kept : Kept p f
  pub live : IsLive p f g dx dy

-- they are the live reads of kept images, each once, in order
pub record AreReads (p : Program) (reads : List LiveRead) : Type 0 where
  pub in_order : AreInOrder reads
  pub exact : (f g : ℕ) (dx dy : ℤ) → Contains reads (the f g dx dy) ↔ IsKeptRead p f g dx dy

-- the image is kept, and this is the width of its type
pub record IsKeptImage (p : Program) (image : Image) : Type 0 where
  pub kept : Kept p image.number
  pub ty : Ty
  pub typed : slice_get (types_of p) image.number ≡ Some ty
  pub width : image.width ≡ width_of ty

-- they are the kept images, in order, with their widths
pub record AreImages (p : Program) (images : List Image) : Type 0 where
  pub ascending : Ascends images
  pub sound : All (IsKeptImage p) images
  pub complete : (g : ℕ) → Kept p g → IsKept images g

-- the stencils of a program
pub record AreStencilsOf (p : Program) (s : Stencils) : Type 0 where
  pub width : s.width ≡ p.size.width
  pub height : s.height ≡ p.size.height
  pub inputs : s.inputs ≡ length p.inputs
  pub outputs : s.outputs ≡ p.outputs
  pub images : AreImages p s.images
  pub reads : AreReads p s.reads
