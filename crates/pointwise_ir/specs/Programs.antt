-- Programs as images: inputs, and images that are defined by expressions of earlier ones.
use Rattle.std.specs.Prelude.{◌≡◌, ℕ, ◌+◌, ◌≤◌, List, ◌++◌, Some, length, map, take, slice_get}
use Rattle.std.specs.List.{All}
use Rattle.dk_base.specs.declared.TheConstants.{MAX_INPUTS, MAX_OUTPUTS, MAX_KEPT_IMAGES, MAX_INLINED_DEPTH}
use Rattle.dk_base.specs.declared.ty.Ty.{Ty}
use Rattle.dk_base.specs.Types.{IsPort}
use Rattle.dk_base.specs.Frames.{Size, IsFrame}
use Rattle.dk_base.specs.FrameSizes.{size_of}
use Rattle.dk_base.specs.Stencils.{IsDistinct}
use Rattle.pointwise_ir.specs.declared.program.Input.{Input}
use Rattle.pointwise_ir.specs.declared.program.Definition.{Definition}
use Rattle.pointwise_ir.specs.declared.program.Parts.{Parts}
use Rattle.pointwise_ir.specs.Trees.{Tree, tree_of, depth_of, AreNear}
use Rattle.pointwise_ir.specs.Typing.{HasType}

-- The form of a program in which inline images are substituted at each use: the size of the frame; the inputs, which are the images 0, 1 and so on; the further images, which are numbered on; and the numbers of those that are outputs.
pub record Program : Type 0 where
  pub size : Size
  pub inputs : List Input
  pub images : List Definition
  pub outputs : List ℕ

abbrev pub program_of : Parts → Program
program_of p = record { size = size_of p.size; inputs = p.inputs.items; images = p.images.items; outputs = p.outputs.items }

-- of all images, the inputs first
abbrev pub names_of : Program → List (List ℕ)
names_of p = map (λ i. i.name) p.inputs ++ map (λ d. d.name) p.images

abbrev pub all_types : List Input → List Definition → List Ty
all_types inputs images = map (λ i. i.ty) inputs ++ map (λ d. d.ty) images

abbrev pub types_of : Program → List Ty
types_of p = all_types p.inputs p.images

abbrev pub bodies_of : Program → List Tree
bodies_of p = map (λ d. tree_of d.body) p.images

-- e gives the pixels of image f, which is no input
abbrev pub IsBody : Program → ℕ → Tree → Type 0
IsBody p f e = (k : ℕ) × (f ≡ length p.inputs + k) × (slice_get (bodies_of p) k ≡ Some e)

-- image g is there, and its type is that of an output
pub record IsOutput (types : List Ty) (g : ℕ) : Type 0 where
  pub ty : Ty
  pub there : slice_get types g ≡ Some ty
  pub port : IsPort ty

-- the body has the image's type, where `earlier` are the types of the images before it, which are the only ones that it reads
pub record IsDefined (earlier : List Ty) (image : Definition) : Type 0 where
  pub typed : HasType earlier (tree_of image.body) image.ty
  pub depth : depth_of (tree_of image.body) ≤ MAX_INLINED_DEPTH
  pub offsets : AreNear (tree_of image.body)

-- each image is defined over the inputs and the images before it
abbrev pub AreDefined : List Input → List Definition → Type 0
AreDefined inputs images = (k : ℕ) (image : Definition) → slice_get images k ≡ Some image → IsDefined (all_types inputs (take k images)) image

pub record IsProgram (p : Program) : Type 0 where
  pub frame : IsFrame p.size.width p.size.height
  pub some_inputs : 1 ≤ length p.inputs
  pub most_inputs : length p.inputs ≤ MAX_INPUTS
  pub inputs : All (λ i. IsPort i.ty) p.inputs
  pub most_images : length p.inputs + length p.images ≤ MAX_KEPT_IMAGES
  pub images : AreDefined p.inputs p.images
  pub some_outputs : 1 ≤ length p.outputs
  pub most_outputs : length p.outputs ≤ MAX_OUTPUTS
  pub distinct : IsDistinct p.outputs
  pub outputs : All (IsOutput (types_of p)) p.outputs
