-- The frames of the outputs and their images, for the private functions.
use Rattle.std.specs.Prelude.{◌≡◌, ℕ, ◌-◌, ◌^◌, ◌≤◌, List, [], ◌∷◌, length, slice_get, Some}
use Rattle.std.specs.List.{All}
use Rattle.dk_base.specs.declared.ty.Ty.{Ty}
use Rattle.dk_base.specs.Frames.{Size}
use Rattle.pgm_codec.specs.Images.{Image}
use Rattle.pointwise_ir.specs.Programs.{Program, types_of}
use Rattle.dk_frames.specs.declared.frame.Frame.{Frame}
use Rattle.program_images.specs.Ports.{bits_of}

-- a frame of this size whose samples have this many bits
pub record IsOutputFrame (size : Size) (bits : ℕ) (f : Frame) : Type 0 where
  pub width : f.width ≡ size.width
  pub height : f.height ≡ size.height
  pub values : All (λ s. s ≤ 2 ^ bits - 1) f.samples

-- one frame for each output in order
pub record AreOutputFrames (p : Program) (frames : List Frame) : Type 0 where
  pub one_each : length frames ≡ length p.outputs
  pub each : (k : ℕ) (f : Frame) (g : ℕ) → slice_get frames k ≡ Some f → slice_get p.outputs k ≡ Some g → IsOutputFrame p.size (bits_of (types_of p) g) f

-- the image of a frame whose samples have this many bits
abbrev pub image_with : ℕ → Frame → Image
image_with bits f = record { width = f.width; height = f.height; maxval = 2 ^ bits - 1; samples = f.samples }

-- the images of the outputs' frames
abbrev pub images_with : List Ty → (outputs : List ℕ) → List Frame → List Image
images_with types [] fs = []
images_with types (g ∷ gs) [] = []
images_with types (g ∷ gs) (f ∷ fs) = image_with (bits_of types g) f ∷ images_with types gs fs
