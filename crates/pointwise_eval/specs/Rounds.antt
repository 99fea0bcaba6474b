-- The frames of a round, and those of its outputs.
use Rattle.std.specs.Prelude.{◌≡◌, ℕ, ◌<◌, List, length, map, slice_get, Some}
use Rattle.std.specs.List.{All}
use Rattle.dk_base.specs.declared.ty.Ty.{Ty}
use Rattle.dk_base.specs.Types.{above}
use Rattle.dk_base.specs.Frames.{Size, area, Picture, picture_of, raster}
use Rattle.pointwise_ir.specs.declared.program.Input.{Input}
use Rattle.pointwise_ir.specs.Programs.{Program}
use Rattle.dk_base.specs.Frames.{picture_at}
use Rattle.dk_frames.specs.declared.frame.Frame.{Frame}

-- a frame of this size whose samples are in the range of an input's type
pub record IsInputFrame (size : Size) (t : Ty) (f : Frame) : Type 0 where
  pub width : f.width ≡ size.width
  pub height : f.height ≡ size.height
  pub whole : length f.samples ≡ area size
  pub values : All (λ s. s < above t) f.samples

-- each frame fits the input at its place
abbrev pub AreInputFrames : Size → List Input → List Frame → Type 0
AreInputFrames size inputs frames = (k : ℕ) (f : Frame) (input : Input) → slice_get frames k ≡ Some f → slice_get inputs k ≡ Some input → IsInputFrame size input.ty f

-- one frame for each input in order
pub record AreFrames (p : Program) (frames : List Frame) : Type 0 where
  pub one_each : length frames ≡ length p.inputs
  pub each : AreInputFrames p.size p.inputs frames

-- their pictures
abbrev pub round_of : Size → List Frame → List Picture
round_of size frames = map (λ f. picture_of size f.samples) frames

-- the frame that has a picture's pixels
abbrev pub frame_of : Size → Picture → Frame
frame_of size picture = record { width = size.width; height = size.height; samples = raster size picture }

-- one frame for each output in order, where the images have these pictures
abbrev pub output_frames : Program → List Picture → List Frame
output_frames p known = map (λ g. frame_of p.size (picture_at known g)) p.outputs
