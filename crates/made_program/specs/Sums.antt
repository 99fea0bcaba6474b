-- The images whose samples are summed.
use Rattle.std.specs.Prelude.{◌≡◌, ℕ, ◌*◌, ◌<◌, ◌≤◌, List, [], ◌∷◌, length}
use Rattle.std.specs.List.{flat_map, AllByRecursion}
use Rattle.dk_base.specs.declared.TheConstants.{MAX_FILE_IMAGES, MAX_SIDE}
use Rattle.dk_base.specs.Frames.{Size}
use Rattle.dk_frames.specs.declared.frame.Frame.{Frame}
use Rattle.pgm_codec.specs.Images.{Image, CanBeWritten}
use Rattle.pgm_rounds.specs.declared.round.Round.{Round}

-- an image of this size that can be written
pub record IsSummed (size : Size) (image : Image) : Type 0 where
  pub width : image.width ≡ size.width
  pub height : image.height ≡ size.height
  pub writable : CanBeWritten image

-- 1 to 65,536 images of this size that can be written
pub record AreSummed (size : Size) (images : List Image) : Type 0 where
  pub some : 0 < length images
  pub few : length images ≤ MAX_FILE_IMAGES
  pub each : AllByRecursion (IsSummed size) images

-- the samples of a round's frames, one frame after another
abbrev pub samples_of_round : Round → List ℕ
samples_of_round round = flat_map (λ f. f.samples) round.frames.items

-- a round of one frame, with no more samples than the greatest frame has
pub record IsOneFrame (round : Round) : Type 0 where
  pub frame : Frame
  pub alone : round.frames.items ≡ frame ∷ []
  pub few : length frame.samples ≤ MAX_SIDE * MAX_SIDE
