-- The image that comes next, and where the reading of a file is, for the private functions.
use Rattle.std.specs.Prelude.{◌≡◌, ℕ, ◌-◌, ◌^◌, ◌<◌, ◌≤◌, Bool, List, ◌++◌, length, map, slice_index}
use Rattle.dk_base.specs.Frames.{Size}
use Rattle.pgm_codec.specs.declared.header.Header.{Header}
use Rattle.pgm_codec.specs.Images.{Image, IsImageOf}
use Rattle.pgm_codec.specs.Rasters.{sample_by, BeginsImage}
use Rattle.dk_frames.specs.declared.frame.Frame.{Frame}
use Rattle.pgm_rounds.specs.declared.fault.FileError.{FileError}
use Rattle.pgm_rounds.specs.declared.fault.FileError.TheVariants as error
use Rattle.pgm_rounds.specs.Ports.{Ports}
use Rattle.pgm_rounds.specs.Files.{joined, Taken, IsHeaded, Refused, frame_of}

-- The bytes begin with an image for an input of this many bits, and this is its header.
pub record IsAccepted (size : Size) (bits : ℕ) (bytes : List ℕ) (header : Header) : Type 0 where
  pub headed : IsHeaded size bits bytes header
  pub samples : List ℕ
  pub begins : BeginsImage bytes header samples

-- these are the first n samples of a raster
pub record AreSamples (narrow : Bool) (raster : List ℕ) (count : ℕ) (samples : List ℕ) : Type 0 where
  pub count_is : length samples ≡ count
  pub each : (k : ℕ) → k < count → slice_index samples k ≡ sample_by narrow raster k

-- The bytes begin with an image for an input of this many bits. It has this many bytes, and this is its frame.
pub record IsNext (size : Size) (bits : ℕ) (bytes : List ℕ) (len : ℕ) (frame : Frame) : Type 0 where
  pub image : Image
  pub first : List ℕ
  pub rest : List ℕ
  pub parts : bytes ≡ first ++ rest
  pub length_is : len ≡ length first
  pub is : IsImageOf first image
  pub width : image.width ≡ size.width
  pub height : image.height ≡ size.height
  pub maxval : image.maxval ≤ 2 ^ bits - 1
  pub frame_is : frame ≡ frame_of image

-- a refusal of the image that comes next, or out of memory
abbrev pub IsRefusal : Size → (bits number offset : ℕ) → List ℕ → FileError → Type 0
IsRefusal size bits number offset bytes (error.Fault fault) = Refused size bits number offset bytes fault
IsRefusal size bits number offset bytes error.OutOfMemory = Unit {0}

-- The reading follows this many images and bytes: these are the frames of the whole rounds, and those of the round that is begun.
pub record Stands (ports : Ports) (bytes : List ℕ) (read : List (List Frame)) (begun : List Frame) (number offset : ℕ) : Type 0 where
  pub rounds : List (List Image)
  pub further : List Image
  pub front : List ℕ
  pub rest : List ℕ
  pub taken : Taken ports bytes rounds further front rest
  pub number_is : number ≡ length (joined rounds ++ further)
  pub offset_is : offset ≡ length front
  pub read_is : read ≡ map (map frame_of) rounds
  pub begun_is : begun ≡ map frame_of further
