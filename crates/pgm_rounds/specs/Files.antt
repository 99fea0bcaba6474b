-- Files of images as rounds of a program: which of them fit, and the first fault of those that do not.
use Rattle.std.specs.Prelude.{◌≡◌, ℕ, ◌+◌, ◌*◌, ◌-◌, ◌^◌, ◌<◌, ◌≤◌, List, [], ◌++◌, length, take, map, slice_get, Some, Err}
use Rattle.std.specs.List.{flat_map, All, AllByRecursion, AllZip}
use Rattle.dk_base.specs.declared.TheConstants.{MAX_FILE_IMAGES}
use Rattle.dk_base.specs.Frames.{Size, area}
use Rattle.pgm_codec.specs.declared.header.Header.{Header}
use Rattle.pgm_codec.specs.declared.header.HeaderFault.TheVariants as header
use Rattle.pgm_codec.specs.declared.raster.RasterFault.TheVariants as raster
use Rattle.pgm_codec.specs.Answers.{Reads, Refuses}
use Rattle.pgm_codec.specs.Images.{Image, AreImages, IsFile}
use Rattle.pgm_codec.specs.Rasters.{JudgesRaster}
use Rattle.pgm_codec.specs.Rounds.{FitsInputs, Fits}
use Rattle.dk_frames.specs.declared.frame.Frame.{Frame}
use Rattle.pgm_rounds.specs.declared.fault.FileFault.{FileFault}
use Rattle.pgm_rounds.specs.declared.fault.FileFault.TheVariants.{Magic, LongHeader, Number, Range, Size as WrongSize, Maxval, SampleTooGreat, Short, Count, Round as OpenRound}
use Rattle.pgm_rounds.specs.declared.fault.FileError.{FileError}
use Rattle.pgm_rounds.specs.declared.fault.FileError.TheVariants as error
use Rattle.pgm_rounds.specs.declared.round.Round.{Round}
use Rattle.pgm_rounds.specs.Ports.{Ports}

-- the images of rounds, one after another
abbrev pub joined : List (List Image) → List Image
joined rounds = flat_map (λ round. round) rounds

-- The bytes are a file of these rounds: 1 to 65,536 images, each of the frame's size and with a maxval in the type of its input.
pub record FitsFile (ports : Ports) (bytes : List ℕ) (rounds : List (List Image)) : Type 0 where
  pub images : List Image
  pub file : IsFile bytes images
  pub fits : Fits ports.size.width ports.size.height ports.inputs images rounds

-- The bytes begin with whole rounds and then the first images of a further round, each of which fits its input. This is the part of them that these images take, and what follows it.
pub record Taken (ports : Ports) (bytes : List ℕ) (rounds : List (List Image)) (further : List Image) (front rest : List ℕ) : Type 0 where
  pub parts : bytes ≡ front ++ rest
  pub images : AreImages front (joined rounds ++ further)
  pub whole : AllByRecursion (FitsInputs ports.size.width ports.size.height ports.inputs) rounds
  pub begun : FitsInputs ports.size.width ports.size.height (take (length further) ports.inputs) further
  pub room : length further < length ports.inputs

-- a header has the frame's size
pub record HasSize (size : Size) (header : Header) : Type 0 where
  pub width : header.width ≡ size.width
  pub height : header.height ≡ size.height

-- The bytes begin with a header of the frame's size and with a maxval that an input of this many bits takes.
pub record IsHeaded (size : Size) (bits : ℕ) (bytes : List ℕ) (header : Header) : Type 0 where
  pub reads : Reads bytes header
  pub sized : HasSize size header
  pub maxval : header.maxval ≤ 2 ^ bits - 1

-- Why bytes, which are at this offset of a file after this many images, do not begin with an image for an input of this many bits.
abbrev pub Refused : Size → (bits number offset : ℕ) → List ℕ → FileFault → Type 0
Refused size bits number offset bytes (Magic at) = Refuses bytes header.Magic × (at ≡ offset)
Refused size bits number offset bytes LongHeader = Refuses bytes header.LongHeader
Refused size bits number offset bytes (Number at) = (inside : ℕ) × Refuses bytes (header.Number inside) × (at ≡ offset + inside)
Refused size bits number offset bytes (Range at) = (inside : ℕ) × Refuses bytes (header.Range inside) × (at ≡ offset + inside)
Refused size bits number offset bytes (WrongSize width height) = (h : Header) × Reads bytes h × ¬ HasSize size h × (width ≡ h.width) × (height ≡ h.height)
Refused size bits number offset bytes (Maxval maxval) = (h : Header) × Reads bytes h × HasSize size h × (2 ^ bits - 1 < h.maxval) × (maxval ≡ h.maxval)
Refused size bits number offset bytes (SampleTooGreat index) = (h : Header) × IsHeaded size bits bytes h × (k : ℕ) × JudgesRaster bytes h (Err (raster.SampleTooGreat k)) × (index ≡ number * area size + k)
Refused size bits number offset bytes (Short held need) = (h : Header) × IsHeaded size bits bytes h × JudgesRaster bytes h (Err (raster.Short held need))
Refused size bits number offset bytes Count = ⊥
Refused size bits number offset bytes (OpenRound held need) = ⊥

-- The images before are in order, and the next one, of which there is a byte if it is not the first, is refused.
pub record IsRefused (ports : Ports) (bytes : List ℕ) (fault : FileFault) : Type 0 where
  pub rounds : List (List Image)
  pub further : List Image
  pub front : List ℕ
  pub rest : List ℕ
  pub bits : ℕ
  pub taken : Taken ports bytes rounds further front rest
  pub some : 0 < length (joined rounds ++ further) → 0 < length rest
  pub few : length (joined rounds ++ further) < MAX_FILE_IMAGES
  pub input : slice_get ports.inputs (length further) ≡ Some bits
  pub refused : Refused ports.size bits (length (joined rounds ++ further)) (length front) rest fault

-- A byte follows 65,536 images that are in order.
pub record IsTooMany (ports : Ports) (bytes : List ℕ) : Type 0 where
  pub rounds : List (List Image)
  pub further : List Image
  pub front : List ℕ
  pub rest : List ℕ
  pub taken : Taken ports bytes rounds further front rest
  pub full : length (joined rounds ++ further) ≡ MAX_FILE_IMAGES
  pub more : 0 < length rest

-- All images are in order, and the last round has this many of its images.
pub record EndsInRound (ports : Ports) (bytes : List ℕ) (held : ℕ) : Type 0 where
  pub rounds : List (List Image)
  pub further : List Image
  pub taken : Taken ports bytes rounds further bytes []
  pub few : length (joined rounds ++ further) ≤ MAX_FILE_IMAGES
  pub some : 0 < length further
  pub held_is : held ≡ length further

-- The first fault of a file. Images are judged one after another, each in the order header, size, maxval, raster.
abbrev pub IsFault : Ports → List ℕ → FileFault → Type 0
IsFault ports bytes Count = IsTooMany ports bytes
IsFault ports bytes (OpenRound held need) = EndsInRound ports bytes held × (need ≡ length ports.inputs)
IsFault ports bytes (Magic at) = IsRefused ports bytes (Magic at)
IsFault ports bytes LongHeader = IsRefused ports bytes LongHeader
IsFault ports bytes (Number at) = IsRefused ports bytes (Number at)
IsFault ports bytes (Range at) = IsRefused ports bytes (Range at)
IsFault ports bytes (WrongSize width height) = IsRefused ports bytes (WrongSize width height)
IsFault ports bytes (Maxval maxval) = IsRefused ports bytes (Maxval maxval)
IsFault ports bytes (SampleTooGreat index) = IsRefused ports bytes (SampleTooGreat index)
IsFault ports bytes (Short held need) = IsRefused ports bytes (Short held need)

-- a file's fault, or out of memory
abbrev pub IsError : Ports → List ℕ → FileError → Type 0
IsError ports bytes (error.Fault fault) = IsFault ports bytes fault
IsError ports bytes error.OutOfMemory = Unit {0}

-- the frame of an image
abbrev pub frame_of : Image → Frame
frame_of image = record { width = image.width; height = image.height; samples = image.samples }

abbrev pub frames_of : List Round → List (List Frame)
frames_of rounds = map (λ r. r.frames.items) rounds

-- a whole frame of this size for an input of this many bits
pub record IsPortFrame (size : Size) (bits : ℕ) (f : Frame) : Type 0 where
  pub width : f.width ≡ size.width
  pub height : f.height ≡ size.height
  pub whole : length f.samples ≡ area size
  pub values : All (λ s. s < 2 ^ bits) f.samples

-- one frame for each input in order
abbrev pub IsPortRound : Ports → Round → Type 0
IsPortRound ports round = AllZip (IsPortFrame ports.size) ports.inputs round.frames.items
