-- Which files of images a module is driven with, and the first fault of the others.
use Rattle.std.specs.Prelude.{◌≡◌, ℕ, List, map}
use Rattle.dk_base.specs.Frames.{Size, IsFrame}
use Rattle.pgm_codec.specs.declared.header.Header.{Header}
use Rattle.pgm_codec.specs.declared.header.HeaderFault.{HeaderFault}
use Rattle.pgm_codec.specs.declared.header.HeaderFault.TheVariants as header
use Rattle.pgm_codec.specs.Answers.{Reads, Refuses}
use Rattle.pgm_codec.specs.Images.{Image}
use Rattle.pgm_rounds.specs.declared.fault.FileFault.{FileFault}
use Rattle.pgm_rounds.specs.declared.fault.FileFault.TheVariants as fault
use Rattle.pgm_rounds.specs.declared.fault.FileError.{FileError}
use Rattle.pgm_rounds.specs.declared.fault.FileError.TheVariants as error
use Rattle.pgm_rounds.specs.Ports.{ports_with}
use Rattle.pgm_rounds.specs.Files.{FitsFile, IsFault}
use Rattle.stimulus.specs.Stimulus.{Rounds}

-- The file is one of these rounds: each image has this size, of 1 to 4,096 pixels each side, and a maxval that its din takes.
pub record FitsBench (widths bytes : List ℕ) (size : Size) (rounds : List (List Image)) : Type 0 where
  pub frame : IsFrame size.width size.height
  pub fits : FitsFile (ports_with size widths) bytes rounds

abbrev pub size_in : Header → Size
size_in h = record { width = h.width; height = h.height }

-- the fault of a file whose first header is refused
abbrev pub first_fault : HeaderFault → FileFault
first_fault header.Magic = fault.Magic 0
first_fault header.LongHeader = fault.LongHeader
first_fault (header.Number offset) = fault.Number offset
first_fault (header.Range offset) = fault.Range offset

-- The first fault of a file. All images are asked for the size of the first one, and that one for 1 to 4,096 pixels each side.
pub data IsBenchFault (widths bytes : List ℕ) (f : FileFault) : Type 0 where
  heading : (h : HeaderFault) → Refuses bytes h → f ≡ first_fault h → IsBenchFault widths bytes f
  sizing : (h : Header) → Reads bytes h → ¬ IsFrame h.width h.height → f ≡ fault.Size h.width h.height → IsBenchFault widths bytes f
  later : (h : Header) → Reads bytes h → IsFrame h.width h.height → IsFault (ports_with (size_in h) widths) bytes f → IsBenchFault widths bytes f

-- the samples of images
abbrev pub samples_of : List (List Image) → Rounds
samples_of rounds = map (λ round. map (λ (image : Image). image.samples) round) rounds

-- a file's fault, or out of memory
abbrev pub IsBenchError : (widths bytes : List ℕ) → FileError → Type 0
IsBenchError widths bytes (error.Fault f) = IsBenchFault widths bytes f
IsBenchError widths bytes error.OutOfMemory = Unit {0}
