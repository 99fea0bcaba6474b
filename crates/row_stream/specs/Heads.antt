-- The header that comes next, taken byte by byte.
use Rattle.std.specs.Prelude.{◌≡◌, ℕ, ◌<◌, ◌≤◌, ◌-◌, ◌^◌, ◌++◌, Bool, true, List, length, take, Option, Some, None, Result, Ok, Err, IfOk, IfErr, IfSome}
use Rattle.std.specs.Io.KnownBytes.{prepend_known, IsAtEnd}
use Rattle.dk_desk.specs.declared.Stage.TheVariants.{Open}
use Rattle.dk_desk.specs.Outside.{Outside, Input}
use Rattle.pgm_codec.specs.declared.header.Header.{Header}
use Rattle.pgm_codec.specs.declared.scan.Scan.TheVariants.{Done, More}
use Rattle.pgm_codec.specs.Answers.{Answers, Undecided}
use Rattle.dk_base.specs.Frames.{Size}
use Rattle.dk_base.specs.declared.TheConstants.{MAX_HEADER_BYTES, MAX_PORT_WIDTH}
use Rattle.pgm_rounds.specs.declared.fault.FileFault.{FileFault}
use Rattle.pgm_rounds.specs.Files.{IsHeaded, HasSize, Refused}
use Rattle.row_stream.specs.Calls.{OnlyReads}
use Rattle.row_stream.specs.declared.faults.StreamFault.{StreamFault}
use Rattle.row_stream.specs.declared.faults.StreamFault.TheVariants.{Image, Read, Write}

-- Each shorter prefix of the bytes begins a header and holds none whole: no byte was taken after the one that decides.
abbrev pub IsUndecidedBefore : List ℕ → Type 0
IsUndecidedBefore bytes = (count : ℕ) → count < length bytes → Undecided (take count bytes)

-- a header was read, and no byte after it
pub record TakesHead (header : Header) (old new : Input) : Type 0 where
  pub read : List ℕ
  pub given : old.rest ≡ prepend_known read new.rest
  pub reads : Answers read (Done header)
  pub exact : length read ≡ header.length

-- a read failed inside the header
pub record LosesHead (old new : Input) : Type 0 where
  pub read : List ℕ
  pub given : old.rest ≡ prepend_known read new.rest
  pub inside : Answers read More

-- A header of an image of this size, with a maxval of this width.
pub record FitsHeader (size : Size) (bits : ℕ) (header : Header) : Type 0 where
  pub sized : HasSize size header
  pub maxval : header.maxval ≤ 2 ^ bits - 1
  pub length : header.length ≤ MAX_HEADER_BYTES

-- the header of an image that fits was read, and no byte after it
pub record TakesFitting (size : Size) (bits : ℕ) (old new : Input) (header : Header) : Type 0 where
  pub takes : TakesHead header old new
  pub fits : FitsHeader size bits header

-- The input ended before a header, where it may, and nothing was read.
pub record HasEnded (allowed : Bool) (before now : Outside) : Type 0 where
  pub end : IsAtEnd now.image.rest
  pub whole : IsAtEnd before.image.rest
  pub same : now ≡ before
  pub may_end : allowed ≡ true

-- Bytes were read that with all that is left do not begin with a header of an image that fits, at this offset of the file. They end with the byte that shows it, or with the file inside a header.
pub record RefusesHead (size : Size) (bits offset : ℕ) (may_end : Bool) (fault : FileFault) (old new : Input) : Type 0 where
  pub read : List ℕ
  pub before : IsUndecidedBefore read
  pub shown : Undecided read → IsAtEnd new.rest
  pub some : may_end ≡ true → 0 < length read
  pub given : old.rest ≡ prepend_known read new.rest
  pub refused : (number : ℕ) (more : List ℕ) → new.rest ≡ Some more → Refused size bits number offset (read ++ more) fault
  pub none : (more : List ℕ) → new.rest ≡ Some more → (header : Header) → IsHeaded size bits (read ++ more) header → ⊥

-- why there is no header of an image that fits
abbrev pub EndsHeading : Size → (bits offset : ℕ) → (may_end : Bool) → StreamFault → (old new : Input) → Type 0
EndsHeading size bits offset may_end (Image fault) old new = RefusesHead size bits offset may_end fault old new
EndsHeading size bits offset may_end Read old new = LosesHead old new
EndsHeading size bits offset may_end Write old new = ⊥

-- The header that comes next can be taken, at this offset of the file, of images whose samples have this width.
pub record CanTakeHead (bits offset : ℕ) (o : Outside) : Type 0 where
  -- Image is open
  pub opened : o.image.stage ≡ Open
  -- there are ports of this width
  pub width : bits ≤ MAX_PORT_WIDTH
  -- the places of the header can be counted
  pub place : offset < 2 ^ 62

-- The next header, of an image that fits, or none at the end of the input. `ends` is why there is neither.
pub record TakesNext (result : Result (Option Header) StreamFault) (size : Size) (bits : ℕ) (may_end : Bool) (ends : StreamFault → Type 0) (before now : Outside) : Type 0 where
  -- a header: it was taken, and no byte after it
  pub ok : IfOk result (λ next. IfSome next (TakesFitting size bits before.image now.image))
  -- none: the input ended before it, where it may
  pub none : result ≡ Ok None → HasEnded may_end before now
  -- else this is why
  pub err : IfErr result ends
  -- of the desk only Image was read
  pub desk : OnlyReads (result ≡ Err Read) before now
