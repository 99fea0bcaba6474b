-- Used by private functions only.
-- The header that comes next, byte by byte.
use Rattle.std.specs.Prelude.{◌≡◌, ℕ, ◌<◌, Bool, true, List, length}
use Rattle.std.specs.Io.KnownBytes.{prepend_known, IsAtEnd}
use Rattle.dk_desk.specs.Outside.{Input}
use Rattle.pgm_codec.specs.declared.header.HeaderFault.{HeaderFault}
use Rattle.pgm_codec.specs.declared.scan.Scan.TheVariants.{Fault}
use Rattle.pgm_codec.specs.Answers.{Answers, Refuses}
use Rattle.pgm_codec.specs.declared.scan.HeaderScan.{HeaderScan}
use Rattle.pgm_codec.specs.Scans.{Scanned}
use Rattle.row_stream.specs.declared.heads.HeadFault.{HeadFault}
use Rattle.row_stream.specs.declared.heads.HeadFault.TheVariants.{Head, Read}
use Rattle.row_stream.specs.Heads.{IsUndecidedBefore, LosesHead}

-- the bytes that were read begin no header, whatever comes, or end inside one
pub data IsNoHead (read : List ℕ) (fault : HeaderFault) (new : Input) : Type 0 where
  decided : Answers read (Fault fault) → IsNoHead read fault new
  ended : Refuses read fault → IsAtEnd new.rest → IsNoHead read fault new

-- Where there may be none, it is one of which there is a byte. No byte was taken after the one that shows the fault.
pub record MissesHead (may_end : Bool) (fault : HeaderFault) (old new : Input) : Type 0 where
  pub read : List ℕ
  pub before : IsUndecidedBefore read
  pub some : may_end ≡ true → 0 < length read
  pub given : old.rest ≡ prepend_known read new.rest
  pub why : IsNoHead read fault new

abbrev pub EndsHead : (may_end : Bool) → HeadFault → (old new : Input) → Type 0
EndsHead may_end (Head fault) old new = MissesHead may_end fault old new
EndsHead may_end Read old new = LosesHead old new

-- there are bytes of which this is the header's fault
abbrev pub IsRefusal : HeaderFault → Type 0
IsRefusal fault = (bytes : List ℕ) × Refuses bytes fault

-- This many bytes were taken, and they begin a header.
pub record IsScanning (scan : HeaderScan) (count : ℕ) (old new : Input) : Type 0 where
  pub read : List ℕ
  pub count_is : length read ≡ count
  pub given : old.rest ≡ prepend_known read new.rest
  pub scanned : Scanned scan read
