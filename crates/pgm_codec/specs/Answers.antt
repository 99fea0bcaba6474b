-- What is answered on bytes, only in words of the definition of a header.
use Rattle.std.specs.Prelude.{◌≡◌, ℕ, ◌+◌, ◌<◌, ◌≤◌, List, ◌∷◌, ◌++◌, length, take, Result, Ok, Err, ◌⊎◌}
use Rattle.dk_base.specs.declared.TheConstants.{MAX_HEADER_BYTES, MAX_MAXVAL}
use Rattle.pgm_codec.specs.Headers.{Field, HeaderText, IsHeader}
use Rattle.pgm_codec.specs.declared.header.Header.{Header}
use Rattle.pgm_codec.specs.declared.header.HeaderFault.{HeaderFault}
use Rattle.pgm_codec.specs.declared.header.HeaderFault.TheVariants.{Magic, LongHeader, Number, Range}
use Rattle.pgm_codec.specs.declared.scan.Scan.{Scan}
use Rattle.pgm_codec.specs.declared.scan.Scan.TheVariants.{More, Done, Fault}

-- the bytes are a whole header
abbrev pub Whole : List ℕ → Type 0
Whole bytes = (width : Field) × (height : Field) × (maxval : Field) × HeaderText bytes width height maxval

-- the bytes begin some header
abbrev pub Begins : List ℕ → Type 0
Begins bytes = (more : List ℕ) × Whole (bytes ++ more)

-- The bytes begin a header and are none. No front of them is one either, since no header begins another.
pub record Inside (bytes : List ℕ) : Type 0 where
  pub begins : Begins bytes
  pub open_yet : Whole bytes → ⊥

abbrev pub HasMagic : List ℕ → Type 0
HasMagic bytes = (rest : List ℕ) × (bytes ≡ 80 ∷ 53 ∷ rest)

-- The bytes begin with this header, whose maxval is in its range.
pub record Reads (bytes : List ℕ) (header : Header) : Type 0 where
  pub front : List ℕ
  pub rest : List ℕ
  pub place : ℕ
  pub parts : bytes ≡ front ++ rest
  pub heads : IsHeader front header.width header.height header.maxval place
  pub positive : 0 < header.maxval
  pub small : header.maxval ≤ MAX_MAXVAL
  pub length_is : header.length ≡ length front

-- The bytes begin with a header whose maxval is not in its range; its first digit is at this offset.
pub record OutOfRange (bytes : List ℕ) (offset : ℕ) : Type 0 where
  pub front : List ℕ
  pub rest : List ℕ
  pub width : ℕ
  pub height : ℕ
  pub maxval : ℕ
  pub parts : bytes ≡ front ++ rest
  pub heads : IsHeader front width height maxval offset
  pub range : (maxval ≡ 0) ⊎ (MAX_MAXVAL < maxval)

-- The first 65,536 bytes begin a header and hold none whole.
pub record TooLong (bytes : List ℕ) : Type 0 where
  pub enough : MAX_HEADER_BYTES ≤ length bytes
  pub inside : Inside (take MAX_HEADER_BYTES bytes)

-- The byte at this offset is the first that continues no header, or the bytes end there inside one.
pub record StopsAt (bytes : List ℕ) (offset : ℕ) : Type 0 where
  pub magic : HasMagic bytes
  pub within : offset ≤ length bytes
  pub limit : offset < MAX_HEADER_BYTES
  pub inside : Inside (take offset bytes)
  pub stops : offset < length bytes → Begins (take (offset + 1) bytes) → ⊥

-- the fault of bytes that do not begin with a header in its limit and range
abbrev pub Refuses : List ℕ → HeaderFault → Type 0
Refuses bytes Magic = HasMagic bytes → ⊥
Refuses bytes LongHeader = TooLong bytes
Refuses bytes (Number offset) = StopsAt bytes offset
Refuses bytes (Range offset) = OutOfRange bytes offset

-- what reading a header from these bytes gives
abbrev pub Judges : List ℕ → Result Header HeaderFault → Type 0
Judges bytes (Ok header) = Reads bytes header
Judges bytes (Err fault) = Refuses bytes fault

-- fewer than 65,536 bytes that begin a header and hold none whole
pub record Undecided (bytes : List ℕ) : Type 0 where
  pub inside : Inside bytes
  pub limit : length bytes < MAX_HEADER_BYTES

-- what a scan answers once it was given these bytes
abbrev pub Answers : List ℕ → Scan → Type 0
Answers bytes More = Undecided bytes
Answers bytes (Done header) = Reads bytes header
Answers bytes (Fault fault) = Refuses bytes fault × (Undecided bytes → ⊥)
