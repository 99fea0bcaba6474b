-- What a scan was given, and how far into a header it is.
use Rattle.std.specs.Prelude.{◌≡◌, ℕ, ◌+◌, ◌<◌, List, [], ◌∷◌, ◌++◌, length}
use Rattle.pgm_codec.specs.declared.reading.Stage.{Stage}
use Rattle.pgm_codec.specs.declared.reading.Stage.TheVariants.{Start, Letter, Gap, Filled, Comment, Digits}
use Rattle.pgm_codec.specs.declared.reading.Number.{Number}
use Rattle.pgm_codec.specs.declared.reading.Number.TheVariants.{Width, Height, Maxval}
use Rattle.pgm_codec.specs.declared.reading.Reading.{Reading}
use Rattle.pgm_codec.specs.declared.scan.HeaderScan.{HeaderScan}
use Rattle.pgm_codec.specs.declared.scan.Scan.{Scan}
use Rattle.pgm_codec.specs.declared.scan.Scan.TheVariants.{More}
use Rattle.dk_base.specs.Ascii.{value_of}
use Rattle.pgm_codec.specs.Headers.{IsInLine, IsGap, IsNumeral, Field, capped}
use Rattle.pgm_codec.specs.Answers.{Answers}

-- the scan's last answer, More before the first byte
abbrev pub told : HeaderScan → Scan
told scan = scan.answer

-- The bytes are `P5` and these numbers of a header, each after its gap; the latest number is the first of the list.
abbrev pub IsFront : List Field → List ℕ → Type 0
IsFront [] bytes = bytes ≡ 80 ∷ 53 ∷ []
IsFront (number ∷ before) bytes =
    (front : List ℕ) × (gap : List ℕ) × (digits : List ℕ) × IsFront before front × IsGap gap × IsNumeral digits × (number.value ≡ value_of digits) × (number.place ≡ length front + length gap)
    × (bytes ≡ front ++ (gap ++ digits))

abbrev pub reading : Stage → Number → ℕ → ℕ → ℕ → ℕ → ℕ → Reading
reading stage number width height value first length = record { stage = stage; number = number; width = width; height = height; value = value; first = first; length = length }

-- after these numbers, before the digits of the next one
abbrev pub after_numbers : Stage → List Field → ℕ → Reading
after_numbers stage [] length = reading stage Width 0 0 0 0 length
after_numbers stage (w ∷ []) length = reading stage Height (capped w.value) 0 (capped w.value) w.place length
after_numbers stage (h ∷ w ∷ more) length = reading stage Maxval (capped w.value) (capped h.value) (capped h.value) h.place length

-- in the digits of the last of these numbers
abbrev pub in_number : List Field → ℕ → Reading
in_number [] length = reading Start Width 0 0 0 0 length
in_number (w ∷ []) length = reading Digits Width 0 0 (capped w.value) w.place length
in_number (h ∷ w ∷ []) length = reading Digits Height (capped w.value) 0 (capped h.value) h.place length
in_number (m ∷ h ∷ w ∷ more) length = reading Digits Maxval (capped w.value) (capped h.value) (capped m.value) m.place length

-- The bytes begin a header and hold none whole, and this is where in a header they end, with the numbers so far.
pub data IsPlace (bytes : List ℕ) (r : Reading) : Type 0 where
  nothing : bytes ≡ [] → r ≡ after_numbers Start [] 0 → IsPlace bytes r
  letter : bytes ≡ 80 ∷ [] → r ≡ after_numbers Letter [] 1 → IsPlace bytes r
  magic : bytes ≡ 80 ∷ 53 ∷ [] → r ≡ after_numbers Gap [] 2 → IsPlace bytes r
  in_gap : (numbers : List Field) (front gap : List ℕ) → length numbers < 3 → IsFront numbers front → IsGap gap → bytes ≡ front ++ gap → r ≡ after_numbers Filled numbers (length bytes) → IsPlace bytes r
  in_comment : (numbers : List Field) (front gap line : List ℕ) → length numbers < 3 → IsFront numbers front → IsGap gap → IsInLine line → bytes ≡ front ++ (gap ++ 35 ∷ line) → r ≡ after_numbers Comment numbers (length bytes) → IsPlace bytes r
  in_digits : (number : Field) (before : List Field) → length before < 3 → IsFront (number ∷ before) bytes → r ≡ in_number (number ∷ before) (length bytes) → IsPlace bytes r

-- The scan was given these bytes since it was new.
pub record Scanned (scan : HeaderScan) (bytes : List ℕ) : Type 0 where
  pub answers : Answers bytes (told scan)
  pub place : told scan ≡ More → IsPlace bytes scan.reading
