-- The header of a PGM image, in the binary form.
use Rattle.std.specs.Prelude.{◌≡◌, ℕ, ◌+◌, ◌-◌, ◌≤◌, List, [], ◌∷◌, ◌++◌, length, Bool, true, false, ◌||◌, nat_eq}
use Rattle.dk_base.specs.declared.TheConstants.{MAX_HEADER_BYTES}
use Rattle.dk_base.specs.Ascii.{is_white, is_digit, value_of}

-- CR, LF
abbrev pub is_line_end : ℕ → Bool
is_line_end b = nat_eq b 13 || nat_eq b 10

-- no CR or LF
abbrev pub IsInLine : List ℕ → Type 0
IsInLine [] = Unit {0}
IsInLine (b ∷ bs) = (is_line_end b ≡ false) × IsInLine bs

-- Any white space bytes and comments. A comment goes from `#` through the next CR or LF.
pub data Filling : List ℕ → Type 0 where
  none : Filling []
  white : {b : ℕ} {more : List ℕ} → is_white b ≡ true → Filling more → Filling (b ∷ more)
  comment : (e : ℕ) (line : List ℕ) {more bytes : List ℕ} → IsInLine line → is_line_end e ≡ true → Filling more → bytes ≡ line ++ e ∷ more → Filling (35 ∷ bytes)

-- one white space byte, then any white space bytes and comments
abbrev pub IsGap : List ℕ → Type 0
IsGap [] = ⊥
IsGap (b ∷ bs) = (is_white b ≡ true) × Filling bs

abbrev pub AreDigits : List ℕ → Type 0
AreDigits [] = Unit {0}
AreDigits (d ∷ ds) = (is_digit d ≡ true) × AreDigits ds

-- one decimal digit or more
abbrev pub IsNumeral : List ℕ → Type 0
IsNumeral [] = ⊥
IsNumeral (d ∷ ds) = (is_digit d ≡ true) × AreDigits ds

-- a number of a header, and the offset of its first digit
pub record Field : Type 0 where
  pub value : ℕ
  pub place : ℕ

-- Fields at bytes numbers: from the offset `at` on, the bytes are a gap and digits for each of the numbers, and then one white space byte.
pub data Fields : ℕ → List ℕ → List Field → Type 0 where
  last : {at b : ℕ} → is_white b ≡ true → Fields at (b ∷ []) []
  field : {at next : ℕ} (gap digits : List ℕ) {rest bytes : List ℕ} {number : Field} {more : List Field} → IsGap gap → IsNumeral digits
      → number.value ≡ value_of digits → number.place ≡ at + length gap → next ≡ at + length gap + length digits
      → Fields next rest more → bytes ≡ gap ++ (digits ++ rest) → Fields at bytes (number ∷ more)

-- The bytes are the text of a header with these three numbers, of any length.
pub record HeaderText (bytes : List ℕ) (width height maxval : Field) : Type 0 where
  pub rest : List ℕ
  -- the bytes of `P5`
  pub magic : bytes ≡ 80 ∷ 53 ∷ rest
  pub numbers : Fields 2 rest (width ∷ height ∷ maxval ∷ [])

-- a width or height above 4,294,967,295 is read as that number
unfoldable pub capped : ℕ → ℕ
capped n = n - (n - 4294967295)

-- The bytes are a header of at most 65,536 bytes; place is the offset of maxval's first digit.
pub record IsHeader (bytes : List ℕ) (width height maxval place : ℕ) : Type 0 where
  pub across : Field
  pub down : Field
  pub text : HeaderText bytes across down (record { value = maxval; place = place })
  pub width_is : width ≡ capped across.value
  pub height_is : height ≡ capped down.value
  pub limit : length bytes ≤ MAX_HEADER_BYTES
