-- The line at the front of bytes: whether it is that of a variable or of a time.
use Rattle.std.proofs.Common.{◌≡◌, ◌∙◌, refl, sym, ap, [], ◌∷◌, ◌++◌, List, ℕ, zero, suc, ◌+◌, ◌-◌, ◌/◌, ◌%◌, ◌^◌, ◌<◌, ◌≤◌, ◌⊎◌, inl, inr, Bool, true, false, arith, drop, get_or}
use Rattle.std.specs.Prelude.{nat_eq, if◌then◌else◌}
use Rattle.std.specs.Fmt.{digits, digits_onto, digit_glyph, decimal}
use Rattle.std.proofs.lemmas.Bool.{cases_lt, cases_eq}
use Rattle.dk_grammar.specs.Lines.{IsPlain}
use Rattle.vcd_trace.specs.Layout.{value_line, time_line, id_of}
use Rattle.vcd_trace.specs.Steps.{bits_after}
use Rattle.vcd_trace.proofs.Lines.{line_by, head_same, tail_same}
use Rattle.vcd_trace.proofs.Readings.{wide_line, binary_read}

abbrev pub HasFront : (front bytes : List ℕ) → Type 0
HasFront front bytes = (rest : List ℕ) × (bytes ≡ front ++ rest)

abbrev pub HasNoFront : (front bytes : List ℕ) → Type 0
HasNoFront front bytes = (rest : List ℕ) → bytes ≡ front ++ rest → ⊥

pub front_judged : (front bytes : List ℕ) → HasFront front bytes ⊎ HasNoFront front bytes
front_judged [] bytes = inl (bytes, refl)
front_judged (f ∷ front) [] = inr (λ rest e. absurd (let a : ⊥ = cc in a))
front_judged (f ∷ front) (b ∷ bytes) = by (cases_eq b f) (front_judged front bytes)
  where
    by : (b ≡ f) ⊎ (b ≡ f → ⊥) → HasFront front bytes ⊎ HasNoFront front bytes → HasFront (f ∷ front) (b ∷ bytes) ⊎ HasNoFront (f ∷ front) (b ∷ bytes)
    by (inl same) (inl x) = inl (x.0, ap (λ z. z ∷ bytes) same ∙ ap (λ z. f ∷ z) x.1)
    by (inl same) (inr none) = inr (λ rest e. none rest (tail_same b f bytes (front ++ rest) e))
    by (inr differ) x = inr (λ rest e. differ (head_same b f bytes (front ++ rest) e))

-- the one value of variable i, of width w, whose line may be at the front
abbrev Only : (w i : ℕ) (bytes : List ℕ) → ℕ → Type 0
Only w i bytes value = (v : ℕ) (rest : List ℕ) → v < 2 ^ w → bytes ≡ (value_line w i v ++ 10 ∷ []) ++ rest → v ≡ value

only_value : (w i : ℕ) (bytes : List ℕ) → (value : ℕ) × Only w i bytes value
only_value w i bytes = by (nat_eq w 1) refl
  where
    by : (b : Bool) → nat_eq w 1 ≡ b → (value : ℕ) × Only w i bytes value
    by true one = (
      get_or bytes 0 0 - 48,
      λ v rest l e.
          let line : bytes ≡ (line_by true i v ++ 10 ∷ []) ++ rest = e ∙ ap (λ b. (line_by b i v ++ 10 ∷ []) ++ rest) one in
          let first : get_or bytes 0 0 ≡ 48 + v = ap (λ z. get_or z 0 0) line in
          omega (arith, first),
    )
    by false several = (
      bits_after 0 (drop 1 bytes),
      λ v rest l e.
          let line = wide_line w i v rest bytes (λ same. not_one w several same) e in
          sym (ap (λ z. bits_after 0 (drop 1 z)) line ∙ binary_read v ((id_of i ++ 10 ∷ []) ++ rest)),
    )
      where
        not_one : (w : ℕ) → nat_eq w 1 ≡ false → w ≡ 1 → ⊥
        not_one w h e = grind (arith, h, e)

-- the line of a value of variable i, of width w, is at the front
abbrev pub HasLine : (w i : ℕ) (bytes : List ℕ) → Type 0
HasLine w i bytes = (v : ℕ) × (rest : List ℕ) × (v < 2 ^ w) × (bytes ≡ (value_line w i v ++ 10 ∷ []) ++ rest)

abbrev pub HasNoLine : (w i : ℕ) (bytes : List ℕ) → Type 0
HasNoLine w i bytes = (v : ℕ) (rest : List ℕ) → v < 2 ^ w → bytes ≡ (value_line w i v ++ 10 ∷ []) ++ rest → ⊥

pub line_judged : (w i : ℕ) (bytes : List ℕ) → HasLine w i bytes ⊎ HasNoLine w i bytes
line_judged w i bytes = by (cases_lt value (2 ^ w)) (front_judged (value_line w i value ++ 10 ∷ []) bytes)
  where
    value : ℕ
    value = (only_value w i bytes).0

    only : Only w i bytes value
    only = (only_value w i bytes).1

    by : (value < 2 ^ w) ⊎ (2 ^ w ≤ value) → HasFront (value_line w i value ++ 10 ∷ []) bytes ⊎ HasNoFront (value_line w i value ++ 10 ∷ []) bytes → HasLine w i bytes ⊎ HasNoLine w i bytes
    by (inl l) (inl x) = inl (value, x.0, l, x.1)
    by (inl l) (inr none) = inr (λ v rest small e. none rest (e ∙ ap (λ z. (value_line w i z ++ 10 ∷ []) ++ rest) (only v rest small e)))
    by (inr l) x = inr (λ v rest small e. omega (arith, only v rest small e, l, small))

-- the line of any time, also of one above all numbers of 64 bits
digits_plain : (count n : ℕ) (ds : List ℕ) → IsPlain ds → IsPlain (digits_onto count 10 false n ds)
digits_plain zero n ds p = p
digits_plain (suc count) n ds p = by (nat_eq (n / 10) 0) (digits_plain count (n / 10) (digit_glyph false (n % 10) ∷ ds) more)
  where
    small : n % 10 < 10
    small = omega arith

    digit : (d : ℕ) → d < 10 → digit_glyph false d ≡ 10 → ⊥
    digit d l e = grind (arith, l, e)

    more : IsPlain (digit_glyph false (n % 10) ∷ ds)
    more = (digit (n % 10) small, p)

    by : (b : Bool) → IsPlain (digits_onto count 10 false (n / 10) (digit_glyph false (n % 10) ∷ ds)) → IsPlain (if b then digit_glyph false (n % 10) ∷ ds else digits_onto count 10 false (n / 10) (digit_glyph false (n % 10) ∷ ds))
    by true q = more
    by false q = q

decimal_plain : (n : ℕ) → IsPlain (decimal n)
unfolding digits
decimal_plain n = digits_plain 64 n [] tt

pub time_plain : (k : ℕ) → IsPlain (time_line k)
time_plain k = ((λ e. omega (arith, e)), decimal_plain k)
