-- Lines that are read.
use Rattle.std.proofs.Common.{◌≡◌, ℕ, zero, suc, ◌+◌, ◌*◌, ◌^◌, ◌<◌, ◌≤◌, Bool, true, false, List, [], ◌∷◌, ◌++◌, length, map, take, drop, refl, ap, sym, ◌∙◌, arith, append_assoc, eqb}
use Rattle.std.specs.Prelude.{nat_eq, if◌then◌else◌, Option, MatchOption}
use Rattle.std.specs.Cmp.Lexicographic.{pointwise}
use Rattle.std.specs.Int.Digits.{digits_of, number_from_digits_after, AllBelowBase}
use Rattle.std.proofs.lemmas.Bool.{ne_eqb}
use Rattle.std.proofs.lemmas.Bool.Decides.{Decides-eqb}
use Rattle.std.proofs.lemmas.Slice.Eq.{strip_prefix_is}
use Rattle.std.proofs.lemmas.Int.Digits.{number_digits_of, all_below_base_digits_of}
use Rattle.std.proofs.Math.Pow.{pow_mono}
use denote.Ref.{Bor}
use Rattle.vcd_trace.specs.Layout.{binary, id_of, value_line, time_line}
use Rattle.vcd_trace.specs.Steps.{bits_after}
use Rattle.vcd_trace.proofs.Lines.{line_by}

pub stripped : (front bytes : List ℕ) (r : Option (Bor (List ℕ))) → MatchOption r (pointwise eqb (take (length front) bytes) front ≡ false) (λ x. (pointwise eqb (take (length front) bytes) front ≡ true) × (x.now ≡ drop (length front) bytes) × (length x.now + length front ≡ length bytes))
    → MatchOption r ((rest : List ℕ) → bytes ≡ front ++ rest → ⊥) (λ x. bytes ≡ front ++ x.now)
stripped front bytes r a = strip_prefix_is Decides-eqb bytes front r a

-- digits and a blank
digit_step : (a d : ℕ) (bytes : List ℕ) → d < 2 → bits_after a ((48 + d) ∷ bytes) ≡ bits_after (a * 2 + d) bytes
digit_step a zero bytes h = ap (λ k. bits_after k bytes) (let e : 2 * a ≡ a * 2 + 0 = omega arith in e)
digit_step a (suc zero) bytes h = ap (λ k. bits_after k bytes) (let e : 2 * a + 1 ≡ a * 2 + 1 = omega arith in e)
digit_step a (suc (suc d)) bytes h = absurd (omega (arith, h))

digits_read : (a : ℕ) (ds rest : List ℕ) → AllBelowBase 2 ds → bits_after a (map (λ d. 48 + d) ds ++ 32 ∷ rest) ≡ number_from_digits_after 2 a ds
digits_read a [] rest h = refl
digits_read a (d ∷ ds) rest h = digit_step a d (map (λ k. 48 + k) ds ++ 32 ∷ rest) h.0 ∙ digits_read (a * 2 + d) ds rest h.1

pub binary_read : (v : ℕ) (rest : List ℕ) → bits_after 0 (binary v ++ 32 ∷ rest) ≡ v
binary_read zero rest = refl
binary_read (suc v) rest = digits_read 0 (digits_of 2 (suc v)) rest (all_below_base_digits_of 2 (suc v) (omega arith)) ∙ number_digits_of 2 (suc v) (omega arith)

-- digits only add to a number
pub bits_grow : (a : ℕ) (bytes : List ℕ) → a ≤ bits_after a bytes
bits_grow a [] = omega arith
bits_grow a (b ∷ bytes) = by (nat_eq b 48) (nat_eq b 49) (bits_grow (2 * a) bytes) (bits_grow (2 * a + 1) bytes)
  where
    by : (s t : Bool) → 2 * a ≤ bits_after (2 * a) bytes → 2 * a + 1 ≤ bits_after (2 * a + 1) bytes → a ≤ (if s then bits_after (2 * a) bytes else if t then bits_after (2 * a + 1) bytes else a)
    by true t h k = omega (arith, h)
    by false true h k = omega (arith, k)
    by false false h k = omega arith

pub wide_line : (w i v : ℕ) (rest bytes : List ℕ) → (w ≡ 1 → ⊥) → bytes ≡ (value_line w i v ++ 10 ∷ []) ++ rest → bytes ≡ 98 ∷ (binary v ++ 32 ∷ ((id_of i ++ 10 ∷ []) ++ rest))
wide_line w i v rest bytes several e =
    e ∙ ap (λ b. (line_by b i v ++ 10 ∷ []) ++ rest) (ne_eqb w 1 several)
    ∙ ap (λ z. 98 ∷ (z ++ rest)) (append_assoc (binary v) (32 ∷ id_of i) (10 ∷ []))
    ∙ ap (λ z. 98 ∷ z) (append_assoc (binary v) (32 ∷ (id_of i ++ 10 ∷ [])) rest)

pub zero_bit : (a b n : ℕ) → b ≡ 48 → (2 * a < 2 ^ 64 → n ≡ 2 * a) → (bytes : List ℕ) → bits_after a (b ∷ bytes) < 2 ^ 64 → bits_after n bytes ≡ bits_after a (b ∷ bytes)
zero_bit a b n e h bytes l =
    let same : bits_after a (b ∷ bytes) ≡ bits_after (2 * a) bytes = ap (λ k. bits_after a (k ∷ bytes)) e in
    ap (λ k. bits_after k bytes) (h (omega (arith, bits_grow (2 * a) bytes, same, l))) ∙ sym same

pub one_bit : (a b n : ℕ) → b ≡ 49 → (2 * a + 1 < 2 ^ 64 → n ≡ 2 * a + 1) → (bytes : List ℕ) → bits_after a (b ∷ bytes) < 2 ^ 64 → bits_after n bytes ≡ bits_after a (b ∷ bytes)
one_bit a b n e h bytes l =
    let same : bits_after a (b ∷ bytes) ≡ bits_after (2 * a + 1) bytes = ap (λ k. bits_after a (k ∷ bytes)) e in
    ap (λ k. bits_after k bytes) (h (omega (arith, bits_grow (2 * a + 1) bytes, same, l))) ∙ sym same

pub wide_read : (v n : ℕ) (digits rest : List ℕ) → v < 2 ^ 64 → digits ≡ binary v ++ 32 ∷ rest → (bits_after 0 digits < 2 ^ 64 → n ≡ bits_after 0 digits) → n ≡ v
wide_read v n digits rest l e h =
    let read : bits_after 0 digits ≡ v = ap (bits_after 0) e ∙ binary_read v rest in
    h (omega (arith, read, l)) ∙ read

pub small_number : (w n v : ℕ) → n ≤ w → v < 2 ^ n → v < 2 ^ w
small_number w n v h l = omega (arith, pow_mono h, l)

-- what a line states of a variable
abbrev pub Tells : (w i : ℕ) (bytes : List ℕ) → Option (ℕ × Bor (List ℕ)) → Type 0
Tells w i bytes r = MatchOption r ((v : ℕ) (more : List ℕ) → v < 2 ^ w → bytes ≡ (value_line w i v ++ 10 ∷ []) ++ more → ⊥) (λ x. (x.0 < 2 ^ w) × (bytes ≡ (value_line w i x.0 ++ 10 ∷ []) ++ x.1.now))

abbrev pub TellsTime : (k : ℕ) (bytes : List ℕ) → Option (Bor (List ℕ)) → Type 0
TellsTime k bytes r = MatchOption r ((more : List ℕ) → bytes ≡ (time_line k ++ 10 ∷ []) ++ more → ⊥) (λ rest. bytes ≡ (time_line k ++ 10 ∷ []) ++ rest.now)
