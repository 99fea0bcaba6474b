-- Numbers that `parse` reads, and numbers in decimal.
use Rattle.std.proofs.Common.{◌≡◌, ℕ, zero, suc, ◌^◌, ◌<◌, ◌≤◌, ◌==◌, ◌&&◌, Bool, true, false, cond, [], ◌∷◌, length, drop, None, Some, option_and_then, Result, Ok, Err, IfSome, refl, sym, ap, subst, ◌∙◌, arith, decimal, nat_le, get_or}
use Rattle.std.proofs.lemmas.Bool.Decides.{nat_tests}
use Rattle.std.proofs.lemmas.Fmt.{decimal_is_IsNumeral, decimal-digits_value}
use Rattle.std.proofs.lemmas.Str.{digit_value_digit}
use Rattle.std.proofs.lemmas.Str.Parse.{digit_from_value, IsNumeralModel}
use Rattle.std.specs.List.{list_all}
use Rattle.std.specs.Result.{OkIff, result_ok}
use Rattle.std.specs.Int.{IsInRange}
use Rattle.std.specs.Char.{digit_value}
use Rattle.std.specs.Str.Parse.{AllDigits, IsNumeral, ParsesUnsigned, digits_value, without_leading_plus}
use Rattle.clap.specs.Walk.{Text}
use Rattle.dk_words.specs.Words.{is_like_option}
use Rattle.dk_words.specs.Numbers.{is_digit, number_of, number_within, padded_decimal, within}
use Rattle.dk_words.proofs.Joined.{both, left, right}

-- ---- digits

-- a digit's byte is in its range
digit_range : (b : ℕ) → is_digit b ≡ true → IsInRange 48 57 b
digit_range b e = grind (arith, nat_tests)

range_digit : (b : ℕ) → IsInRange 48 57 b → is_digit b ≡ true
range_digit b e = grind (arith, nat_tests)

-- digits by our test are std's
digits_are : (bs : Text) → list_all is_digit bs ≡ true → AllDigits 10 bs
digits_are [] e = tt
digits_are (b ∷ bs) e =
    let r = digit_range b (left (is_digit b) (list_all is_digit bs) e) in
    let lt : digit_value b < 10 = omega (arith, digit_value_digit b r) in
    (lt, digits_are bs (right (is_digit b) (list_all is_digit bs) e))

digits_from : (bs : Text) → AllDigits 10 bs → list_all is_digit bs ≡ true
digits_from [] d = refl
digits_from (b ∷ bs) d = both _ _ (range_digit b (digit_from_value b d.0)) (digits_from bs d.1)

-- no digit is a plus (43)
no_plus : (bs : Text) → list_all is_digit bs ≡ true → without_leading_plus bs ≡ bs
no_plus [] e = refl
no_plus (b ∷ bs) e =
    let r = digit_range b (left (is_digit b) (list_all is_digit bs) e) in
    at (b == 43) (no_digit b r)
  where
    no_digit : (x : ℕ) → IsInRange 48 57 x → (x == 43) ≡ false
    no_digit x r = grind (arith, nat_tests)

    at : (t : Bool) → t ≡ false → drop (cond t 1 0) (b ∷ bs) ≡ (b ∷ bs)
    at true x = absurd (cc)
    at false x = refl

-- ---- what `parse` reads of digits

module _ {E : Type 0} where
  -- digits are read as their number, where it fits
  parsed_some : (bs : Text) (r : Result ℕ E) → list_all is_digit bs ≡ true → OkIff r (IsNumeral 10 bs × (digits_value 10 bs < 2 ^ 32)) (digits_value 10 bs) → IfSome (result_ok r) (λ n. number_of bs ≡ Some n)
  parsed_some bs (Err e) d p = tt
  parsed_some [] (Ok n) d p = let h = p.0.0.0 in absurd (omega (arith, h))
  parsed_some (b ∷ bs) (Ok n) d p = rw d (ap (λ x. Some x) (sym p.1))

  parsed_none : (bs : Text) (r : Result ℕ E) → list_all is_digit bs ≡ true → OkIff r (IsNumeral 10 bs × (digits_value 10 bs < 2 ^ 32)) (digits_value 10 bs) → result_ok r ≡ None → IfSome (number_of bs) (λ n. 2 ^ 32 ≤ n)
  parsed_none bs (Ok n) d p e = absurd (cc)
  parsed_none [] (Err x) d p e = tt
  parsed_none (b ∷ bs) (Err x) d p e = rw d (great (digits_value 10 (b ∷ bs)) (λ small. p ((omega (arith), digits_are (b ∷ bs) d), small)))
    where
      great : (n : ℕ) → (n < 2 ^ 32 → ⊥) → 2 ^ 32 ≤ n
      great n fails = omega (arith, fails)

  pub reads_some : (bs : Text) (r : Result ℕ E) → list_all is_digit bs ≡ true → ParsesUnsigned 32 10 bs r → IfSome (result_ok r) (λ n. number_of bs ≡ Some n)
  reads_some bs r d p = parsed_some bs r d (let P : Text → Type 0 = λ ds. OkIff r (IsNumeral 10 ds × (digits_value 10 ds < 2 ^ 32)) (digits_value 10 ds) in subst P (no_plus bs d) p)

  pub reads_none : (bs : Text) (r : Result ℕ E) → list_all is_digit bs ≡ true → ParsesUnsigned 32 10 bs r → result_ok r ≡ None → IfSome (number_of bs) (λ n. 2 ^ 32 ≤ n)
  reads_none bs r d p = parsed_none bs r d (let P : Text → Type 0 = λ ds. OkIff r (IsNumeral 10 ds × (digits_value 10 ds < 2 ^ 32)) (digits_value 10 ds) in subst P (no_plus bs d) p)

-- ---- decimals

-- a decimal is read as its number
pub number-decimal : (n : ℕ) → n < 2 ^ 64 → number_of (decimal n) ≡ Some n
number-decimal n h =
    let numeral = decimal_is_IsNumeral n h in
    read (decimal n) numeral.0.0 (digits_from (decimal n) numeral.0.1) ∙ ap (λ x. Some x) numeral.1
  where
    read : (ds : Text) → 0 < length ds → list_all is_digit ds ≡ true → number_of ds ≡ Some (digits_value 10 ds)
    read [] l d = absurd (omega (arith, l))
    read (b ∷ ds) l d = rw d refl

-- a zero before a number changes nothing
zero_before : (word : Text) (n : ℕ) → number_of word ≡ Some n → number_of (48 ∷ word) ≡ Some n
zero_before [] n e = absurd (cc)
zero_before (b ∷ bs) n e = e

-- nor do more of them
pub number-padded : (zeros n : ℕ) → n < 2 ^ 64 → number_of (padded_decimal zeros n) ≡ Some n
number-padded zero n h = number-decimal n h
number-padded (suc zeros) n h = zero_before (padded_decimal zeros n) n (number-padded zeros n h)

-- where it is in the range
pub within-padded : (low high zeros n : ℕ) → low ≤ n → n ≤ high → high < 2 ^ 64 → number_within low high (padded_decimal zeros n) ≡ Some n
within-padded low high zeros n l m h = ap (λ o. option_and_then (within low high) o) (number-padded zeros n (omega arith)) ∙ here (nat_le low n && nat_le n high) (grind (arith, nat_tests))
  where
    here : (b : Bool) → b ≡ true → cond b (Some n) None ≡ Some n
    here true e = refl
    here false e = absurd (cc)

-- a word of digits is no option
digits_plain : (ds : Text) → list_all is_digit ds ≡ true → is_like_option ds ≡ false
digits_plain [] e = refl
digits_plain (x ∷ []) e = refl
digits_plain (x ∷ y ∷ rest) e = let r = digit_range x (left (is_digit x) (list_all is_digit (y ∷ rest)) e) in no_hyphen x r
  where
    no_hyphen : (x : ℕ) → IsInRange 48 57 x → (x == 45) ≡ false
    no_hyphen x r = grind (arith, nat_tests)

-- a word that is a number has only digits
number_digits : (word : Text) (n : ℕ) → number_of word ≡ Some n → list_all is_digit word ≡ true
number_digits [] n e = absurd (cc)
number_digits (b ∷ bs) n e = at (list_all is_digit (b ∷ bs)) e
  where
    at : (t : Bool) → cond t (Some (digits_value 10 (b ∷ bs))) None ≡ Some n → t ≡ true
    at true f = refl
    at false f = absurd (cc)

pub plain-padded : (zeros n : ℕ) → n < 2 ^ 64 → is_like_option (padded_decimal zeros n) ≡ false
plain-padded zeros n h = digits_plain (padded_decimal zeros n) (number_digits (padded_decimal zeros n) n (number-padded zeros n h))

-- std's words, as a model of themselves
own : IsNumeralModel (AllDigits 10) (digits_value 10)
own = record { to = λ ds d. d; from = λ ds d. d; same = λ ds d. refl }

-- a zero (48) with more after it
has_leading_zero : Text → Bool
has_leading_zero (first ∷ second ∷ rest) = first == 48
has_leading_zero _ = false

-- without a leading zero a first digit of zero is the only digit
zero_alone : (ds : Text) → 0 < length ds → has_leading_zero ds ≡ false → get_or ds 0 0 ≡ 48 → length ds ≡ 1
unfolding has_leading_zero
zero_alone [] l z e = absurd (omega (arith, l))
zero_alone (x ∷ []) l z e = refl
zero_alone (x ∷ y ∷ rest) l z e = let f : x ≡ 48 = e in absurd (unlike x f z)
  where
    unlike : (x : ℕ) → x ≡ 48 → (x == 48) ≡ false → ⊥
    unlike x f z = grind (arith, nat_tests)

-- a word without a leading zero that is read as a number is its decimal
decimal-number : (word : Text) (n : ℕ) → has_leading_zero word ≡ false → number_of word ≡ Some n → n < 2 ^ 64 → decimal n ≡ word
decimal-number [] n z e h = absurd (cc)
decimal-number (b ∷ bs) n z e h = at (list_all is_digit (b ∷ bs)) refl e
  where
    at : (t : Bool) → list_all is_digit (b ∷ bs) ≡ t → cond t (Some (digits_value 10 (b ∷ bs))) None ≡ Some n → decimal n ≡ b ∷ bs
    at false is f = absurd (cc)
    at true is f =
        let v : digits_value 10 (b ∷ bs) ≡ n = cc in
        let small : digits_value 10 (b ∷ bs) < 2 ^ 64 = (let P : ℕ → Type 0 = λ m. m < 2 ^ 64 in subst P (sym v) h) in
        let some : 0 < length (b ∷ bs) = omega arith in
        ap decimal (sym v) ∙ decimal-digits_value own (b ∷ bs) (digits_are (b ∷ bs) is) some (zero_alone (b ∷ bs) some z) small

-- a word that is read as a number is its decimal after zeros
pub padded-number : (word : Text) (n : ℕ) → number_of word ≡ Some n → n < 2 ^ 64 → (zeros : ℕ) × (word ≡ padded_decimal zeros n)
unfolding has_leading_zero
padded-number [] n e h = absurd (cc)
padded-number (b ∷ []) n e h = (0, sym (decimal-number (b ∷ []) n refl e h))
padded-number (b ∷ d ∷ ds) n e h = at (b == 48) refl (λ f. padded-number (d ∷ ds) n f h)
  where
    equal : (x : ℕ) → (x == 48) ≡ true → x ≡ 48
    equal x t = grind (arith, nat_tests)

    at : (t : Bool) → (b == 48) ≡ t → (number_of (d ∷ ds) ≡ Some n → (zeros : ℕ) × (d ∷ ds ≡ padded_decimal zeros n)) → (zeros : ℕ) × (b ∷ d ∷ ds ≡ padded_decimal zeros n)
    at false is rest = (0, sym (decimal-number (b ∷ d ∷ ds) n is e h))
    at true is rest =
        let z = equal b is in
        let P : ℕ → Type 0 = λ x. number_of (x ∷ d ∷ ds) ≡ Some n in
        let found = rest (subst P z e) in
        (suc found.0, ap (λ x. x ∷ d ∷ ds) z ∙ ap (λ xs. 48 ∷ xs) found.1)
