-- What a printer writes is read as its tokens.
use Rattle.std.proofs.Common.{◌≡◌, ℕ, ◌+◌, ◌*◌, ◌%◌, ◌^◌, ◌<◌, ◌≤◌, List, [], ◌∷◌, ◌++◌, length, take, drop, Ok, Some, Bool, true, false, nat_lt, nat_le, refl, ap, ◌∙◌, arith, append_assoc}
use Rattle.std.specs.Prelude.{if◌then◌else◌}
use Rattle.std.specs.List.{prefix_len}
use Rattle.std.specs.Fmt.{decimal}
use Rattle.std.proofs.lemmas.Fmt.{decimal_by_steps}
use Rattle.std.proofs.Math.Seq.{take-append_seam, drop-append_seam}
use Rattle.verilog_text.specs.declared.token.TokenKind.TheVariants.{Sized}
use Rattle.net_names.specs.Words.{is_letter, is_word_byte, is_digit}
use Rattle.verilog_text.specs.Bytes.{is_in_number, is_in_constant, is_digit_of, are_digits, is_numeral, with_digit, value_after, word_kind, constant_of, of_size, fitting}
use Rattle.verilog_text.specs.Lexis.{lexeme, number_at, sized_of, word_at, is_tick_first, word_here, number_here, symbol_here}

-- each byte passes the test, and the next one does not
abbrev pub AllOf : (ℕ → Bool) → List ℕ → Type 0
AllOf p [] = Unit {0}
AllOf p (b ∷ bs) = (p b ≡ true) × AllOf p bs

abbrev pub StopsAt : (ℕ → Bool) → List ℕ → Type 0
StopsAt p [] = Unit {0}
StopsAt p (b ∷ bs) = p b ≡ false

pub run_of : (p : ℕ → Bool) (xs rest : List ℕ) → AllOf p xs → StopsAt p rest → prefix_len p (xs ++ rest) ≡ length xs
run_of p [] [] a s = refl
run_of p [] (b ∷ bs) a s = rw s refl
run_of p (x ∷ xs) rest a s =
    let h = run_of p xs rest a.1 s in
    rw a.0 (omega (arith, h))

-- a word
pub word_reads : (a : ℕ) (bs rest : List ℕ) → is_letter a ≡ true → AllOf is_word_byte bs → StopsAt is_word_byte rest → length (a ∷ bs) ≤ 64 → lexeme a (bs ++ rest) ≡ Ok (word_kind (a ∷ bs), length (a ∷ bs))
unfolding lexeme
word_reads a bs rest b all s fits =
    let i : is_word_byte a ≡ true = grind arith in
    let run : prefix_len is_word_byte (a ∷ (bs ++ rest)) ≡ length (a ∷ bs) = run_of is_word_byte (a ∷ bs) rest (i, all) s in
    let whole : take (length (a ∷ bs)) (a ∷ (bs ++ rest)) ≡ a ∷ bs = take-append_seam (a ∷ bs) rest in
    let short : nat_lt 64 (length (a ∷ bs)) ≡ false = grind arith in
    let first : lexeme a (bs ++ rest) ≡ word_at (a ∷ (bs ++ rest)) (prefix_len is_word_byte (a ∷ (bs ++ rest))) =
    ap (λ t. if t then word_here (a ∷ (bs ++ rest)) else (if is_digit a then number_here (a ∷ (bs ++ rest)) else symbol_here (a ∷ (bs ++ rest)))) b in
    let second : word_at (a ∷ (bs ++ rest)) (length (a ∷ bs)) ≡ Ok (word_kind (take (length (a ∷ bs)) (a ∷ (bs ++ rest))), length (a ∷ bs)) = rw short refl in
    first ∙ ap (λ n. word_at (a ∷ (bs ++ rest)) n) run ∙ second ∙ ap (λ w. Ok (word_kind w, length (a ∷ bs))) whole

-- decimal digits
pub record IsDecimal (n : ℕ) (ds : List ℕ) : Type 0 where
  pub numeral : is_numeral 10 ds ≡ true
  pub value : value_after 10 0 ds ≡ n

digit_first : (n : ℕ) → n < 10 → is_digit_of 10 (48 + n) ≡ true
digit_first n h = grind arith

digit_worth : (v n : ℕ) → n < 10 → with_digit 10 v (48 + n) ≡ 10 * v + n
digit_worth v n h = grind arith

digits_more : (ds : List ℕ) (d : ℕ) → are_digits 10 ds ≡ true → is_digit_of 10 d ≡ true → are_digits 10 (ds ++ d ∷ []) ≡ true
digits_more [] d a b = rw b refl
digits_more (x ∷ xs) d a b = grind (arith, digits_more xs d)

numeral_more : (ds : List ℕ) (d : ℕ) → is_numeral 10 ds ≡ true → is_digit_of 10 d ≡ true → is_numeral 10 (ds ++ d ∷ []) ≡ true
numeral_more [] d a b = absurd (cc)
numeral_more (x ∷ xs) d a b = grind (arith, digits_more xs d)

value_more : (v : ℕ) (ds : List ℕ) (d : ℕ) → value_after 10 v (ds ++ d ∷ []) ≡ with_digit 10 (value_after 10 v ds) d
value_more v [] d = refl
value_more v (x ∷ xs) d = value_more (with_digit 10 v x) xs d

pub decimal_is : (n : ℕ) → n < 2 ^ 64 → IsDecimal n (decimal n)
decimal_is n h =
    decimal_by_steps IsDecimal
    (λ m s. record { numeral = rw (digit_first m s) refl; value = digit_worth 0 m s ∙ omega arith })
    (λ m ds g d.
    let low : m % 10 < 10 = omega arith in
    record {
      numeral = numeral_more ds (48 + m % 10) d.numeral (digit_first (m % 10) low);
      value = value_more 0 ds (48 + m % 10) ∙ digit_worth (value_after 10 0 ds) (m % 10) low ∙ (let e = d.value in omega (arith, e));
    })
    n h

pub all_number : (ds : List ℕ) → are_digits 10 ds ≡ true → AllOf is_in_number ds
all_number [] a = tt
all_number (x ∷ xs) a =
    let i : is_in_number x ≡ true = grind arith in
    let r : are_digits 10 xs ≡ true = grind arith in
    (i, all_number xs r)

all_constant : (ds : List ℕ) → AllOf is_in_number ds → AllOf is_in_constant ds
all_constant [] a = tt
all_constant (x ∷ xs) a =
    let h : is_in_number x ≡ true = a.0 in
    let i : is_in_constant x ≡ true = grind arith in
    (i, all_constant xs a.1)

all_append : (p : ℕ → Bool) (xs ys : List ℕ) → AllOf p xs → AllOf p ys → AllOf p (xs ++ ys)
all_append p [] ys a b = b
all_append p (x ∷ xs) ys a b = (a.0, all_append p xs ys a.1 b)

pub numeral_digits : (ds : List ℕ) → is_numeral 10 ds ≡ true → are_digits 10 ds ≡ true
numeral_digits [] a = absurd (cc)
numeral_digits (x ∷ xs) a = grind arith

pub lt_true : (a b : ℕ) → a < b → nat_lt a b ≡ true
lt_true a b h = grind arith

pub le_true : (a b : ℕ) → a ≤ b → nat_le a b ≡ true
le_true a b h = grind arith

fits_is : (w v : ℕ) → 1 ≤ w → w ≤ 64 → v < 2 ^ w → fitting w v ≡ Some (record { width = w; value = v })
fits_is w v low high fits =
    let a = le_true 1 w low in
    let b = le_true w 64 high in
    let c = lt_true v (2 ^ w) fits in
    rw (a, b, c) refl

pub first_digit : (a : ℕ) (ws : List ℕ) → is_numeral 10 (a ∷ ws) ≡ true → is_digit_of 10 a ≡ true
first_digit a ws h = grind arith

pub is_digit_of_ten : (a : ℕ) → is_digit_of 10 a ≡ true → is_digit a ≡ true
is_digit_of_ten a h = grind arith

pub no_word : (a : ℕ) → is_digit a ≡ true → is_letter a ≡ false
no_word a h = grind arith

-- a size, `'d` and a value, over digits that denote them
pub constant_is : (w v : ℕ) (ws vs : List ℕ) → IsDecimal w ws → IsDecimal v vs → 1 ≤ w → w ≤ 64 → v < 2 ^ w → constant_of (ws ++ 39 ∷ 100 ∷ vs) ≡ Some (record { width = w; value = v })
constant_is w v ws vs a b low high fits =
    let size : prefix_len is_in_number (ws ++ 39 ∷ 100 ∷ vs) ≡ length ws = run_of is_in_number ws (39 ∷ 100 ∷ vs) (all_number ws (numeral_digits ws a.numeral)) refl in
    let front : take (length ws) (ws ++ 39 ∷ 100 ∷ vs) ≡ ws = take-append_seam ws (39 ∷ 100 ∷ vs) in
    let back : drop (length ws) (ws ++ 39 ∷ 100 ∷ vs) ≡ 39 ∷ 100 ∷ vs = drop-append_seam ws (39 ∷ 100 ∷ vs) in
    let fit : fitting w v ≡ Some (record { width = w; value = v }) = fits_is w v low high fits in
    let behind : of_size w (39 ∷ 100 ∷ vs) ≡ fitting w (value_after 10 0 vs) = rw (b.numeral) refl in
    ap (λ n. of_size (value_after 10 0 (take n (ws ++ 39 ∷ 100 ∷ vs))) (drop n (ws ++ 39 ∷ 100 ∷ vs))) size
    ∙ ap (λ x. of_size (value_after 10 0 x) (drop (length ws) (ws ++ 39 ∷ 100 ∷ vs))) front
    ∙ ap (λ x. of_size (value_after 10 0 ws) x) back
    ∙ ap (λ x. of_size x (39 ∷ 100 ∷ vs)) a.value
    ∙ behind ∙ ap (λ x. fitting w x) b.value ∙ fit

-- a sized constant
pub constant_reads : (a w v : ℕ) (ws vs rest : List ℕ) → IsDecimal w (a ∷ ws) → IsDecimal v vs → 1 ≤ w → w ≤ 64 → v < 2 ^ w → StopsAt is_in_constant rest
    → lexeme a ((ws ++ 39 ∷ 100 ∷ vs) ++ rest) ≡ Ok (Sized (record { width = w; value = v }), length (a ∷ (ws ++ 39 ∷ 100 ∷ vs)))
unfolding lexeme
constant_reads a w v ws vs rest p q low high fits s =
    let all = (a ∷ (ws ++ 39 ∷ 100 ∷ vs)) ++ rest in
    let digits : AllOf is_in_number (a ∷ ws) = all_number (a ∷ ws) (numeral_digits (a ∷ ws) p.numeral) in
    let last : AllOf is_in_number vs = all_number vs (numeral_digits vs q.numeral) in
    let split : all ≡ (a ∷ ws) ++ (39 ∷ 100 ∷ (vs ++ rest)) = append_assoc (a ∷ ws) (39 ∷ 100 ∷ vs) rest in
    let size : prefix_len is_in_number all ≡ length (a ∷ ws) =
    ap (λ x. prefix_len is_in_number x) split ∙ run_of is_in_number (a ∷ ws) (39 ∷ 100 ∷ (vs ++ rest)) digits refl in
    let run : prefix_len is_in_constant all ≡ length (a ∷ (ws ++ 39 ∷ 100 ∷ vs)) =
    run_of is_in_constant (a ∷ (ws ++ 39 ∷ 100 ∷ vs)) rest
    (all_append is_in_constant (a ∷ ws) (39 ∷ 100 ∷ vs) (all_constant (a ∷ ws) digits) (refl, (refl, all_constant vs last))) s in
    let whole : take (length (a ∷ (ws ++ 39 ∷ 100 ∷ vs))) all ≡ a ∷ (ws ++ 39 ∷ 100 ∷ vs) = take-append_seam (a ∷ (ws ++ 39 ∷ 100 ∷ vs)) rest in
    let behind : drop (length (a ∷ ws)) all ≡ 39 ∷ 100 ∷ (vs ++ rest) =
    ap (λ x. drop (length (a ∷ ws)) x) split ∙ drop-append_seam (a ∷ ws) (39 ∷ 100 ∷ (vs ++ rest)) in
    let d : is_digit a ≡ true = is_digit_of_ten a (first_digit a ws p.numeral) in
    let n : is_letter a ≡ false = no_word a d in
    let first : lexeme a ((ws ++ 39 ∷ 100 ∷ vs) ++ rest) ≡ number_at all (prefix_len is_in_number all) (prefix_len is_in_constant all) = rw (n, d) refl in
    let tick : is_tick_first (drop (length (a ∷ ws)) all) ≡ true = ap (λ x. is_tick_first x) behind in
    let second : number_at all (length (a ∷ ws)) (length (a ∷ (ws ++ 39 ∷ 100 ∷ vs)))
    ≡ sized_of (constant_of (take (length (a ∷ (ws ++ 39 ∷ 100 ∷ vs))) all)) (length (a ∷ (ws ++ 39 ∷ 100 ∷ vs))) = rw tick refl in
    first ∙ ap (λ m. number_at all m (prefix_len is_in_constant all)) size ∙ ap (λ m. number_at all (length (a ∷ ws)) m) run ∙ second
    ∙ ap (λ x. sized_of (constant_of x) (length (a ∷ (ws ++ 39 ∷ 100 ∷ vs)))) whole
    ∙ ap (λ x. sized_of x (length (a ∷ (ws ++ 39 ∷ 100 ∷ vs)))) (constant_is w v (a ∷ ws) vs p q low high fits)
