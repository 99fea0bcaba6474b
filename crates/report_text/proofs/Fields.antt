-- Fields and lines: what is read is written so, and what is written so is read.
use Rattle.std.proofs.Common.{rules, ◌≡◌, ◌<◌, ◌+◌, ◌^◌, ◌∙◌, ℕ, zero, suc, List, [], ◌∷◌, ◌++◌, length, take, drop, get_or, codes, refl, ap, sym, subst, arith, Bool, true, false, decimal}
use Rattle.std.specs.Prelude.{Some, None, nat_eq, if◌then◌else◌}
use Rattle.std.specs.List.{prefix_len}
use Rattle.std.proofs.lemmas.Bool.{eqb-true, eq-eqb, ne_eqb, ltb-true, lt-ltb, and_parts}
use Rattle.std.proofs.lemmas.List.{take-append-drop, take_at, drop_at}
use Rattle.std.proofs.lemmas.Str.Parse.{IsNumeralModel, numerals_by_fold}
use Rattle.std.proofs.lemmas.Fmt.{digits_decimal, digits_value-decimal, decimal-digits_value, decimal_nonempty, first_decimal, decimal_digit}
use Rattle.std.proofs.lemmas.Option.{same_Some}
use Rattle.dk_base.specs.Ascii.{is_digit}
use Rattle.report_text.specs.Layout.{number_line, pair_line}
use Rattle.dk_base.specs.Ascii.{value_of, value_after}
use Rattle.report_text.specs.Reading.{◌>>=◌, strip, is_end, is_canonical, numeral, number_at, number_line_at, pair_line_at}
use Rattle.report_text.proofs.Options.{bind_some, if_some}

-- words
pub strip_again : (word rest : List ℕ) → strip word (word ++ rest) ≡ Some rest
strip_again [] rest = refl
strip_again (w ∷ word) rest = rw (eq-eqb w w refl) (strip_again word rest)

pub strip_takes : (word bytes rest : List ℕ) → strip word bytes ≡ Some rest → bytes ≡ word ++ rest
strip_takes [] bytes rest e = same_Some bytes rest e
strip_takes (w ∷ word) [] rest e = absurd (cc e)
strip_takes (w ∷ word) (b ∷ bytes) rest e = by (nat_eq w b) refl (strip_takes word bytes rest)
  where
    by : (t : Bool) → nat_eq w b ≡ t → (strip word bytes ≡ Some rest → bytes ≡ word ++ rest) → (b ∷ bytes) ≡ w ∷ (word ++ rest)
    by true h more = let m = more (rw h at e) in let s = eqb-true w b h in cc
    by false h more = let f = rw h at e in absurd (cc f)

-- bytes that pass a test, and bytes that do not go on with one that does
abbrev pub Passes : (ℕ → Bool) → List ℕ → Type 0
Passes p [] = Unit {0}
Passes p (b ∷ bytes) = (p b ≡ true) × Passes p bytes

abbrev pub Stops : (ℕ → Bool) → List ℕ → Type 0
Stops p [] = Unit {0}
Stops p (b ∷ bytes) = p b ≡ false

pub span_again : (p : ℕ → Bool) (xs ys : List ℕ) → Passes p xs → Stops p ys → prefix_len p (xs ++ ys) ≡ length xs
span_again p [] [] a s = refl
span_again p [] (y ∷ ys) a s = rw s refl
span_again p (x ∷ xs) ys a s = let i = span_again p xs ys a.1 s in rw a.0 (omega (arith, i))

pub passes_front : (p : ℕ → Bool) (xs : List ℕ) → Passes p (take (prefix_len p xs) xs)
passes_front p [] = tt
passes_front p (x ∷ xs) = by (p x) refl (passes_front p xs)
  where
    by : (t : Bool) → p x ≡ t → Passes p (take (prefix_len p xs) xs) → Passes p (take (prefix_len p (x ∷ xs)) (x ∷ xs))
    by true h i = let e : 1 + prefix_len p xs ≡ suc (prefix_len p xs) = omega arith in rw (h, e) (h, i)
    by false h i = rw h tt

-- the digits of a number
own : IsNumeralModel (Passes is_digit) value_of
own = numerals_by_fold _ (search rules) value_after (search rules)

pub decimal_passes : (n : ℕ) → n < 2 ^ 64 → Passes is_digit (decimal n)
decimal_passes n small = digits_decimal own n small

canonical_of : (ds : List ℕ) → 0 < length ds → (get_or ds 0 0 ≡ 48 → length ds ≡ 1) → is_canonical ds ≡ true
canonical_of [] some one = absurd (omega arith)
canonical_of (d ∷ []) some one = refl
canonical_of (d ∷ e ∷ ds) some one = rw (ne_eqb d 48 (λ h. let o = one h in omega arith)) refl

canonical_is : (ds : List ℕ) → is_canonical ds ≡ true → (0 < length ds) × (get_or ds 0 0 ≡ 48 → length ds ≡ 1)
canonical_is [] e = absurd (cc e)
canonical_is (d ∷ []) e = (omega arith, λ h. omega arith)
canonical_is (d ∷ f ∷ ds) e = (omega arith, λ h. let t = eq-eqb d 48 h in absurd (cc (rw t at e)))

canonical_decimal : (n : ℕ) → n < 2 ^ 64 → is_canonical (decimal n) ≡ true
canonical_decimal zero small = rw (decimal_digit 0 (omega arith)) refl
canonical_decimal (suc n) small = canonical_of (decimal (suc n)) (decimal_nonempty (suc n) small) (λ h. let f = first_decimal (suc n) (omega arith) small in absurd (omega arith))

pub numeral_again : (n : ℕ) → n < 2 ^ 64 → numeral (decimal n) ≡ Some n
numeral_again n small = rw (canonical_decimal n small, digits_value-decimal own n small, lt-ltb n (2 ^ 64) small) refl

pub numeral_takes : (ds : List ℕ) (n : ℕ) → Passes is_digit ds → numeral ds ≡ Some n → (ds ≡ decimal n) × (n < 2 ^ 64)
numeral_takes ds n a e =
    let i = if_some _ (value_of ds) n e in
    let t = and_parts _ _ i.0 in
    let c = canonical_is ds t.0 in
    let small : value_of ds < 2 ^ 64 = ltb-true _ _ t.1 in
    (sym (ap (λ v. decimal v) (sym i.1) ∙ decimal-digits_value own ds a c.0 c.1 small), subst (λ v. v < 2 ^ 64) i.1 small)

-- numbers
pub number_again : (n : ℕ) (rest : List ℕ) → n < 2 ^ 64 → Stops is_digit rest → number_at (decimal n ++ rest) ≡ Some (n, rest)
unfolding number_at
number_again n rest small stops =
    let k = span_again is_digit (decimal n) rest (decimal_passes n small) stops in
    rw (k, take_at (decimal n) rest (length (decimal n)) refl, drop_at (decimal n) rest (length (decimal n)) refl, numeral_again n small) refl

pub number_takes : (bytes rest : List ℕ) (n : ℕ) → number_at bytes ≡ Some (n, rest) → (bytes ≡ decimal n ++ rest) × (n < 2 ^ 64)
unfolding number_at
number_takes bytes rest n e =
    let b = bind_some (numeral (take (prefix_len is_digit bytes) bytes)) (λ v. Some (v, drop (prefix_len is_digit bytes) bytes)) (n, rest) e in
    let s = same_Some _ _ b.2 in
    let d : drop (prefix_len is_digit bytes) bytes ≡ rest = ap (λ x. x.1) s in
    let v : b.0 ≡ n = ap (λ x. x.0) s in
    let m = numeral_takes _ b.0 (passes_front is_digit bytes) b.1 in
    (sym (take-append-drop (prefix_len is_digit bytes) bytes) ∙ ap (λ x. x ++ drop (prefix_len is_digit bytes) bytes) (m.0 ∙ ap (λ x. decimal x) v) ∙ ap (λ x. decimal n ++ x) d, subst (λ x. x < 2 ^ 64) v m.1)

-- lines of a word and numbers
pub end_is : (bytes : List ℕ) → is_end bytes ≡ true → bytes ≡ codes "\n"
end_is [] e = absurd (cc e)
end_is (b ∷ []) e = ap (λ x. x ∷ []) (eqb-true b 10 e)
end_is (b ∷ c ∷ bytes) e = absurd (cc e)

pub line_again : (word : List ℕ) (n : ℕ) → n < 2 ^ 64 → number_line_at word (number_line word n) ≡ Some n
unfolding number_line_at
line_again word n small = rw (strip_again word (decimal n ++ codes "\n"), number_again n (codes "\n") small refl) refl

pub line_takes : (word line : List ℕ) (n : ℕ) → number_line_at word line ≡ Some n → (line ≡ number_line word n) × (n < 2 ^ 64)
unfolding number_line_at
line_takes word line n e =
    let a = bind_some (strip word line) (λ rest. number_at rest >>= λ n. if is_end n.1 then Some n.0 else None) n e in
    let b = bind_some (number_at a.0) (λ n. if is_end n.1 then Some n.0 else None) n a.2 in
    let i = if_some (is_end b.0.1) b.0.0 n b.2 in
    let m = number_takes a.0 b.0.1 b.0.0 b.1 in
    (strip_takes word line a.0 a.1 ∙ ap (λ x. word ++ x) (m.0 ∙ ap (λ x. decimal b.0.0 ++ x) (end_is b.0.1 i.0) ∙ ap (λ x. decimal x ++ codes "\n") i.1), subst (λ x. x < 2 ^ 64) i.1 m.1)

pub pair_again : (word : List ℕ) (m n : ℕ) → m < 2 ^ 64 → n < 2 ^ 64 → pair_line_at word (pair_line word m n) ≡ Some (m, n)
unfolding pair_line_at
pair_again word m n small few = rw (strip_again word (decimal m ++ (codes " " ++ (decimal n ++ codes "\n"))), number_again m (codes " " ++ (decimal n ++ codes "\n")) small refl, line_again (codes " ") n few) refl

pub pair_takes : (word line : List ℕ) (m n : ℕ) → pair_line_at word line ≡ Some (m, n) → (line ≡ pair_line word m n) × (m < 2 ^ 64) × (n < 2 ^ 64)
unfolding pair_line_at
pair_takes word line m n e =
    let a = bind_some (strip word line) (λ rest. number_at rest >>= λ m. number_line_at (codes " ") m.1 >>= λ n. Some (m.0, n)) (m, n) e in
    let b = bind_some (number_at a.0) (λ m. number_line_at (codes " ") m.1 >>= λ n. Some (m.0, n)) (m, n) a.2 in
    let c = bind_some (number_line_at (codes " ") b.0.1) (λ n. Some (b.0.0, n)) (m, n) b.2 in
    let s = same_Some (b.0.0, c.0) (m, n) c.2 in
    let t = number_takes a.0 b.0.1 b.0.0 b.1 in
    let u = line_takes (codes " ") b.0.1 c.0 c.1 in
    let first : b.0.0 ≡ m = ap (λ x. x.0) s in
    let second : c.0 ≡ n = ap (λ x. x.1) s in (
      strip_takes word line a.0 a.1 ∙ ap (λ x. word ++ x) (t.0 ∙ ap (λ x. decimal b.0.0 ++ x) (u.0 ∙ ap (λ x. codes " " ++ (decimal x ++ codes "\n")) second) ∙ ap (λ x. decimal x ++ (codes " " ++ (decimal n ++ codes "\n"))) first),
      subst (λ x. x < 2 ^ 64) first t.1,
      subst (λ x. x < 2 ^ 64) second u.1,
    )
