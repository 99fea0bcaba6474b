-- Type words are a letter and a decimal number.
use Rattle.std.proofs.Common.{◌≡◌, ◌≤◌, ◌<◌, ◌⊎◌, inl, inr, ℕ, zero, suc, ◌+◌, ◌-◌, ◌*◌, ◌/◌, ◌%◌, List, [], ◌∷◌, ◌++◌, Option, Some, None, Bool, true, false, ◌&&◌, nat_eq, nat_lt, if◌then◌else◌, refl, ap, sym, subst, ◌∙◌, arith, decimal}
use Rattle.std.proofs.lemmas.Bool.{cases_order, eqb-true, ltb-true, ltb-false, le-ltb}
use Rattle.std.proofs.lemmas.Fmt.{decimal_digit, decimal_step}
use Rattle.dk_base.specs.declared.ty.Ty.{Ty}
use Rattle.dk_base.specs.declared.ty.Ty.TheVariants.{Unsigned, Signed}
use Rattle.source_words.specs.declared.word.Keyword.{Keyword}
use Rattle.dk_parser.specs.declared.terminal.Terminal.{Terminal}
use Rattle.dk_parser.specs.declared.terminal.Terminal.TheVariants.{TypeWord as Type'}
use Rattle.source_words.specs.Words.{keyword_of, width_of, typed, type_of_word}
use Rattle.dk_parser.specs.Terminals.{word_terminal, terminal_of_word}
use Rattle.dk_parser.specs.Rules.{IsTypeWord}

-- a test of the numbers below a bound
abbrev each : (ℕ → Bool) → ℕ → Bool
each test zero = true
each test (suc n) = test n && each test n

both : (a b : Bool) → (a && b) ≡ true → (a ≡ true) × (b ≡ true)
both true true e = (refl, refl)
both true false e = absurd (cc (e))
both false b e = absurd (cc (e))

chosen : (test : ℕ → Bool) (k n : ℕ) → test k ≡ true → (n < k → test n ≡ true) → n < suc k → (n ≡ k) ⊎ ((n < k) ⊎ (k < n)) → test n ≡ true
chosen test k n here before h (inl e) = subst (λ x. test x ≡ true) (sym e) here
chosen test k n here before h (inr (inl l)) = before l
chosen test k n here before h (inr (inr g)) = absurd (omega (arith, h, g))

each_one : (test : ℕ → Bool) (k n : ℕ) → each test k ≡ true → n < k → test n ≡ true
each_one test zero n e h = absurd (omega (arith, h))
each_one test (suc k) n e h = let b = both (test k) (each test k) e in chosen test k n b.0 (λ l. each_one test k n b.1 l) h (cases_order n k)

-- a decimal number below 100
abbrev written : ℕ → List ℕ
written n = if nat_lt n 10 then (48 + n) ∷ [] else (48 + n / 10) ∷ (48 + n % 10) ∷ []

written_as : (n : ℕ) (b : Bool) → nat_lt n 10 ≡ b → n < 100 → decimal n ≡ (if b then (48 + n) ∷ [] else (48 + n / 10) ∷ (48 + n % 10) ∷ [])
written_as n true e h = decimal_digit n (ltb-true n 10 e)
written_as n false e h =
    let l = ltb-false n 10 e in
    decimal_step n l (omega (arith, h)) ∙ ap (λ x. x ++ ((48 + n % 10) ∷ [])) (decimal_digit (n / 10) (omega (arith, h)))

decimal_is : (n : ℕ) → n < 100 → decimal n ≡ written n
decimal_is n h = written_as n (nat_lt n 10) refl h

-- from a number of bits to the word
abbrev is_word : Terminal → Bool → ℕ → Bool
is_word (Type' (Unsigned m)) false n = nat_eq m n
is_word (Type' (Signed m)) true n = nat_eq m n
is_word _ _ n = false

unsigned_word : (k : Terminal) (n : ℕ) → is_word k false n ≡ true → k ≡ Type' (Unsigned n)
unsigned_word (Type' (Unsigned m)) n e = ap (λ x. Type' (Unsigned x)) (eqb-true m n e)
unsigned_word _ n e = absurd (cc (e))

signed_word : (k : Terminal) (n : ℕ) → is_word k true n ≡ true → k ≡ Type' (Signed n)
signed_word (Type' (Signed m)) n e = ap (λ x. Type' (Signed x)) (eqb-true m n e)
signed_word _ n e = absurd (cc (e))

abbrev makes_words : ℕ → Bool
makes_words n = is_word (terminal_of_word (117 ∷ written (suc n))) false (suc n) && is_word (terminal_of_word (115 ∷ written (suc n))) true (suc n)

words_made : (n : ℕ) → n < 64 → (terminal_of_word (117 ∷ written (suc n)) ≡ Type' (Unsigned (suc n))) × (terminal_of_word (115 ∷ written (suc n)) ≡ Type' (Signed (suc n)))
words_made n h =
    let b = both _ _ (each_one makes_words 64 n refl h) in
    (unsigned_word (terminal_of_word (117 ∷ written (suc n))) (suc n) b.0, signed_word (terminal_of_word (115 ∷ written (suc n))) (suc n) b.1)

pub word_of : (bytes : List ℕ) (t : Ty) → IsTypeWord bytes t → terminal_of_word bytes ≡ Type' t
word_of bytes (Unsigned zero) w = let h = w.0.some in absurd (omega (arith, h))
word_of bytes (Unsigned (suc n)) w = let h = w.0.most in subst (λ x. terminal_of_word x ≡ Type' (Unsigned (suc n))) (sym (w.1 ∙ ap (λ x. 117 ∷ x) (decimal_is (suc n) (omega (arith, h))))) (words_made n (omega (arith, h))).0
word_of bytes (Signed zero) w = let h = w.0.some in absurd (omega (arith, h))
word_of bytes (Signed (suc n)) w = let h = w.0.most in subst (λ x. terminal_of_word x ≡ Type' (Signed (suc n))) (sym (w.1 ∙ ap (λ x. 115 ∷ x) (decimal_is (suc n) (omega (arith, h))))) (words_made n (omega (arith, h))).1

-- from the word to its number of bits
record IsWidth (ds : List ℕ) (n : ℕ) : Type 0 where
  some : 1 ≤ n
  most : n ≤ 64
  digits : ds ≡ decimal n

picked : {V : Type 0} (b : Bool) (x : V) (o : Option V) → (if b then o else None) ≡ Some x → (b ≡ true) × (o ≡ Some x)
picked true x o e = (refl, e)
picked false x o e = absurd (cc (e))

kept : {V : Type 0} (b : Bool) (x : V) (o : Option V) → (if b then None else o) ≡ Some x → (b ≡ false) × (o ≡ Some x)
kept true x o e = absurd (cc (e))
kept false x o e = (refl, e)

same : {V : Type 0} (x y : V) → Some x ≡ Some y → x ≡ y
same x y e = cc

one_digit : (d n : ℕ) → 48 < d → d < 58 → d - 48 ≡ n → IsWidth (d ∷ []) n
one_digit d n l h e =
    let k : 48 + n ≡ d = omega (arith, l, e) in
    record { some = omega (arith, l, e); most = omega (arith, h, e); digits = sym (decimal_digit n (omega (arith, h, e)) ∙ ap (λ x. x ∷ []) k) }

two_digits : (d e n : ℕ) → 48 < d → d < 58 → 47 < e → e < 58 → n ≤ 64 → 10 * (d - 48) + (e - 48) ≡ n → IsWidth (d ∷ e ∷ []) n
two_digits d e n l h k m f s =
    let tens : 48 + n / 10 ≡ d = omega (arith, l, h, k, m, s) in
    let ones : 48 + n % 10 ≡ e = omega (arith, l, h, k, m, s) in
    let low : 10 ≤ n = omega (arith, l, s) in
    record {
      some = omega (arith, low);
      most = f;
      digits = ap (λ x. x ∷ e ∷ []) (sym tens) ∙ ap (λ x. (48 + n / 10) ∷ x ∷ []) (sym ones) ∙ sym (written_as n false (le-ltb n 10 low) (omega (arith, f)));
    }

width_is : (ds : List ℕ) (n : ℕ) → width_of ds ≡ Some n → IsWidth ds n
width_is [] n e = absurd (cc (e))
width_is (d ∷ []) n e =
    let p = picked (nat_lt 48 d && nat_lt d 58) n _ e in
    let b = both (nat_lt 48 d) (nat_lt d 58) p.0 in
    one_digit d n (ltb-true 48 d b.0) (ltb-true d 58 b.1) (same _ n p.1)
width_is (d ∷ e ∷ []) n k =
    let p = picked (nat_lt 48 d && nat_lt d 58 && nat_lt 47 e && nat_lt e 58) n _ k in
    let b = both _ (nat_lt e 58) p.0 in
    let c = both _ (nat_lt 47 e) b.0 in
    let f = both (nat_lt 48 d) (nat_lt d 58) c.0 in
    let r = kept (nat_lt 64 (10 * (d - 48) + (e - 48))) n _ p.1 in
    let value : 10 * (d - 48) + (e - 48) ≡ n = same _ n r.1 in
    let most = ltb-false 64 (10 * (d - 48) + (e - 48)) r.0 in
    two_digits d e n (ltb-true 48 d f.0) (ltb-true d 58 f.1) (ltb-true 47 e c.1) (ltb-true e 58 b.1) (omega (arith, most, value)) value
width_is (d ∷ e ∷ f ∷ ds) n k = absurd (cc (k))

unsigned_is : (ds : List ℕ) (o : Option ℕ) (t : Ty) → width_of ds ≡ o → typed Unsigned o ≡ Some t → IsTypeWord (117 ∷ ds) t
unsigned_is ds None t w e = absurd (cc (e))
unsigned_is ds (Some n) t w e =
    let k = width_is ds n w in
    let is : Unsigned n ≡ t = cc in
    subst (λ x. IsTypeWord (117 ∷ ds) x) is (record { some = k.some; most = k.most }, ap (λ x. 117 ∷ x) k.digits)

signed_is : (ds : List ℕ) (o : Option ℕ) (t : Ty) → width_of ds ≡ o → typed Signed o ≡ Some t → IsTypeWord (115 ∷ ds) t
signed_is ds None t w e = absurd (cc (e))
signed_is ds (Some n) t w e =
    let k = width_is ds n w in
    let is : Signed n ≡ t = cc in
    subst (λ x. IsTypeWord (115 ∷ ds) x) is (record { some = k.some; most = k.most }, ap (λ x. 115 ∷ x) k.digits)

by_letter : (c : ℕ) (ds : List ℕ) (t : Ty) (a b : Bool) → nat_eq c 117 ≡ a → nat_eq c 115 ≡ b
    → (if a then typed Unsigned (width_of ds) else (if b then typed Signed (width_of ds) else None)) ≡ Some t → IsTypeWord (c ∷ ds) t
by_letter c ds t true b p q e = subst (λ x. IsTypeWord (x ∷ ds) t) (sym (eqb-true c 117 p)) (unsigned_is ds (width_of ds) t refl e)
by_letter c ds t false true p q e = subst (λ x. IsTypeWord (x ∷ ds) t) (sym (eqb-true c 115 q)) (signed_is ds (width_of ds) t refl e)
by_letter c ds t false false p q e = absurd (cc (e))

type_is : (bytes : List ℕ) (t : Ty) → type_of_word bytes ≡ Some t → IsTypeWord bytes t
type_is [] t e = absurd (cc (e))
type_is (c ∷ ds) t e = by_letter c ds t (nat_eq c 117) (nat_eq c 115) refl refl e

typed_word : (k : Option Keyword) (o : Option Ty) (t : Ty) → word_terminal k o ≡ Type' t → o ≡ Some t
typed_word (Some k) o t e = absurd (cc (e))
typed_word None (Some u) t e = let same : u ≡ t = cc in ap (λ x. Some x) same
typed_word None None t e = absurd (cc (e))

pub type_word_is : (bytes : List ℕ) (t : Ty) → terminal_of_word bytes ≡ Type' t → IsTypeWord bytes t
type_word_is bytes t e = type_is bytes t (typed_word (keyword_of bytes) (type_of_word bytes) t e)
