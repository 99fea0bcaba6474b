-- The word tokens of a text are words of at most 64 bytes.
use Rattle.std.proofs.Common.{◌≡◌, ◌∙◌, ℕ, suc, ◌+◌, ◌≤◌, Bool, true, false, cond, eqb, List, [], ◌∷◌, length, take, Ok, Err, Option, Some, None, refl, sym, ap, subst, arith}
use Rattle.std.specs.Prelude.{◌&&◌, ◌||◌, nat_lt, nat_eq, if◌then◌else◌, ◌^◌}
use Rattle.std.specs.List.{prefix_len, AllByRecursion}
use Rattle.std.proofs.lemmas.Bool.Decides.{nat_tests}
use Rattle.std.proofs.lemmas.List.Folds.{length-prefix_len}
use Rattle.dk_base.specs.declared.TheConstants.{MAX_NAME_BYTES}
use Rattle.dk_lexer.specs.declared.token.Token.{Token}
use Rattle.dk_lexer.specs.declared.token.TokenKind.{TokenKind}
use Rattle.dk_lexer.specs.declared.token.TokenKind.TheVariants.{Word, Number, Symbol as Sym, End}
use Rattle.dk_lexer.specs.declared.token.Symbol.{Symbol}
use Rattle.dk_lexer.specs.declared.fault.LexKind.TheVariants.{NumberTooGreat, NameTooLong}
use Rattle.dk_base.specs.Ascii.{is_letter, is_digit, is_word_byte, value_of}
use Rattle.dk_lexer.specs.Lexis.{Lexeme, lexeme, word_here, number_of, number_here, symbol_of, symbol_here, Lexes, finish, next}
use Rattle.source_words.specs.Words.{is_word}

-- a word token is a word, and not too long
abbrev pub IsSpelled : TokenKind → Type 0
IsSpelled (Word t) = (is_word t ≡ true) × (length t ≤ 64)
IsSpelled (Number v) = Unit {0}
IsSpelled (Sym s) = Unit {0}
IsSpelled End = Unit {0}

abbrev pub AllSpelled : List Token → Type 0
AllSpelled tokens = AllByRecursion (λ t. IsSpelled t.kind) tokens

-- what passes to the end of the longest front passes all through
front_passes : (p : ℕ → Bool) (xs : List ℕ) → prefix_len p (take (prefix_len p xs) xs) ≡ prefix_len p xs
front_passes p [] = refl
front_passes p (x ∷ xs) = by (p x) refl (front_passes p xs)
  where
    by : (b : Bool) → p x ≡ b → prefix_len p (take (prefix_len p xs) xs) ≡ prefix_len p xs → prefix_len p (take (prefix_len p (x ∷ xs)) (x ∷ xs)) ≡ prefix_len p (x ∷ xs)
    by true e h =
        let longer : prefix_len p (x ∷ xs) ≡ suc (prefix_len p xs) = ap (λ b. cond b (1 + prefix_len p xs) 0) e ∙ (let one : 1 + prefix_len p xs ≡ suc (prefix_len p xs) = omega arith in one) in
        ap (λ n. prefix_len p (take n (x ∷ xs))) longer
        ∙ (ap (λ b. cond b (1 + prefix_len p (take (prefix_len p xs) xs)) 0) e
        ∙ (ap (λ n. 1 + n) h ∙ sym (ap (λ b. cond b (1 + prefix_len p xs) 0) e)))
    by false e h =
        let none : prefix_len p (x ∷ xs) ≡ 0 = ap (λ b. cond b (1 + prefix_len p xs) 0) e in
        ap (λ n. prefix_len p (take n (x ∷ xs))) none ∙ sym none

equal : (a b : ℕ) → a ≡ b → eqb a b ≡ true
equal a b e = grind (arith, nat_tests)

-- a letter and the longest run of letters and digits after it are a word
front_word : (a : ℕ) (bs : List ℕ) → is_letter a ≡ true → is_word (take (prefix_len is_word_byte (a ∷ bs)) (a ∷ bs)) ≡ true
front_word a bs letter =
    let m = prefix_len is_word_byte bs in
    let longer : prefix_len is_word_byte (a ∷ bs) ≡ suc m = ap (λ b. cond (b || is_digit a) (1 + m) 0) letter ∙ (let one : 1 + m ≡ suc m = omega arith in one) in
    let whole : nat_eq (prefix_len is_word_byte (take m bs)) (length (take m bs)) ≡ true =
    equal (prefix_len is_word_byte (take m bs)) (length (take m bs)) (front_passes is_word_byte bs ∙ sym (length-prefix_len is_word_byte bs)) in
    ap (λ n. is_word (take n (a ∷ bs))) longer ∙ (ap (λ b. b && nat_eq (prefix_len is_word_byte (take m bs)) (length (take m bs))) letter ∙ whole)

not_long : (n : ℕ) → nat_lt MAX_NAME_BYTES n ≡ false → n ≤ 64
not_long n e = grind (arith, nat_tests)

word_spelled : (bytes : List ℕ) (kind : TokenKind) (n : ℕ) → is_word (take (prefix_len is_word_byte bytes) bytes) ≡ true → word_here bytes ≡ Ok (kind, n) → IsSpelled kind
word_spelled bytes kind n word = by (nat_lt MAX_NAME_BYTES (prefix_len is_word_byte bytes)) refl
  where
    m : ℕ
    m = prefix_len is_word_byte bytes

    by : (b : Bool) → nat_lt MAX_NAME_BYTES (prefix_len is_word_byte bytes) ≡ b
        → (let r : Lexeme = if b then Err (NameTooLong, prefix_len is_word_byte bytes) else Ok (Word (take (prefix_len is_word_byte bytes) bytes), prefix_len is_word_byte bytes) in r) ≡ Ok (kind, n) → IsSpelled kind
    by true e h = absurd (let x : ⊥ = cc in x)
    by false e h =
        let pair : (let q : TokenKind × ℕ = (Word (take (prefix_len is_word_byte bytes) bytes), prefix_len is_word_byte bytes) in q) ≡ (kind, n) = cc in
        subst IsSpelled (ap (λ (q : TokenKind × ℕ). q.0) pair) (word, omega (arith, length-prefix_len is_word_byte bytes, not_long (prefix_len is_word_byte bytes) e))

number_spelled : (v k : ℕ) (kind : TokenKind) (n : ℕ) → number_of v k ≡ Ok (kind, n) → IsSpelled kind
number_spelled v k kind n = by (nat_lt v (2 ^ 64))
  where
    by : (b : Bool) → (let r : Lexeme = if b then Ok (Number v, k) else Err (NumberTooGreat, k) in r) ≡ Ok (kind, n) → IsSpelled kind
    by true h = let pair : (let q : TokenKind × ℕ = (Number v, k) in q) ≡ (kind, n) = cc in subst IsSpelled (ap (λ (q : TokenKind × ℕ). q.0) pair) tt
    by false h = absurd (let x : ⊥ = cc in x)

symbol_spelled : (row : Option (List ℕ × Symbol)) (kind : TokenKind) (n : ℕ) → symbol_of row ≡ Ok (kind, n) → IsSpelled kind
symbol_spelled None kind n h = absurd (let x : ⊥ = cc in x)
symbol_spelled (Some row) kind n h = let pair : (let q : TokenKind × ℕ = (Sym row.1, length row.0) in q) ≡ (kind, n) = cc in subst IsSpelled (ap (λ (q : TokenKind × ℕ). q.0) pair) tt

chosen_spelled : (a : ℕ) (bs : List ℕ) (kind : TokenKind) (n : ℕ) (l d : Bool) → is_letter a ≡ l
    → (if l then word_here (a ∷ bs) else (if d then number_here (a ∷ bs) else symbol_here (a ∷ bs))) ≡ Ok (kind, n) → IsSpelled kind
chosen_spelled a bs kind n true d letter h = word_spelled (a ∷ bs) kind n (front_word a bs letter) h
chosen_spelled a bs kind n false true letter h = number_spelled (value_of (take (prefix_len is_digit (a ∷ bs)) (a ∷ bs))) (prefix_len is_digit (a ∷ bs)) kind n h
chosen_spelled a bs kind n false false letter h = symbol_spelled _ kind n h

lexeme_spelled : (a : ℕ) (bs : List ℕ) (kind : TokenKind) (n : ℕ) → lexeme a bs ≡ Ok (kind, n) → IsSpelled kind
unfolding lexeme
lexeme_spelled a bs kind n h = chosen_spelled a bs kind n (is_letter a) (is_digit a) refl h

pub spelled : {total : ℕ} {text : List ℕ} {tokens : List Token} → Lexes total text tokens → AllSpelled tokens
spelled (finish gap) = (tt, tt)
spelled (next {bs = bs} {a = a} {n = n} {kind = kind} gap solid is more) = (lexeme_spelled a bs kind n is, spelled more)
