-- What a lexeme is, in the bytes that write it.
use Rattle.std.proofs.Common.{◌≡◌, ◌≢◌, ◌≤◌, ◌<◌, ◌+◌, ◌-◌, ◌*◌, List, [], ◌∷◌, ℕ, suc, length, take, arith, refl, sym, subst, ap, true, false, Bool, Option, Some, None, Ok, Err, if◌then◌else◌, cond, nat_eq, nat_lt, ◌&&◌, length-take}
use Rattle.std.specs.List.{AllPass, AllByRecursion, Contains, find, list_all, prefix_len, starts_with}
use Rattle.std.specs.Cmp.Lexicographic.{same_text}
use Rattle.std.specs.Str.Parse.{digits_value, digits_value_after}
use Rattle.std.specs.Char.{digit_value}
use Rattle.std.proofs.lemmas.List.Elements.{All-cons, All-nil, recursion_from_All}
use Rattle.std.proofs.lemmas.List.Sums.{prefix_len-le-length}
use Rattle.dk_lexer.specs.declared.token.TokenKind.{TokenKind}
use Rattle.dk_lexer.specs.declared.token.TokenKind.TheVariants.{Symbol as Sym, End}
use Rattle.dk_lexer.specs.declared.token.Symbol.{Symbol}
use Rattle.dk_base.specs.Ascii.{is_letter, is_digit, is_word_byte, value_after, value_of}
use Rattle.dk_lexer.specs.Bytes.{symbols}
use Rattle.dk_lexer.specs.Lexis.{Lexeme, lexeme, symbol_of, symbol_here, word_here, number_here}
use Rattle.dk_lexer.specs.Faithful.{IsWord, Writes}

-- the first bytes that pass a test
run_step : (p : ℕ → Bool) (b : ℕ) (bs : List ℕ) (passes : Bool) → p b ≡ passes → AllPass p (take (prefix_len p bs) bs) → AllPass p (take (prefix_len p (b ∷ bs)) (b ∷ bs))
run_step p b bs true e h = let more : 1 + prefix_len p bs ≡ suc (prefix_len p bs) = omega arith in rw e (rw more (All-cons (λ x. p x ≡ true) b (take (prefix_len p bs) bs) e h))
run_step p b bs false e h = rw e (All-nil (λ x. p x ≡ true))

pub run : (p : ℕ → Bool) (bs : List ℕ) → AllPass p (take (prefix_len p bs) bs)
run p [] = All-nil (λ x. p x ≡ true)
run p (b ∷ bs) = run_step p b bs (p b) refl (run p bs)

-- one byte of the run, and the rest of it
run_front : (p : ℕ → Bool) (b : ℕ) (bs : List ℕ) → p b ≡ true → take (prefix_len p (b ∷ bs)) (b ∷ bs) ≡ b ∷ take (prefix_len p bs) bs
run_front p b bs e = let more : 1 + prefix_len p bs ≡ suc (prefix_len p bs) = omega arith in rw e (rw more refl)

run_some : (p : ℕ → Bool) (b : ℕ) (bs : List ℕ) → p b ≡ true → 0 < prefix_len p (b ∷ bs)
run_some p b bs e = rw e (omega arith)

digit_is : (d : ℕ) → is_digit d ≡ true → digit_value d ≡ d - 48
digit_is d h = grind arith

-- the value of digits in two words
value_step : (v d : ℕ) → v * 10 + (d - 48) ≡ 10 * v + (d - 48)
value_step v d = omega arith

same_value : (v : ℕ) (ds : List ℕ) → AllByRecursion (λ d. is_digit d ≡ true) ds → digits_value_after 10 v ds ≡ value_after v ds
same_value v [] h = refl
same_value v (d ∷ ds) h =
    let e : v * 10 + digit_value d ≡ 10 * v + (d - 48) = rw (digit_is d h.0) (value_step v d) in
    rw e (same_value (10 * v + (d - 48)) ds h.1)

-- the bytes write the kind, and are bytes of the text
pub record Found (bytes : List ℕ) (found : TokenKind × ℕ) : Type 0 where
  pub writes : Writes (take found.1 bytes) found.0
  pub some : 0 < found.1
  pub within : found.1 ≤ length bytes
  pub inner : found.0 ≢ End

refused_or : {X E : Type 0} (b : Bool) (e : E) (x y : X) → (if b then Err e else Ok x) ≡ Ok y → x ≡ y
refused_or true e x y h = absurd (cc)
refused_or false e x y h = cc

found_unless : {X E : Type 0} (b : Bool) (e : E) (x y : X) → (if b then Ok x else Err e) ≡ Ok y → x ≡ y
found_unless true e x y h = cc
found_unless false e x y h = absurd (cc)

same_ok : (x y : TokenKind × ℕ) → ◌≡◌ {A = Lexeme} (Ok x) (Ok y) → x ≡ y
same_ok x y h = cc

found_word : (a : ℕ) (bs : List ℕ) (found : TokenKind × ℕ) → is_letter a ≡ true → word_here (a ∷ bs) ≡ Ok found → Found (a ∷ bs) found
found_word a bs found l h =
    let n = prefix_len is_word_byte (a ∷ bs) in
    let inside : is_word_byte a ≡ true = rw l refl in
    let word : IsWord (take n (a ∷ bs)) = rw (run_front is_word_byte a bs inside) (l, run is_word_byte bs) in
    subst (λ x. Found (a ∷ bs) x) (refused_or _ _ _ _ h)
    (record { writes = (refl, word); some = run_some is_word_byte a bs inside; within = prefix_len-le-length is_word_byte (a ∷ bs); inner = λ e. cc })

found_number : (a : ℕ) (bs : List ℕ) (found : TokenKind × ℕ) → is_digit a ≡ true → number_here (a ∷ bs) ≡ Ok found → Found (a ∷ bs) found
found_number a bs found d h =
    let digits = run is_digit (a ∷ bs) in
    let some : take (prefix_len is_digit (a ∷ bs)) (a ∷ bs) ≢ [] = rw (run_front is_digit a bs d) (λ e. cc) in
    let value : digits_value 10 (take (prefix_len is_digit (a ∷ bs)) (a ∷ bs)) ≡ value_of (take (prefix_len is_digit (a ∷ bs)) (a ∷ bs)) = same_value 0 _ (recursion_from_All _ _ digits) in
    subst (λ x. Found (a ∷ bs) x) (found_unless _ _ _ _ h)
    (record { writes = ((some, digits), value); some = run_some is_digit a bs d; within = prefix_len-le-length is_digit (a ∷ bs); inner = λ e. cc })

-- what the first row that passes is, where each row keeps a test
pub record IsFirst {X : Type 0} (p q : X → Bool) (xs : List X) (x : X) : Type 0 where
  pub among : Contains xs x
  pub passes : p x ≡ true
  pub keeps : q x ≡ true

first_here : {X : Type 0} (p q : X → Bool) (x y : X) (xs : List X) → p x ≡ true → q x ≡ true → x ≡ y → IsFirst p q (x ∷ xs) y
first_here p q x y xs t k e = subst (λ z. IsFirst p q (x ∷ xs) z) e (record { among = (0, omega arith, refl); passes = t; keeps = k })

first_behind : {X : Type 0} (p q : X → Bool) (x y : X) (xs : List X) → IsFirst p q xs y → IsFirst p q (x ∷ xs) y
first_behind p q x y xs f = let c = f.among in record { among = (suc c.0, omega (arith, c.1), c.2); passes = f.passes; keeps = f.keeps }

and_first : (a b : Bool) → (a && b) ≡ true → a ≡ true
and_first true b h = refl
and_first false b h = absurd (cc)

and_second : (a b : Bool) → (a && b) ≡ true → b ≡ true
and_second true b h = h
and_second false b h = absurd (cc)

some_same : {X : Type 0} (x y : X) → Some x ≡ Some y → x ≡ y
some_same x y h = cc

first_step : {X : Type 0} (p q : X → Bool) (x y : X) (xs : List X) (passes : Bool) → p x ≡ passes → q x ≡ true → (find p xs ≡ Some y → IsFirst p q xs y)
    → cond passes (Some x) (find p xs) ≡ Some y → IsFirst p q (x ∷ xs) y
first_step p q x y xs true t k more e = first_here p q x y xs t k (some_same x y e)
first_step p q x y xs false t k more e = first_behind p q x y xs (more e)

first_is : {X : Type 0} (p q : X → Bool) (y : X) (xs : List X) → list_all q xs ≡ true → find p xs ≡ Some y → IsFirst p q xs y
first_is p q y [] k e = absurd (cc)
first_is p q y (x ∷ xs) k e = first_step p q x y xs (p x) refl (and_first _ _ k) (first_is p q y xs (and_second _ _ k)) e

-- a row of the table of symbols
abbrev begins : List ℕ → (List ℕ × Symbol) → Bool
begins bytes row = starts_with nat_eq bytes row.0

abbrev has_bytes : (List ℕ × Symbol) → Bool
has_bytes row = nat_lt 0 (length row.0)

some_bytes : (n : ℕ) → nat_lt 0 n ≡ true → 0 < n
some_bytes n h = grind arith

front_length : (n : ℕ) (bytes spelling : List ℕ) → take n bytes ≡ spelling → n ≡ length spelling → n ≤ length bytes
front_length n bytes spelling e l = omega (arith, l, ap (λ x. length x) e, length-take n bytes)

found_row : (bytes spelling : List ℕ) (s : Symbol) → IsFirst (begins bytes) has_bytes symbols (spelling, s) → Found bytes (Sym s, length spelling)
found_row bytes spelling s f =
    let front : take (length spelling) bytes ≡ spelling = sym (same_text spelling (take (length spelling) bytes) (sym f.passes)) in
    record { writes = subst (λ x. Contains symbols (x, s)) (sym front) f.among; some = some_bytes _ f.keeps; within = front_length _ bytes spelling front refl; inner = λ e. cc }

found_first : (bytes : List ℕ) (row : Option (List ℕ × Symbol)) (found : TokenKind × ℕ) → find (begins bytes) symbols ≡ row → symbol_of row ≡ Ok found → Found bytes found
found_first bytes None found e h = absurd (cc)
found_first bytes (Some (spelling, s)) found e h = subst (λ x. Found bytes x) (same_ok _ _ h) (found_row bytes spelling s (first_is (begins bytes) has_bytes (spelling, s) symbols refl e))

found_symbol : (bytes : List ℕ) (found : TokenKind × ℕ) → symbol_here bytes ≡ Ok found → Found bytes found
found_symbol bytes found h = found_first bytes (find (begins bytes) symbols) found refl h

found_digit : (a : ℕ) (bs : List ℕ) (digit : Bool) (found : TokenKind × ℕ) → is_digit a ≡ digit → (if digit then number_here (a ∷ bs) else symbol_here (a ∷ bs)) ≡ Ok found → Found (a ∷ bs) found
found_digit a bs true found e h = found_number a bs found e h
found_digit a bs false found e h = found_symbol (a ∷ bs) found h

found_letter : (a : ℕ) (bs : List ℕ) (letter : Bool) (found : TokenKind × ℕ) → is_letter a ≡ letter
    → (if letter then word_here (a ∷ bs) else (if is_digit a then number_here (a ∷ bs) else symbol_here (a ∷ bs))) ≡ Ok found → Found (a ∷ bs) found
found_letter a bs true found e h = found_word a bs found e h
found_letter a bs false found e h = found_digit a bs (is_digit a) found refl h

pub found : (a : ℕ) (bs : List ℕ) (it : TokenKind × ℕ) → lexeme a bs ≡ Ok it → Found (a ∷ bs) it
unfolding lexeme
found a bs it h = found_letter a bs (is_letter a) it refl h
