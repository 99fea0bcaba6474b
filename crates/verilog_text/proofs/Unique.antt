-- A text has one reading.
use Rattle.std.proofs.Common.{◌≡◌, List, [], ◌∷◌, ℕ, drop, refl, sym, subst, Ok, Err, ap, ◌∙◌, true, Option, Some}
use Rattle.verilog_text.specs.declared.token.Token.{Token}
use Rattle.verilog_text.specs.declared.token.TokenKind.{TokenKind}
use Rattle.verilog_text.specs.declared.token.LexKind.{LexKind}
use Rattle.verilog_text.specs.declared.token.LexFault.{LexFault}
use Rattle.verilog_text.specs.Bytes.{is_white}
use Rattle.verilog_text.specs.Lexis.{Gap, none, white, line, block, behind_block, Solid, Lexes, finish, next, Refused, here, later, lexeme, Lexeme}

not_white : (b : ℕ) (text : List ℕ) → Solid (b ∷ text) → is_white b ≡ true → ⊥
not_white b [] s w = cc
not_white b (c ∷ text) s w = let h = s.0 in cc

not_line : (text : List ℕ) → Solid (47 ∷ 47 ∷ text) → ⊥
not_line text s = s.1 refl refl

not_block : (text behind : List ℕ) → Solid (47 ∷ 42 ∷ text) → behind_block text ≡ Some behind → ⊥
not_block text behind s e = let h = s.2 refl refl in cc (h, e)

one_behind : (a b : List ℕ) (o : Option (List ℕ)) → o ≡ Some a → o ≡ Some b → a ≡ b
one_behind a b o p q = cc (p, q)

-- white space and comments end where they must
pub one_gap : {text r : List ℕ} → Gap text r → Solid r → (r' : List ℕ) → Gap text r' → Solid r' → r ≡ r'
one_gap none s r' none s' = refl
one_gap none s r' (white {b = b} {text = x} w g) s' = absurd (not_white b x s w)
one_gap none s r' (line {text = x} g) s' = absurd (not_line x s)
one_gap none s r' (block {text = x} {behind = y} e g) s' = absurd (not_block x y s e)
one_gap (white {b = b} {text = x} w g) s r' none s' = absurd (not_white b x s' w)
one_gap (white w g) s r' (white w' g') s' = one_gap g s r' g' s'
one_gap (white w g) s r' (line g') s' = absurd (cc)
one_gap (white w g) s r' (block e g') s' = absurd (cc)
one_gap (line {text = x} g) s r' none s' = absurd (not_line x s')
one_gap (line g) s r' (white w g') s' = absurd (cc)
one_gap (line g) s r' (line g') s' = one_gap g s r' g' s'
one_gap (block {text = x} {behind = y} e g) s r' none s' = absurd (not_block x y s' e)
one_gap (block e g) s r' (white w g') s' = absurd (cc)
one_gap (block {text = x} {behind = y} {rest = r} e g) s r' (block {behind = y'} e' g') s' =
    one_gap (subst (λ z. Gap z r) (one_behind y y' (behind_block x) e e') g) s r' g' s'

same_first : (a b : ℕ) (x y : List ℕ) → a ∷ x ≡ b ∷ y → a ≡ b
same_first a b x y h = cc

same_rest : (a b : ℕ) (x y : List ℕ) → a ∷ x ≡ b ∷ y → x ≡ y
same_rest a b x y h = cc

-- the lexeme, or another one
abbrev found_or : TokenKind × ℕ → Lexeme → TokenKind × ℕ
found_or d (Ok p) = p
found_or d (Err e) = d

pub one_lexeme : (a a' n n' : ℕ) (x x' : List ℕ) (y y' : TokenKind) → lexeme a x ≡ Ok (y, n) → lexeme a' x' ≡ Ok (y', n') → a ∷ x ≡ a' ∷ x' → (y ≡ y') × (n ≡ n')
one_lexeme a a' n n' x x' y y' k k' e =
    let same : lexeme a x ≡ lexeme a' x' = ap (λ z. lexeme z x) (same_first a a' x x' e) ∙ ap (λ z. lexeme a' z) (same_rest a a' x x' e) in
    let both = ap (λ l. found_or (y, n) l) (sym k ∙ same ∙ k') in
    (ap (λ p. p.0) both, ap (λ p. p.1) both)

-- the tokens of a text are determined
pub one_lexing : {total : ℕ} {text : List ℕ} {ts : List Token} → Lexes total text ts → (ts' : List Token) → Lexes total text ts' → ts ≡ ts'
one_lexing (finish g) ts' (finish g') = refl
one_lexing (finish g) ts' (next {bs = x} {a = a} g' s k l) = let e = one_gap g tt (a ∷ x) g' s in absurd (cc)
one_lexing (next {bs = x} {a = a} g s k l) ts' (finish g') = let e = one_gap g s [] g' tt in absurd (cc)
one_lexing {total = total} (next {bs = x} {a = a} {n = n} {kind = y} {tokens = more} g s k l) ts' (next {bs = x'} {a = a'} {n = n'} {kind = y'} {tokens = more'} g' s' k' l') =
    let e = one_gap g s (a' ∷ x') g' s' in
    let both = one_lexeme a a' n n' x x' y y' k k' e in
    let left : drop n' (a' ∷ x') ≡ drop n (a ∷ x) = ap (λ z. drop n' z) (sym e) ∙ ap (λ z. drop z (a ∷ x)) (sym both.1) in
    let rest = one_lexing l more' (subst (λ z. Lexes total z more') left l') in
    cc (e, both.0, both.1, rest)

-- a text with a fault has no tokens
pub no_tokens : {total : ℕ} {text : List ℕ} {f : LexFault} → Refused total text f → (ts : List Token) → Lexes total text ts → ⊥
no_tokens (here {bs = x} {a = a} g s k) ts (finish g') = let e = one_gap g s [] g' tt in cc
no_tokens (here {bs = x} {a = a} {n = n} {kind = y} g s k) ts (next {bs = x'} {a = a'} {n = n'} {kind = y'} g' s' k' l) =
    let e = one_gap g s (a' ∷ x') g' s' in cc
no_tokens (later {bs = x} {a = a} g s k r) ts (finish g') = let e = one_gap g s [] g' tt in cc
no_tokens {total = total} (later {bs = x} {a = a} {n = n} {kind = y} g s k r) ts (next {bs = x'} {a = a'} {n = n'} {kind = y'} {tokens = more} g' s' k' l) =
    let e = one_gap g s (a' ∷ x') g' s' in
    let both = one_lexeme a a' n n' x x' y y' k k' e in
    let left : drop n' (a' ∷ x') ≡ drop n (a ∷ x) = ap (λ z. drop n' z) (sym e) ∙ ap (λ z. drop z (a ∷ x)) (sym both.1) in
    no_tokens r more (subst (λ z. Lexes total z more) left l)

-- the fault, or another one
abbrev fault_or : LexKind × ℕ → Lexeme → LexKind × ℕ
fault_or d (Ok p) = d
fault_or d (Err e) = e

one_fault_here : (a a' n n' : ℕ) (x x' : List ℕ) (y y' : LexKind) → lexeme a x ≡ Err (y, n) → lexeme a' x' ≡ Err (y', n') → a ∷ x ≡ a' ∷ x' → (y ≡ y') × (n ≡ n')
one_fault_here a a' n n' x x' y y' k k' e =
    let same : lexeme a x ≡ lexeme a' x' = ap (λ z. lexeme z x) (same_first a a' x x' e) ∙ ap (λ z. lexeme a' z) (same_rest a a' x x' e) in
    let both = ap (λ l. fault_or (y, n) l) (sym k ∙ same ∙ k') in
    (ap (λ p. p.0) both, ap (λ p. p.1) both)

not_both_here : (a a' : ℕ) (x x' : List ℕ) (p : TokenKind × ℕ) (q : LexKind × ℕ) → lexeme a x ≡ Ok p → lexeme a' x' ≡ Err q → a ∷ x ≡ a' ∷ x' → ⊥
not_both_here a a' x x' p q k k' e =
    let same : lexeme a x ≡ lexeme a' x' = ap (λ z. lexeme z x) (same_first a a' x x' e) ∙ ap (λ z. lexeme a' z) (same_rest a a' x x' e) in
    let both : Ok p ≡ Err q = sym k ∙ same ∙ k' in
    cc

-- the first fault of a text is determined
pub one_refused : {total : ℕ} {text : List ℕ} {f : LexFault} → Refused total text f → (g : LexFault) → Refused total text g → f ≡ g
one_refused (here {bs = x} {a = a} {n = n} {kind = y} g s k) f' (here {bs = x'} {a = a'} {n = n'} {kind = y'} g' s' k') =
    let e = one_gap g s (a' ∷ x') g' s' in
    let both = one_fault_here a a' n n' x x' y y' k k' e in
    cc (e, both.0, both.1)
one_refused (here {bs = x} {a = a} {n = n} {kind = y} g s k) f' (later {bs = x'} {a = a'} {n = n'} {kind = y'} g' s' k' r') =
    let e = one_gap g s (a' ∷ x') g' s' in absurd (not_both_here a' a x' x (y', n') (y, n) k' k (sym e))
one_refused (later {bs = x} {a = a} {n = n} {kind = y} g s k r) f' (here {bs = x'} {a = a'} {n = n'} {kind = y'} g' s' k') =
    let e = one_gap g s (a' ∷ x') g' s' in absurd (not_both_here a a' x x' (y, n) (y', n') k k' e)
one_refused {total = total} (later {bs = x} {a = a} {n = n} {kind = y} g s k r) f' (later {bs = x'} {a = a'} {n = n'} {kind = y'} g' s' k' r') =
    let e = one_gap g s (a' ∷ x') g' s' in
    let both = one_lexeme a a' n n' x x' y y' k k' e in
    let left : drop n' (a' ∷ x') ≡ drop n (a ∷ x) = ap (λ z. drop n' z) (sym e) ∙ ap (λ z. drop z (a ∷ x)) (sym both.1) in
    one_refused r f' (subst (λ z. Refused total z f') left r')
