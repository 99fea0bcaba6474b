-- A token that is a name is at a name.
use Rattle.std.proofs.Common.{◌≡◌, ◌≢◌, ◌++◌, ◌+◌, ◌-◌, ◌≤◌, ◌^◌, ℕ, suc, codes, List, [], ◌∷◌, length, take, drop, Option, Some, None, Ok, Err, Bool, true, false, ◌&&◌, not, nat_lt, nat_le, nat_eq, map, refl, sym, ap, ◌∙◌, subst, arith, inl, inr, append_assoc}
use Rattle.std.specs.List.{prefix_len, find, starts_with}
use Rattle.std.proofs.lemmas.Bool.{cases_Bool}
use Rattle.std.proofs.lemmas.List.{length-append}
use Rattle.std.proofs.lemmas.List.Sums.{prefix_len-le-length}
use Rattle.std.proofs.lemmas.List.Folds.{length-prefix_len}
use Rattle.std.proofs.Math.Seq.{drop-append_seam}
use Rattle.std.proofs.Common.{take-append-drop}
use Rattle.net_names.specs.Words.{is_letter, is_digit, is_word_byte, is_word, is_among, is_structure_word, is_refused_word, is_name}
use Rattle.std.specs.Str.{bytes_eq}
use Rattle.wiring.specs.Sizes.{SizedNumber}
use Rattle.dk_base.specs.declared.span.Span.{Span}
use Rattle.verilog_text.specs.declared.token.Token.{Token}
use Rattle.verilog_text.specs.declared.token.Keyword.{Keyword}
use Rattle.verilog_text.specs.declared.token.Symbol.{Symbol}
use Rattle.verilog_text.specs.declared.token.TokenKind.{TokenKind}
use Rattle.verilog_text.specs.declared.token.TokenKind.TheVariants as kind
use Rattle.verilog_text.specs.Bytes.{is_in_line, is_in_number, is_in_constant, value_of, constant_of, symbols, keywords, keyword_or, refused_or_name, word_kind}
use Rattle.verilog_text.specs.Lexis.{Gap, none, white, line, block, behind_block, Lexes, finish, next, Lexeme, lexeme, plain_of, sized_of, number_at, number_here, word_here, is_tick_first, symbol_of, symbol_here, span_at}
use Rattle.verilog_text.specs.Grammar.{named}
use Rattle.verilog_parse.specs.Named.{IsNameSpan}

-- where a token is a name, its span is one
abbrev pub IsNamedToken : List ℕ → Token → Type 0
IsNamedToken text t = (n : Span) → named t.kind t.span ≡ Some n → IsNameSpan text n

abbrev pub AllNamed : List ℕ → List Token → Type 0
AllNamed text [] = Unit {0}
AllNamed text (t ∷ ts) = IsNamedToken text t × AllNamed text ts

-- what comes before the rest
behind_front : (text behind : List ℕ) → behind_block text ≡ Some behind → (q : List ℕ) × (text ≡ q ++ behind)
behind_front [] behind e = absurd (cc)
behind_front (a ∷ []) behind e = absurd (cc)
behind_front (a ∷ b ∷ bs) behind e = elim (cases_Bool (nat_eq a 42 && nat_eq b 47)) as (λ _. (q : List ℕ) × (a ∷ b ∷ bs ≡ q ++ behind)) [
  | inl t ↦
      let found : behind_block (a ∷ b ∷ bs) ≡ Some bs = rw t refl in
      let same : bs ≡ behind = cc (e, found) in
      (a ∷ b ∷ [], ap (λ x. a ∷ b ∷ x) same)
  | inr f ↦
      let later : behind_block (a ∷ b ∷ bs) ≡ behind_block (b ∷ bs) = rw f refl in
      let i = behind_front (b ∷ bs) behind (sym later ∙ e) in
      (a ∷ i.0, ap (λ x. a ∷ x) i.1)
]

gap_front : {text rest : List ℕ} → Gap text rest → (q : List ℕ) × (text ≡ q ++ rest)
gap_front none = ([], refl)
gap_front (white {b = b} w g) = let i = gap_front g in (b ∷ i.0, ap (λ x. b ∷ x) i.1)
gap_front (line {text = t} {rest = r} g) =
    let i = gap_front g in
    let k = prefix_len is_in_line t in
    (47 ∷ 47 ∷ (take k t ++ i.0), ap (λ x. 47 ∷ 47 ∷ x) (sym (take-append-drop k t) ∙ ap (λ x. take k t ++ x) i.1 ∙ sym (append_assoc (take k t) i.0 r)))
gap_front (block {text = t} {behind = y} {rest = r} e g) =
    let a = behind_front t y e in
    let i = gap_front g in
    (47 ∷ 42 ∷ (a.0 ++ i.0), ap (λ x. 47 ∷ 42 ∷ x) (a.1 ∙ ap (λ x. a.0 ++ x) i.1 ∙ sym (append_assoc a.0 i.0 r)))

-- a run is a run as a whole
run_full : (f : ℕ → Bool) (xs : List ℕ) → prefix_len f (take (prefix_len f xs) xs) ≡ length (take (prefix_len f xs) xs)
run_full f [] = refl
run_full f (x ∷ xs) = elim (cases_Bool (f x)) as (λ _. prefix_len f (take (prefix_len f (x ∷ xs)) (x ∷ xs)) ≡ length (take (prefix_len f (x ∷ xs)) (x ∷ xs))) [
  | inl t ↦
      let count : prefix_len f (x ∷ xs) ≡ suc (prefix_len f xs) = rw t (omega arith) in
      let more : prefix_len f (x ∷ take (prefix_len f xs) xs) ≡ suc (prefix_len f (take (prefix_len f xs) xs)) = rw t (omega arith) in
      let i = run_full f xs in
      let whole : prefix_len f (x ∷ take (prefix_len f xs) xs) ≡ length (x ∷ take (prefix_len f xs) xs) = omega (arith, more, i) in
      subst (λ n. prefix_len f (take n (x ∷ xs)) ≡ length (take n (x ∷ xs))) (sym count) whole
  | inr g ↦
      let count : prefix_len f (x ∷ xs) ≡ 0 = rw g refl in
      subst (λ n. prefix_len f (take n (x ∷ xs)) ≡ length (take n (x ∷ xs))) (sym count) refl
]

letter_in : (b : ℕ) → is_letter b ≡ true → is_word_byte b ≡ true
letter_in b h = grind arith

same_number : (a b : ℕ) → a ≡ b → nat_eq a b ≡ true
same_number a b e = grind arith

word_run : (a : ℕ) (bs : List ℕ) → is_letter a ≡ true → is_word (take (prefix_len is_word_byte (a ∷ bs)) (a ∷ bs)) ≡ true
word_run a bs h =
    let i : is_word_byte a ≡ true = letter_in a h in
    let count : prefix_len is_word_byte (a ∷ bs) ≡ suc (prefix_len is_word_byte bs) = rw i (omega arith) in
    let full = same_number (prefix_len is_word_byte (take (prefix_len is_word_byte bs) bs)) (length (take (prefix_len is_word_byte bs) bs)) (run_full is_word_byte bs) in
    let whole : is_word (a ∷ take (prefix_len is_word_byte bs) bs) ≡ true = rw (h, full) refl in
    subst (λ n. is_word (take n (a ∷ bs)) ≡ true) (sym count) whole

-- a word that is a name is none of the words that are none
keyword_no : (x : List ℕ) (ws : List (List ℕ × Keyword)) (other k : TokenKind) → keyword_or x ws other ≡ k → ((w : Keyword) → k ≢ kind.Keyword w) → (is_among x (map (λ w. w.0) ws) ≡ false) × (other ≡ k)
keyword_no x [] other k e h = (refl, e)
keyword_no x (w ∷ ws) other k e h = elim (cases_Bool (bytes_eq x w.0)) as (λ _. (is_among x (map (λ w. w.0) (w ∷ ws)) ≡ false) × (other ≡ k)) [
  | inl t ↦
      let found : keyword_or x (w ∷ ws) other ≡ kind.Keyword w.1 = rw t refl in
      absurd (h w.1 (sym e ∙ found))
  | inr f ↦
      let later : keyword_or x (w ∷ ws) other ≡ keyword_or x ws other = rw f refl in
      let i = keyword_no x ws other k (sym later ∙ e) h in
      let none : is_among x (map (λ w. w.0) (w ∷ ws)) ≡ is_among x (map (λ w. w.0) ws) = rw f refl in
      (none ∙ i.0, i.1)
]

refused_no : (x : List ℕ) (k : TokenKind) → refused_or_name x ≡ k → k ≢ kind.Refused → is_refused_word x ≡ false
refused_no x k e h = elim (cases_Bool (is_refused_word x)) as (λ _. is_refused_word x ≡ false) [
  | inl t ↦
      let found : refused_or_name x ≡ kind.Refused = rw t refl in
      absurd (h (sym e ∙ found))
  | inr f ↦ f
]

no_keyword : (k : TokenKind) (s m : Span) → named k s ≡ Some m → (w : Keyword) → k ≢ kind.Keyword w
no_keyword k s m e w h = let f : named (kind.Keyword w) s ≡ Some m = subst (λ x. named x s ≡ Some m) h e in cc

no_refused : (k : TokenKind) (s m : Span) → named k s ≡ Some m → k ≢ kind.Refused
no_refused k s m e h = let f : named kind.Refused s ≡ Some m = subst (λ x. named x s ≡ Some m) h e in cc

short : (n : ℕ) → nat_lt 64 n ≡ false → nat_le n 64 ≡ true
short n h = grind arith

is_all : (a b c d : Bool) → a ≡ true → b ≡ true → c ≡ false → d ≡ false → ((a && b) && not c && not d) ≡ true
is_all a b c d p q r t = rw (p, q, r, t) refl

name_here : (x : List ℕ) (s m : Span) → is_word x ≡ true → nat_le (length x) 64 ≡ true → named (word_kind x) s ≡ Some m → is_name x ≡ true
name_here x s m w l e =
    let a = keyword_no x keywords (refused_or_name x) (word_kind x) refl (no_keyword (word_kind x) s m e) in
    let structure : is_structure_word x ≡ false = a.0 in
    let refused : is_refused_word x ≡ false = refused_no x (word_kind x) a.1 (no_refused (word_kind x) s m e) in
    is_all (is_word x) (nat_le (length x) 64) (is_structure_word x) (is_refused_word x) w l structure refused

-- what a lexeme that is a name is
abbrev IsFine : List ℕ → Lexeme → Type 0
IsFine bytes (Ok x) = (s m : Span) → named x.0 s ≡ Some m → (is_name (take x.1 bytes) ≡ true) × (x.1 ≤ length bytes)
IsFine bytes (Err e) = Unit {0}

word_fine : (a : ℕ) (bs : List ℕ) → is_letter a ≡ true → IsFine (a ∷ bs) (word_here (a ∷ bs))
word_fine a bs h = elim (cases_Bool (nat_lt 64 (prefix_len is_word_byte (a ∷ bs)))) as (λ _. IsFine (a ∷ bs) (word_here (a ∷ bs))) [
  | inl t ↦ rw t tt
  | inr f ↦ rw f (λ s m e.
      let long : nat_le (length (take (prefix_len is_word_byte (a ∷ bs)) (a ∷ bs))) 64 ≡ true = ap (λ n. nat_le n 64) (length-prefix_len is_word_byte (a ∷ bs)) ∙ short (prefix_len is_word_byte (a ∷ bs)) f in
      (name_here (take (prefix_len is_word_byte (a ∷ bs)) (a ∷ bs)) s m (word_run a bs h) long e, prefix_len-le-length is_word_byte (a ∷ bs)))
]

plain_fine : (bytes : List ℕ) (v n : ℕ) → IsFine bytes (plain_of v n)
plain_fine bytes v n = elim (cases_Bool (nat_lt v (2 ^ 64))) as (λ _. IsFine bytes (plain_of v n)) [
  | inl t ↦ rw t (λ s m e. absurd (cc))
  | inr f ↦ rw f tt
]

sized_fine : (bytes : List ℕ) (o : Option SizedNumber) (n : ℕ) → IsFine bytes (sized_of o n)
sized_fine bytes None n = tt
sized_fine bytes (Some c) n = λ s m e. absurd (cc)

number_fine : (w bytes : List ℕ) (n m : ℕ) → IsFine w (number_at bytes n m)
number_fine w bytes n m = elim (cases_Bool (is_tick_first (drop n bytes))) as (λ _. IsFine w (number_at bytes n m)) [
  | inl t ↦ rw t (sized_fine w (constant_of (take m bytes)) m)
  | inr f ↦ rw f (plain_fine w (value_of 10 (take n bytes)) n)
]

row_fine : (w : List ℕ) (row : Option (List ℕ × Symbol)) → IsFine w (symbol_of row)
row_fine w None = tt
row_fine w (Some row) = λ s' m e. absurd (cc)

symbol_fine : (w bytes : List ℕ) → IsFine w (symbol_here bytes)
symbol_fine w bytes = elim (cases_Bool (starts_with nat_eq bytes (codes "/*"))) as (λ _. IsFine w (symbol_here bytes)) [
  | inl t ↦ rw t tt
  | inr f ↦ rw f (row_fine w (find (λ row. starts_with nat_eq bytes row.0) symbols))
]

lexeme_fine : (a : ℕ) (bs : List ℕ) → IsFine (a ∷ bs) (lexeme a bs)
unfolding lexeme
lexeme_fine a bs = elim (cases_Bool (is_letter a)) as (λ _. IsFine (a ∷ bs) (lexeme a bs)) [
  | inl t ↦
      let e : lexeme a bs ≡ word_here (a ∷ bs) = rw t refl in
      subst (IsFine (a ∷ bs)) (sym e) (word_fine a bs t)
  | inr f ↦ elim (cases_Bool (is_digit a)) as (λ _. IsFine (a ∷ bs) (lexeme a bs)) [
    | inl t ↦
        let e : lexeme a bs ≡ number_here (a ∷ bs) = rw (f, t) refl in
        subst (IsFine (a ∷ bs)) (sym e) (number_fine (a ∷ bs) (a ∷ bs) (prefix_len is_in_number (a ∷ bs)) (prefix_len is_in_constant (a ∷ bs)))
    | inr g ↦
        let e : lexeme a bs ≡ symbol_here (a ∷ bs) = rw (f, g) refl in
        subst (IsFine (a ∷ bs)) (sym e) (symbol_fine (a ∷ bs) (a ∷ bs))
  ]
]

-- the bytes of a token
bytes_here : (p w : List ℕ) (start n : ℕ) → start ≡ length p → take (start + n - start) (drop start (p ++ w)) ≡ take n w
bytes_here p w start n e =
    let count : start + n - start ≡ n = omega arith in
    ap (λ k. take k (drop start (p ++ w))) count ∙ ap (λ k. take n (drop k (p ++ w))) e ∙ ap (λ x. take n x) (drop-append_seam p w)

start_of : (p w : List ℕ) → length (p ++ w) - length w ≡ length p
start_of p w = omega (arith, length-append p w)

named_span : (k : TokenKind) (s m : Span) → named k s ≡ Some m → m ≡ s
named_span kind.Name s m e = let f : Some s ≡ Some m = e in cc
named_span kind.Clock s m e = let f : Some s ≡ Some m = e in cc
named_span (kind.Keyword w) s m e = absurd (cc)
named_span kind.Refused s m e = absurd (cc)
named_span (kind.Plain v) s m e = absurd (cc)
named_span (kind.Sized c) s m e = absurd (cc)
named_span (kind.Symbol x) s m e = absurd (cc)
named_span kind.End s m e = absurd (cc)

span_named : (p w : List ℕ) (n : ℕ) → is_name (take n w) ≡ true → n ≤ length w → IsNameSpan (p ++ w) (span_at (length (p ++ w)) w n)
span_named p w n h l = record {
  ordered = omega arith;
  within = omega (arith, l, length-append p w);
  name = ap (λ x. is_name x) (bytes_here p w (length (p ++ w) - length w) n (start_of p w)) ∙ h;
}

token_named : (p : List ℕ) (a n : ℕ) (bs : List ℕ) (k : TokenKind) → lexeme a bs ≡ Ok (k, n) → IsNamedToken (p ++ (a ∷ bs)) (record { span = span_at (length (p ++ (a ∷ bs))) (a ∷ bs) n; kind = k })
token_named p a n bs k l = λ m e.
    let fine = subst (IsFine (a ∷ bs)) l (lexeme_fine a bs) _ m e in
    subst (λ x. IsNameSpan (p ++ (a ∷ bs)) x) (sym (named_span k _ m e)) (span_named p (a ∷ bs) n fine.0 fine.1)

pub tokens_named : {total : ℕ} {text : List ℕ} {ts : List Token} → Lexes total text ts → (whole p : List ℕ) → whole ≡ p ++ text → total ≡ length whole → AllNamed whole ts
tokens_named (finish g) whole p e t = (λ n h. absurd (cc), tt)
tokens_named {total = total} {text = text} (next {bs = bs} {a = a} {n = n} {kind = k} {tokens = more} g s l ls) whole p e t =
    let q = gap_front g in
    let front : whole ≡ (p ++ q.0) ++ (a ∷ bs) = e ∙ ap (λ x. p ++ x) q.1 ∙ sym (append_assoc p q.0 (a ∷ bs)) in
    let first : IsNamedToken whole (record { span = span_at total (a ∷ bs) n; kind = k }) =
    subst (λ x. IsNamedToken whole (record { span = span_at x (a ∷ bs) n; kind = k })) (sym t) (subst (λ x. IsNamedToken x (record { span = span_at (length x) (a ∷ bs) n; kind = k })) (sym front) (token_named (p ++ q.0) a n bs k l)) in
    let rest : whole ≡ ((p ++ q.0) ++ take n (a ∷ bs)) ++ drop n (a ∷ bs) = front ∙ ap (λ x. (p ++ q.0) ++ x) (sym (take-append-drop n (a ∷ bs))) ∙ sym (append_assoc (p ++ q.0) (take n (a ∷ bs)) (drop n (a ∷ bs))) in
    (first, tokens_named ls whole ((p ++ q.0) ++ take n (a ∷ bs)) rest t)
