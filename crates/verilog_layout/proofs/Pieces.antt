-- A text that is made of clear pieces is read as their tokens.
use Rattle.std.proofs.Common.{◌≡◌, ℕ, ◌+◌, ◌-◌, true, List, [], ◌∷◌, ◌++◌, length, take, drop, Ok, refl, sym, ap, ◌∙◌, subst, arith, append_assoc}
use Rattle.std.proofs.lemmas.List.{length-append}
use Rattle.std.proofs.Math.Seq.{take-append_seam, drop-append_seam}
use Rattle.verilog_text.specs.declared.token.Token.{Token}
use Rattle.verilog_text.specs.declared.token.TokenKind.{TokenKind}
use Rattle.verilog_text.specs.declared.token.TokenKind.TheVariants.{End}
use Rattle.verilog_text.specs.Bytes.{is_white}
use Rattle.verilog_text.specs.Lexis.{Gap, Solid, Lexes, none, white, finish, next, lexeme, span_at}
use Rattle.verilog_text.specs.Stands.{bytes_at}

-- a token, its bytes, and the white space before it
pub record Piece : Type 0 where
  pub gap : List ℕ
  pub own : List ℕ
  pub kind : TokenKind

abbrev pub text_of : List Piece → List ℕ → List ℕ
text_of [] end = end
text_of (p ∷ ps) end = p.gap ++ (p.own ++ text_of ps end)

abbrev pub IsGap : List ℕ → Type 0
IsGap [] = Unit {0}
IsGap (b ∷ bs) = (is_white b ≡ true) × IsGap bs

-- in front of this rest the bytes are read as a token of this kind
pub record IsRead (own : List ℕ) (kind : TokenKind) (rest : List ℕ) : Type 0 where
  pub first : ℕ
  pub others : List ℕ
  pub whole : own ≡ first ∷ others
  pub solid : Solid (first ∷ (others ++ rest))
  pub reads : lexeme first (others ++ rest) ≡ Ok (kind, length (first ∷ others))

-- each piece is read as its token in front of what follows it
abbrev pub AreClear : List Piece → List ℕ → Type 0
AreClear [] end = Unit {0}
AreClear (p ∷ ps) end = IsGap p.gap × IsRead p.own p.kind (text_of ps end) × AreClear ps end

-- tokens of these kinds, with these bytes in the whole text, and the end
pub data Spells (whole : List ℕ) : List Token → List Piece → Type 0 where
  ends : {t : Token} → t.kind ≡ End → Spells whole (t ∷ []) []
  token : {t : Token} {ts : List Token} {p : Piece} {ps : List Piece} → t.kind ≡ p.kind → bytes_at whole t.span ≡ p.own → Spells whole ts ps → Spells whole (t ∷ ts) (p ∷ ps)

start_is : (before left : List ℕ) → length (before ++ left) - length left ≡ length before
start_is before left = omega (arith, length-append before left)

bytes_there : (before own rest : List ℕ) → bytes_at (before ++ (own ++ rest)) (span_at (length (before ++ (own ++ rest))) (own ++ rest) (length own)) ≡ own
bytes_there before own rest =
    let s = start_is before (own ++ rest) in
    let n : (length (before ++ (own ++ rest)) - length (own ++ rest) + length own) - (length (before ++ (own ++ rest)) - length (own ++ rest)) ≡ length own = omega arith in
    ap (λ k. take k (drop (length (before ++ (own ++ rest)) - length (own ++ rest)) (before ++ (own ++ rest)))) n
    ∙ ap (λ k. take (length own) (drop k (before ++ (own ++ rest)))) s
    ∙ ap (λ x. take (length own) x) (drop-append_seam before (own ++ rest))
    ∙ take-append_seam own rest

gap_is : (gap rest : List ℕ) → IsGap gap → Gap (gap ++ rest) rest
gap_is [] rest g = none
gap_is (b ∷ bs) rest g = white g.0 (gap_is bs rest g.1)

-- one token in front of those that follow
record OneMore (before gap own rest : List ℕ) (kind : TokenKind) (tokens : List Token) : Type 0 where
  token : Token
  lexes : Lexes (length (before ++ (gap ++ (own ++ rest)))) (gap ++ (own ++ rest)) (token ∷ tokens)
  is_kind : token.kind ≡ kind
  bytes : bytes_at (before ++ (gap ++ (own ++ rest))) token.span ≡ own

one_more : (before gap rest : List ℕ) (first : ℕ) (others : List ℕ) (kind : TokenKind) (tokens : List Token) → IsGap gap → Solid (first ∷ (others ++ rest))
    → lexeme first (others ++ rest) ≡ Ok (kind, length (first ∷ others)) → Lexes (length (before ++ (gap ++ ((first ∷ others) ++ rest)))) rest tokens
    → OneMore before gap (first ∷ others) rest kind tokens
one_more before gap rest first others kind tokens g solid reads l =
    let own = first ∷ others in
    let total = length (before ++ (gap ++ (own ++ rest))) in
    let behind : drop (length own) (own ++ rest) ≡ rest = drop-append_seam own rest in
    let lexes : Lexes total (drop (length own) (own ++ rest)) tokens = subst (λ x. Lexes total x tokens) (sym behind) l in
    record {
      token = record { span = span_at total (own ++ rest) (length own); kind = kind };
      lexes = next (gap_is gap (own ++ rest) g) solid reads lexes;
      is_kind = refl;
      bytes = subst (λ x. bytes_at x (span_at (length x) (own ++ rest) (length own)) ≡ own) (append_assoc before gap (own ++ rest)) (bytes_there (before ++ gap) own rest);
    }

one_read : (before gap own rest : List ℕ) (kind : TokenKind) (tokens : List Token) → IsGap gap → IsRead own kind rest
    → Lexes (length (before ++ (gap ++ (own ++ rest)))) rest tokens → OneMore before gap own rest kind tokens
one_read before gap own rest kind tokens g r =
    subst (λ x. Lexes (length (before ++ (gap ++ (x ++ rest)))) rest tokens → OneMore before gap x rest kind tokens) (sym r.whole)
    (λ l. one_more before gap rest r.first r.others kind tokens g r.solid r.reads l)

pub lexes_pieces : (before : List ℕ) (ps : List Piece) (end : List ℕ) → AreClear ps end → Gap end []
    → (tokens : List Token) × Lexes (length (before ++ text_of ps end)) (text_of ps end) tokens × Spells (before ++ text_of ps end) tokens ps
lexes_pieces before [] end c g = (record { span = record { start = length (before ++ end); stop = length (before ++ end) }; kind = End } ∷ [], finish g, ends refl)
lexes_pieces before (p ∷ ps) end c g =
    let rest = text_of ps end in
    let whole : ((before ++ p.gap) ++ p.own) ++ rest ≡ before ++ (p.gap ++ (p.own ++ rest)) = append_assoc (before ++ p.gap) p.own rest ∙ append_assoc before p.gap (p.own ++ rest) in
    let inner = lexes_pieces ((before ++ p.gap) ++ p.own) ps end c.2 g in
    let one = one_read before p.gap p.own rest p.kind inner.0 c.0 c.1 (subst (λ x. Lexes (length x) rest inner.0) whole inner.1) in
    (one.token ∷ inner.0, one.lexes, token one.is_kind one.bytes (subst (λ x. Spells x inner.0 ps) whole inner.2))
