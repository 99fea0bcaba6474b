-- The tokens that are left of a text. What they are is said by `Lexes`; here they are a function, so that a cursor can be seen as their list.
use Rattle.std.specs.Prelude.{◌≡◌, ℕ, zero, suc, ◌≤◌, List, [], ◌∷◌, length, drop, Option, Some, None, Ok, Err, ◌&&◌, nat_eq, if◌then◌else◌}
use Rattle.std.specs.List.{prefix_len}
use Rattle.verilog_text.specs.declared.token.Token.{Token}
use Rattle.verilog_text.specs.declared.token.TokenKind.{TokenKind}
use Rattle.verilog_text.specs.declared.token.TokenKind.TheVariants as kind
use Rattle.verilog_text.specs.Bytes.{is_white, is_in_line}
use Rattle.verilog_text.specs.Lexis.{Gap, Solid, Lexes, Lexeme, lexeme, behind_block, span_at}

-- after a block that has an end
abbrev pub behind_or : (List ℕ → List ℕ) → Option (List ℕ) → List ℕ → List ℕ
behind_or f None text = text
behind_or f (Some rest) text = f rest

-- what follows white space and comments
unfoldable pub skipped : ℕ → List ℕ → List ℕ
skipped zero text = text
skipped (suc f) [] = []
skipped (suc f) (a ∷ []) = if is_white a then [] else a ∷ []
skipped (suc f) (a ∷ b ∷ bs) =
    if is_white a then skipped f (b ∷ bs)
    else (if nat_eq a 47 && nat_eq b 47 then skipped f (drop (prefix_len is_in_line bs) bs)
    else (if nat_eq a 47 && nat_eq b 42 then behind_or (λ x. skipped f x) (behind_block bs) (a ∷ b ∷ bs)
    else a ∷ b ∷ bs))

-- the end of a text of this many bytes
abbrev pub end_at : ℕ → Token
end_at total = record { span = record { start = total; stop = total }; kind = kind.End }

abbrev pub placed : ℕ → List ℕ → Lexeme → (List ℕ → List Token) → List Token
placed total bytes (Ok x) more = record { span = span_at total bytes x.1; kind = x.0 } ∷ more (drop x.1 bytes)
placed total bytes (Err e) more = []

abbrev pub first_of : ℕ → List ℕ → (List ℕ → List Token) → List Token
first_of total [] more = end_at total ∷ []
first_of total (a ∷ bs) more = placed total (a ∷ bs) (lexeme a bs) more

unfoldable pub tokens_left : ℕ → ℕ → List ℕ → List Token
tokens_left zero total text = []
tokens_left (suc f) total text = first_of total (skipped (length text) text) (λ rest. tokens_left f total rest)

-- the tokens of what is left of a text of this many bytes
abbrev pub left_of : ℕ → List ℕ → List Token
left_of total rest = tokens_left (suc (length rest)) total rest

-- what follows a token of this kind: nothing after the end of the text
abbrev pub after : TokenKind → List Token → List Token
after kind.End ts = []
after kind.Name ts = ts
after kind.Clock ts = ts
after (kind.Keyword w) ts = ts
after kind.Refused ts = ts
after (kind.Plain v) ts = ts
after (kind.Sized c) ts = ts
after (kind.Symbol s) ts = ts

-- what is left has tokens
pub record HasSome (total : ℕ) (rest : List ℕ) : Type 0 where
  pub tokens : List Token
  pub lexes : Lexes total rest tokens

-- the first token of what is left, and what follows it
pub data IsCut (total : ℕ) : List ℕ → Token → List ℕ → Type 0 where
  ended : {text : List ℕ} → Gap text [] → IsCut total text (end_at total) []
  found : {text bs rest : List ℕ} {a n : ℕ} {kind : TokenKind} → Gap text (a ∷ bs) → Solid (a ∷ bs) → lexeme a bs ≡ Ok (kind, n) → rest ≡ drop n (a ∷ bs)
      → IsCut total text (record { span = span_at total (a ∷ bs) n; kind = kind }) rest

-- the next token of a text of this many bytes, and what follows it
pub record IsPlace (total : ℕ) (next : Token) (rest : List ℕ) : Type 0 where
  pub fewer : length rest ≤ total
  pub has : HasSome total rest
  pub ended : next.kind ≡ kind.End → (next ≡ end_at total) × (rest ≡ [])
