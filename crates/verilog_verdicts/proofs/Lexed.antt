-- Each text has tokens or a first fault.
use Rattle.std.proofs.Common.{◌≡◌, ◌⊎◌, inl, inr, ℕ, zero, suc, ◌<◌, List, [], ◌∷◌, ◌++◌, length, drop, Ok, Err, refl, ap, subst, arith, length-drop}
use Rattle.verilog_text.specs.declared.token.Token.{Token}
use Rattle.verilog_text.specs.declared.token.LexFault.{LexFault}
use Rattle.verilog_text.specs.declared.token.TokenKind.TheVariants.{End}
use Rattle.verilog_text.specs.Lexis.{Lexeme, lexeme, Gap, Solid, Lexes, finish, next, Refused, here, later, HasTokens, HasLexFault}
use Rattle.verilog_lexer.specs.Left.{skipped}
use Rattle.verilog_lexer.proofs.Gaps.{gap_fewer}
use Rattle.verilog_lexer.proofs.Lefts.{skipped_is}
use Rattle.verilog_lexer.proofs.Positive.{lexeme_has, bytes_of}

-- what is left of a text of this many bytes has tokens or a fault
abbrev Judged : ℕ → List ℕ → Type 0
Judged total text = ((ts : List Token) × Lexes total text ts) ⊎ ((f : LexFault) × Refused total text f)

-- a token, and what is after it
one_more : (total n : ℕ) (text bs : List ℕ) (a : ℕ) (kind : _) → Gap text (a ∷ bs) → Solid (a ∷ bs) → lexeme a bs ≡ Ok (kind, n) → Judged total (drop n (a ∷ bs)) → Judged total text
one_more total n text bs a kind g s e (inl h) = inl (_, next g s e h.1)
one_more total n text bs a kind g s e (inr h) = inr (h.0, later g s e h.1)

front : (total : ℕ) (text rest : List ℕ) → Gap text rest → Solid rest → ((more : List ℕ) → length more < length text → Judged total more) → Judged total text
front total text [] g s again = inl (_, finish g)
front total text (a ∷ bs) g s again = by (lexeme a bs) refl
  where
    by : (x : Lexeme) → lexeme a bs ≡ x → Judged total text
    by (Err f) e = inr (_, here g s e)
    by (Ok t) e =
        let some : 0 < t.1 = subst (λ x. 0 < bytes_of x) e (lexeme_has a bs) in
        let fewer = gap_fewer g in
        let left = length-drop t.1 (a ∷ bs) in
        one_more total t.1 text bs a t.0 g s e (again (drop t.1 (a ∷ bs)) (omega (arith, some, fewer, left)))

lexed : (fuel total : ℕ) (text : List ℕ) → length text < fuel → Judged total text
lexed zero total text l = absurd (omega (arith, l))
lexed (suc fuel) total text l =
    let i = skipped_is (length text) text (omega arith) in
    front total text (skipped (length text) text) i.0 i.1 (λ more less. lexed fuel total more (omega (arith, l, less)))

pub some_tokens : (text : List ℕ) → ((ts : List Token) × HasTokens text ts) ⊎ ((f : LexFault) × HasLexFault text f)
some_tokens text = lexed (suc (length text)) (length text) text (omega arith)

-- the last token is the end of the text
pub record Ended (ts : List Token) : Type 0 where
  pub before : List Token
  pub last : Token
  pub whole : ts ≡ before ++ last ∷ []
  pub is_end : last.kind ≡ End

longer : (t : Token) (ts : List Token) → Ended ts → Ended (t ∷ ts)
longer t ts e = record { before = t ∷ e.before; last = e.last; whole = ap (λ x. t ∷ x) e.whole; is_end = e.is_end }

pub ended : {total : ℕ} {text : List ℕ} {ts : List Token} → Lexes total text ts → Ended ts
ended (finish g) = record { before = []; last = _; whole = refl; is_end = refl }
ended (next {tokens = tokens} g s e l) = let i = ended l in longer _ tokens i
