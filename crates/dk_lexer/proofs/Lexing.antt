-- What was read of a text, and what is left.
use Rattle.std.proofs.Common.{◌≡◌, ◌≤◌, ◌<◌, ◌-◌, ◌++◌, List, [], ◌∷◌, ℕ, length, drop, arith, sym, subst, append_assoc, ◌^◌, length-drop, Result, MatchResult, Ok, Err, ap, ◌∙◌}
use Rattle.std.specs.List.{prefix_len}
use Rattle.dk_lexer.specs.declared.token.Token.{Token}
use Rattle.dk_lexer.specs.declared.token.TokenKind.{TokenKind}
use Rattle.dk_lexer.specs.declared.token.TokenKind.TheVariants.{End}
use Rattle.dk_lexer.specs.declared.fault.LexKind.{LexKind}
use Rattle.dk_lexer.specs.declared.fault.LexFault.{LexFault}
use Rattle.dk_lexer.specs.Bytes.{is_in_line}
use Rattle.dk_lexer.specs.Lexis.{Gap, none, white, comment, Solid, Lexes, finish, next, Refused, here, later, lexeme, span_at, HasTokens}
use Rattle.dk_lexer.specs.declared.fault.LexError.{LexError}
use Rattle.dk_lexer.specs.declared.fault.LexError.TheVariants.{OutOfMemory as NoMemory}
use Rattle.dk_lexer.specs.declared.fault.NoToken.{NoToken}
use Rattle.dk_lexer.specs.declared.fault.NoToken.TheVariants.{Fault, OutOfMemory}
use Rattle.dk_lexer.specs.Answer.{Answers, FitsIn, Stops, Ends, end_at, located_at}

-- Whatever tokens are left come after those that were read, and the first fault is in what is left.
pub record Continues (source : List ℕ) (tokens : List Token) (rest : List ℕ) : Type 0 where
  pub fewer : length rest ≤ length source
  pub lexes : (more : List Token) → Lexes (length source) rest more → Lexes (length source) source (tokens ++ more)
  pub refused : (fault : LexFault) → Refused (length source) rest fault → Refused (length source) source fault

pub gap_fewer : {text rest : List ℕ} → Gap text rest → length rest ≤ length text
gap_fewer none = omega arith
gap_fewer (white w g) = let h = gap_fewer g in omega (arith, h)
gap_fewer (comment {line = line} g) = let h = gap_fewer g in omega (arith, h, length-drop (prefix_len is_in_line line) line)

pub continues_start : (source : List ℕ) → Continues source [] source
continues_start source = record { fewer = omega arith; lexes = λ more l. l; refused = λ f r. r }

pub continues_next : (source text bytes after behind : List ℕ) (first n : ℕ) (kind : TokenKind) (tokens : List Token) → Continues source tokens text → Gap text bytes → Solid bytes
    → bytes ≡ first ∷ after → lexeme first after ≡ Ok (kind, n) → behind ≡ drop n bytes
    → Continues source (tokens ++ (record { span = span_at (length source) bytes n; kind = kind } ∷ [])) behind
continues_next source text bytes after behind first n kind tokens c g s e k b =
    let e' = sym e in
    let gap : Gap text (first ∷ after) = subst (λ x. Gap text x) e g in
    let solid : Solid (first ∷ after) = subst (λ x. Solid x) e s in
    let left : behind ≡ drop n (first ∷ after) = b ∙ ap (λ x. drop n x) e in
    rw e (record {
      fewer = omega (arith, c.fewer, gap_fewer g, ap (λ x. length x) b, length-drop n bytes);
      lexes = λ more l. rw append_assoc (c.lexes _ (next gap solid k (subst (λ x. Lexes (length source) x more) left l)));
      refused = λ f r. c.refused f (later gap solid k (subst (λ x. Refused (length source) x f) left r));
    })

pub continues_fault : (source text bytes after : List ℕ) (first n : ℕ) (kind : LexKind) (tokens : List Token) → Continues source tokens text → Gap text bytes → Solid bytes
    → bytes ≡ first ∷ after → lexeme first after ≡ Err (kind, n)
    → Refused (length source) source (record { span = span_at (length source) bytes n; kind = kind })
continues_fault source text bytes after first n kind tokens c g s e k =
    let gap : Gap text (first ∷ after) = subst (λ x. Gap text x) e g in
    let solid : Solid (first ∷ after) = subst (λ x. Solid x) e s in
    rw e (c.refused _ (here gap solid k))

pub continues_end : (source text bytes : List ℕ) (start : ℕ) (tokens : List Token) → Continues source tokens text → Gap text bytes → bytes ≡ [] → start ≡ length source - length bytes
    → Lexes (length source) source (tokens ++ (record { span = record { start = start; stop = start }; kind = End } ∷ []))
continues_end source text bytes start tokens c g e s =
    let at : start ≡ length source = omega (arith, s, ap (λ x. length x) e) in
    rw at (c.lexes _ (finish (subst (λ x. Gap text x) e g)))

-- the tokens with the end of the text
pub ended : {V : Type 0} (items : V → List Token) (source text bytes : List ℕ) (start : ℕ) (tokens : List Token) (r : Result V LexError) → Continues source tokens text → Gap text bytes
    → bytes ≡ [] → start ≡ length source - length bytes → MatchResult r (λ all. items all ≡ tokens ++ (end_at start ∷ [])) (λ error. error ≡ NoMemory)
    → MatchResult r (λ all. HasTokens source (items all)) (λ error. Stops source error)
ended items source text bytes start tokens (Ok all) c g e s h = rw h (continues_end source text bytes start tokens c g e s)
ended items source text bytes start tokens (Err error) c g e s h = rw h tt

pub ends : (total start : ℕ) (bytes : List ℕ) (r : NoToken) → total < 2 ^ 64 → length bytes ≤ total → start ≡ total - length bytes → FitsIn (length bytes) r → Ends start r
ends total start bytes (Fault kind n) a b c h = omega (arith, h)
ends total start bytes OutOfMemory a b c h = tt

pub stops : (source text bytes after : List ℕ) (first start : ℕ) (r : NoToken) (tokens : List Token) → Continues source tokens text → Gap text bytes → Solid bytes
    → bytes ≡ first ∷ after → start ≡ length source - length bytes → Answers (lexeme first after) (Err r) → Stops source (located_at start r)
stops source text bytes after first start (Fault kind n) tokens c g s e b k = rw b (continues_fault source text bytes after first n kind tokens c g s e k)
stops source text bytes after first start OutOfMemory tokens c g s e b k = tt
