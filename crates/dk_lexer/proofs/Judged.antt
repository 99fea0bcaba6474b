-- What has tokens is not refused, and what has a fault is not accepted.
use Rattle.std.proofs.Common.{◌≡◌, ◌⊎◌, ℕ, List, MatchResult, Result, Ok, Err, refl, ap, inl, inr, IfOk}
use Rattle.std.specs.Result.{IsErrAnd}
use Rattle.dk_lexer.specs.declared.token.Token.{Token}
use Rattle.dk_lexer.specs.declared.fault.LexFault.{LexFault}
use Rattle.dk_lexer.specs.declared.fault.LexError.{LexError}
use Rattle.dk_lexer.specs.declared.fault.LexError.TheVariants.{Fault, OutOfMemory}
use Rattle.dk_lexer.specs.Lexis.{HasTokens, HasFault}
use Rattle.dk_lexer.specs.Answer.{Stops}
use Rattle.dk_lexer.specs.Faithful.{IsEnded}
use Rattle.dk_lexer.proofs.Says.{faithful_tokens}
use Rattle.dk_lexer.proofs.Unique.{one_lexing, one_fault, no_tokens}

pub accepted : {V : Type 0} (items : V → List Token) (text : List ℕ) (r : Result V LexError) (tokens : List Token)
    → MatchResult r (λ found. HasTokens text (items found)) (λ error. Stops text error) → HasTokens text tokens
    → MatchResult r (λ found. items found ≡ tokens) (λ error. error ≡ OutOfMemory)
accepted items text (Ok found) tokens h t = one_lexing h tokens t
accepted items text (Err (Fault fault)) tokens h t = absurd (no_tokens h tokens t)
accepted items text (Err OutOfMemory) tokens h t = refl

pub refused : {V : Type 0} (items : V → List Token) (text : List ℕ) (r : Result V LexError) (fault : LexFault)
    → MatchResult r (λ found. HasTokens text (items found)) (λ error. Stops text error) → HasFault text fault
    → IsErrAnd r (λ error. (error ≡ Fault fault) ⊎ (error ≡ OutOfMemory))
refused items text (Ok found) fault h f = absurd (no_tokens f (items found) h)
refused items text (Err (Fault other)) fault h f = inl (ap Fault (one_fault h fault f))
refused items text (Err OutOfMemory) fault h f = inr refl

pub closed : {V : Type 0} (items : V → List Token) (text : List ℕ) (r : Result V LexError)
    → MatchResult r (λ found. HasTokens text (items found)) (λ error. Stops text error) → IfOk r (λ found. IsEnded (items found))
closed items text (Ok found) h = let f = faithful_tokens text (items found) h in f.ended
closed items text (Err error) h = tt
