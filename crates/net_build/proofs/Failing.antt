-- What a function states where memory runs out.
use Rattle.std.proofs.Common.{Result, Ok, Err}
use Rattle.std.specs.Prelude.{IsErrAnd, MatchResult}

-- an exit by `?`
pub at_err : {T E : Type 0} (P : T → Type 0) (Q : E → Type 0) (X : Type 0) (r : Result T E) → IsErrAnd r Q → X → MatchResult r P (λ e. X)
at_err P Q X (Ok x) is holds = absurd is
at_err P Q X (Err e) is holds = holds
