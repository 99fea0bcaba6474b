-- What a function states where memory runs out.
use Rattle.std.proofs.Common.{Result, Ok, Err}
use Rattle.std.specs.Prelude.{IsErrAnd, MatchResult}

-- an exit by `?`
pub at_err : {T E G : Type 0} (P : T → Type 0) (Q : E → Type 0) (r : Result T E) → IsErrAnd r Q → G → MatchResult r P (λ e. G)
at_err P Q (Ok x) is growth = absurd is
at_err P Q (Err e) is growth = growth
