-- What a function states where memory runs out.
use Rattle.std.proofs.Common.{Result, Ok, Err}
use Rattle.std.specs.Prelude.{IsErrAnd, MatchResult}
use Rattle.wiring.specs.Netlist.{Netlist}
use Rattle.datapath.specs.Nets.{Grows}

-- an exit by `?`
pub at_err : {T E : Type 0} (P : T → Type 0) (Q : E → Type 0) {a b : Netlist} (r : Result T E) → IsErrAnd r Q → Grows a b → MatchResult r P (λ e. Grows a b)
at_err P Q (Ok x) is grows = absurd is
at_err P Q (Err e) is grows = grows
