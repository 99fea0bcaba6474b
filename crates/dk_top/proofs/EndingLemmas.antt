-- The exits of a command: what holds of the ending of its result.
use Rattle.std.proofs.Common.{◌≡◌, Result, Ok, Err, sym, ◌∙◌, subst}
use Rattle.std.specs.Prelude.{IsErrAnd}
use Rattle.dk_endings.specs.declared.ending.Ending.{Ending}
use Rattle.dk_endings.specs.declared.ending.Ending.TheVariants as ending
use Rattle.dk_top.specs.Performing.{OfEnding}

-- an exit by `?`
pub at_error : {A : Type 0} (P : Ending → Type 0) (r : Result A Ending) (e : Ending) → IsErrAnd r (λ y. y ≡ e) → P e → OfEnding r P
at_error P (Ok x) e is h = absurd is
at_error P (Err y) e is h = subst P (sym is) h

-- the same after a failed write
pub at_fault : {A : Type 0} (P : Ending → Type 0) (r : Result A Ending) (e : Ending) → IsErrAnd r (λ y. y ≡ e) → e ≡ ending.WriteFault → P ending.WriteFault → OfEnding r P
at_fault P (Ok x) e is fault h = absurd is
at_fault P (Err y) e is fault h = subst P (sym (is ∙ fault)) h

-- what follows of each ending follows of the ending of the result
pub ending_as : {A : Type 0} (P Q : Ending → Type 0) (r : Result A Ending) → ((e : Ending) → P e → Q e) → OfEnding r P → OfEnding r Q
ending_as P Q (Ok x) goes h = goes ending.Done h
ending_as P Q (Err e) goes h = goes e h
