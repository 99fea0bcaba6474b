-- Items that are written one after another.
use Rattle.std.proofs.Common.{◌≡◌, ◌+◌, ℕ, zero, suc, arith, List, [], ◌∷◌, ◌++◌, drop, Some, sym, ap, ◌∙◌, subst, append_assoc, slice_get}
use Rattle.std.proofs.lemmas.Option.{slice_get_within, same_Some}
use Rattle.vcd_trace.specs.Header.{each_at}

drop_at : {X : Type 0} (xs : List X) (k : ℕ) (x : X) → slice_get xs k ≡ Some x → drop k xs ≡ x ∷ drop (suc k) xs
drop_at [] k x e = absurd (omega (arith, slice_get_within [] k x e))
drop_at (y ∷ ys) zero x e = ap (λ z. z ∷ ys) (same_Some y x e)
drop_at (y ∷ ys) (suc k) x e = drop_at ys k x e

-- one item more
joined : (out new own rest left all : List ℕ) → left ≡ own ++ rest → out ++ left ≡ all → new ≡ out ++ own → new ++ rest ≡ all
joined out new own rest left all e whole more = ap (λ z. z ++ rest) more ∙ append_assoc out own rest ∙ ap (λ z. out ++ z) (sym e) ∙ whole

suc_is : (k : ℕ) → suc k ≡ k + 1
suc_is k = omega arith

pub each_at_step : (layout : ℕ → ℕ → List ℕ) (xs : List ℕ) (k x : ℕ) (out new all : List ℕ) → slice_get xs k ≡ Some x
    → out ++ each_at layout k (drop k xs) ≡ all → new ≡ out ++ layout k x → new ++ each_at layout (k + 1) (drop (k + 1) xs) ≡ all
each_at_step layout xs k x out new all at whole more =
    subst (λ n. new ++ each_at layout n (drop n xs) ≡ all) (suc_is k)
    (joined out new (layout k x) (each_at layout (suc k) (drop (suc k) xs)) (each_at layout k (drop k xs)) all (ap (λ z. each_at layout k z) (drop_at xs k x at)) whole more)
