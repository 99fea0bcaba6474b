-- Numbers with a sign, and the words that hold them.
use Rattle.std.proofs.Common.{◌≡◌, Bool, true, false, ℤ, refl, sym, ap, ◌∙◌, subst, to_z, of_z, FitsSigned}
use Rattle.std.specs.Prelude.{not}
use Rattle.std.specs.Int.{Width}
use Rattle.std.proofs.lemmas.Int.{to_z-of_z}

pub from_word : (w : Width) (P : ℤ → Type 0) (z : ℤ) → FitsSigned w z → P (to_z w (of_z w z)) → P z
from_word w P z fits p = subst P (to_z-of_z w z fits) p

pub to_word : (w : Width) (P : ℤ → Type 0) (z : ℤ) → FitsSigned w z → P z → P (to_z w (of_z w z))
to_word w P z fits p = subst P (sym (to_z-of_z w z fits)) p

pub same_word : (w : Width) (a b : ℤ) → FitsSigned w a → FitsSigned w b → of_z w a ≡ of_z w b → a ≡ b
same_word w a b fa fb same = sym (to_z-of_z w a fa) ∙ ap (to_z w) same ∙ to_z-of_z w b fb

pub is_not : (b : Bool) → not b ≡ true → b ≡ false
is_not true h = absurd (let e : ⊥ = cc in e)
is_not false h = refl
