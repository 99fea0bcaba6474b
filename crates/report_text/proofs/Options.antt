-- Answers that may be missing: what is known where one is there.
use Rattle.std.proofs.Common.{◌≡◌, ◌⊎◌, inl, inr, Bool, true, false, refl}
use Rattle.std.specs.Prelude.{Option, Some, None, if◌then◌else◌}
use Rattle.std.proofs.lemmas.Option.{same_Some}
use Rattle.report_text.specs.Reading.{◌>>=◌, or_else}

pub bind_some : {A B : Type 0} (o : Option A) (f : A → Option B) (y : B) → (o >>= f) ≡ Some y → (x : A) × (o ≡ Some x) × (f x ≡ Some y)
bind_some None f y e = absurd (cc e)
bind_some (Some x) f y e = (x, refl, e)

pub if_some : {A : Type 0} (b : Bool) (x y : A) → (if b then Some x else None) ≡ Some y → (b ≡ true) × (x ≡ y)
if_some true x y e = (refl, same_Some x y e)
if_some false x y e = absurd (cc e)

pub unless_some : {A : Type 0} (b : Bool) (x y : A) → (if b then None else Some x) ≡ Some y → (b ≡ false) × (x ≡ y)
unless_some true x y e = absurd (cc e)
unless_some false x y e = (refl, same_Some x y e)

pub or_some : {A : Type 0} (o p : Option A) (y : A) → or_else o p ≡ Some y → (o ≡ Some y) ⊎ (p ≡ Some y)
or_some None p y e = inr e
or_some (Some x) p y e = inl e
