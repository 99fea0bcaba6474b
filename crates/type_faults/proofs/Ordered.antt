-- Faults that were found one after another.
use Rattle.std.proofs.Common.{◌≡◌, ◌<◌, ℕ, List, [], ◌∷◌, ◌++◌, refl, sym, ap, subst}
use Rattle.dk_types.specs.declared.fault.TypeFault.{TypeFault}
use Rattle.type_faults.specs.declared.found.FoundFault.{FoundFault}
use Rattle.type_faults.specs.Faults.{BeginsWith, start_of, AreAfter, AreInOrder}

-- where the last one begins, or this
abbrev last_of : ℕ → List FoundFault → ℕ
last_of from [] = from
last_of from (x ∷ xs) = last_of (start_of x) xs

-- there is a first one, which is this, and the last one begins at this byte
abbrev pub AreUpTo : TypeFault → ℕ → List FoundFault → Type 0
AreUpTo f last [] = ⊥
AreUpTo f last (x ∷ xs) = (x.fault ≡ f) × AreAfter (start_of x) xs × (last_of (start_of x) xs ≡ last)

after_more : (from last : ℕ) (xs : List FoundFault) (y : FoundFault) → AreAfter from xs → last_of from xs ≡ last → last < start_of y → AreAfter from (xs ++ y ∷ [])
after_more from last [] y a e lt = (subst (λ n. n < start_of y) (sym e) lt, tt)
after_more from last (x ∷ xs) y a e lt = (a.0, after_more (start_of x) last xs y a.1 e lt)

last_more : (from : ℕ) (xs : List FoundFault) (y : FoundFault) → last_of from (xs ++ y ∷ []) ≡ start_of y
last_more from [] y = refl
last_more from (x ∷ xs) y = last_more (start_of x) xs y

-- the first one
pub one : (f : TypeFault) (x : FoundFault) → x.fault ≡ f → AreUpTo f f.span.start (x ∷ [])
one f x e = (e, tt, ap (λ g. g.span.start) e)

-- one more
pub more : (f : TypeFault) (last : ℕ) (xs : List FoundFault) (y : FoundFault) → AreUpTo f last xs → last < start_of y → AreUpTo f (start_of y) (xs ++ y ∷ [])
more f last [] y a lt = absurd a
more f last (x ∷ xs) y a lt = (a.0, after_more (start_of x) last xs y a.1 a.2 lt, last_more (start_of x) xs y)

pub begins : (f : TypeFault) (last : ℕ) (xs : List FoundFault) → AreUpTo f last xs → BeginsWith f xs
begins f last [] a = absurd a
begins f last (x ∷ xs) a = a.0

pub ordered : (f : TypeFault) (last : ℕ) (xs : List FoundFault) → AreUpTo f last xs → AreInOrder xs
ordered f last [] a = absurd a
ordered f last (x ∷ xs) a = a.1
