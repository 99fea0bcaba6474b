-- Lists of faults.
use Rattle.std.specs.Prelude.{◌≡◌, ◌<◌, ℕ, List, [], ◌∷◌, ⊤}
use Rattle.dk_types.specs.declared.fault.TypeFault.{TypeFault}
use Rattle.type_faults.specs.declared.found.FoundFault.{FoundFault}

-- there is a first one, which is this
abbrev pub BeginsWith : TypeFault → List FoundFault → Type 0
BeginsWith f [] = ⊥
BeginsWith f (x ∷ xs) = x.fault ≡ f

-- where it begins
abbrev pub start_of : FoundFault → ℕ
start_of x = x.fault.span.start

-- each one begins after the one before it, and the first one after this byte
abbrev pub AreAfter : ℕ → List FoundFault → Type 0
AreAfter from [] = ⊤
AreAfter from (x ∷ xs) = (from < start_of x) × AreAfter (start_of x) xs

-- each one begins after the one before it
abbrev pub AreInOrder : List FoundFault → Type 0
AreInOrder [] = ⊤
AreInOrder (x ∷ xs) = AreAfter (start_of x) xs
