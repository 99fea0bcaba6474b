-- Pieces of lists, one after another.
use Rattle.std.proofs.Common.{◌≡◌, List, [], ◌∷◌, ◌++◌, map, refl, ap}
use Rattle.std.specs.List.{flat_map}

-- pieces of what a list is mapped to
pub pieces_of_map : {A B C : Type 0} (F : B → List C) (G : A → B) (xs : List A) → flat_map F (map G xs) ≡ flat_map (λ x. F (G x)) xs
pieces_of_map F G [] = refl
pieces_of_map F G (x ∷ xs) = ap (λ ys. F (G x) ++ ys) (pieces_of_map F G xs)
