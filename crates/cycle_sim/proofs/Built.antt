-- Steps of the loops that build a program.
use Rattle.std.proofs.Common.{◌≡◌, ℕ, ◌+◌, List, [], ◌∷◌, ◌++◌, take, map, ap, sym, ◌∙◌, append_assoc}
use Rattle.std.proofs.lemmas.List.{take_more, map-append, append-nil}
use Rattle.std.specs.Prelude.{slice_get, Some}
use Rattle.std.proofs.lemmas.Option.{slice_get_within, get_or_from_slice_get}
use Rattle.std.specs.List.{AllZip}
use Rattle.wiring.specs.declared.right.Atom.{Atom}
use Rattle.wiring.specs.declared.netlist.Net.{Net}
use Rattle.wiring.specs.Snapshot.{accesses_of}
use Rattle.cycle_sim.specs.declared.edge.Access.{Access}

accesses_of-push : {X : Type 0} (f : X → List (ℕ × Atom Net)) (xs : List X) (x : X) → accesses_of f (xs ++ x ∷ []) ≡ accesses_of f xs ++ f x
accesses_of-push f [] x = append-nil (f x)
accesses_of-push f (y ∷ xs) x = ap (λ (l : List (ℕ × Atom Net)). f y ++ l) (accesses_of-push f xs x) ∙ sym (append_assoc (f y) (accesses_of f xs) (f x))

pub accesses_step : {X : Type 0} (g : ℕ × Atom Net → Access) (f : X → List (ℕ × Atom Net)) (pre : List (ℕ × Atom Net)) (xs : List X) (i : ℕ) (x : X) (old new : List Access) → slice_get xs i ≡ Some x →
    old ≡ map g (pre ++ accesses_of f (take i xs)) → new ≡ old ++ map g (f x) → new ≡ map g (pre ++ accesses_of f (take (i + 1) xs))
accesses_step g f pre xs i x old new at was is =
    is
    ∙ ap (λ (m : List Access). m ++ map g (f x)) was
    ∙ sym (map-append g (pre ++ accesses_of f (take i xs)) (f x))
    ∙ ap (λ (m : List (ℕ × Atom Net)). map g m) (append_assoc pre (accesses_of f (take i xs)) (f x))
    ∙ ap (λ (m : List (ℕ × Atom Net)). map g (pre ++ m)) (sym (accesses_of-push f (take i xs) x))
    ∙ ap (λ m. map g (pre ++ accesses_of f (take i xs ++ m ∷ []))) (sym (get_or_from_slice_get xs i x x at))
    ∙ ap (λ m. map g (pre ++ accesses_of f m)) (sym (take_more xs i x (slice_get_within xs i x at)))

-- one more pair
pub zip_push : {A B : Type 0} (R : A → B → Type 0) (xs : List A) (ys : List B) (x : A) (y : B) → AllZip R xs ys → R x y → AllZip R (xs ++ x ∷ []) (ys ++ y ∷ [])
zip_push R [] [] x y h r = (r, tt)
zip_push R [] (b ∷ ys) x y h r = absurd h
zip_push R (a ∷ xs) [] x y h r = absurd h
zip_push R (a ∷ xs) (b ∷ ys) x y h r = (h.0, zip_push R xs ys x y h.1 r)
