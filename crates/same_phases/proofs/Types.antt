-- Types of images.
use Rattle.std.proofs.Common.{◌≡◌, ℕ, zero, suc, ◌-◌, ◌<◌, ◌≤◌, List, [], ◌∷◌, ◌++◌, length, map, get_or, Some, slice_get, refl, ap, ◌∙◌, arith}
use Rattle.std.specs.Option.{option_map}
use Rattle.std.proofs.lemmas.List.{length-map}
use Rattle.std.proofs.lemmas.Option.{slice_get-map, slice_get-get_or}
use Rattle.dk_base.specs.declared.ty.Ty.{Ty}
use Rattle.dk_types.specs.declared.typed.TypedInput.{TypedInput}
use Rattle.dk_types.specs.declared.typed.TypedDefinition.{TypedDefinition}
use Rattle.dk_types.specs.declared.typed.TypedNode.{TypedNode, Number, Read, Unary', Binary', Scale', Convert', Select'}
use Rattle.dk_types.specs.Typed.{type_of, typed_at, definition_of, image_type, input_types}

-- an expression's type is the one it has beside it
pub type_beside : (t : Ty) (n : TypedNode) → type_of (typed_at t n) ≡ t
type_beside t (Number v) = refl
type_beside t (Read r) = refl
type_beside t (Unary' o p u a) = refl
type_beside t (Binary' o p u a q w b) = refl
type_beside t (Scale' o p u a k) = refl
type_beside t (Convert' o p u a) = refl
type_beside t (Select' p u c q w a r z b) = refl

later_entry : {A : Type 0} (xs ys : List A) (k : ℕ) → length xs ≤ k → slice_get (xs ++ ys) k ≡ slice_get ys (k - length xs)
later_entry [] ys k ge = ap (slice_get ys) (let e : k ≡ k - 0 = omega arith in e)
later_entry (x ∷ xs) ys zero ge = absurd (omega (arith, ge))
later_entry (x ∷ xs) ys (suc k) ge = later_entry xs ys k (omega (arith, ge)) ∙ ap (slice_get ys) (let e : k - length xs ≡ suc k - suc (length xs) = omega arith in e)

-- the type of an input, and that of a definition
pub input_entry : (is : List TypedInput) (k : ℕ) (d : TypedInput) → k < length is → slice_get (input_types is) k ≡ Some (get_or is k d).ty
input_entry is k d lt = slice_get-map (λ (i : TypedInput). i.ty) is k ∙ ap (option_map (λ (i : TypedInput). i.ty)) (slice_get-get_or is k d lt)

pub definition_type_at : (is : List TypedInput) (ds : List TypedDefinition) (k : ℕ) (d : TypedDefinition) → length is ≤ k → k - length is < length ds →
    slice_get (input_types is ++ map image_type (map definition_of ds)) k ≡ Some (image_type (definition_of (get_or ds (k - length is) d)))
definition_type_at is ds k d ge lt =
    let long = length-map is (λ (i : TypedInput). i.ty) in
    later_entry (input_types is) (map image_type (map definition_of ds)) k (omega (arith, ge, long))
    ∙ ap (λ n. slice_get (map image_type (map definition_of ds)) (k - n)) long
    ∙ slice_get-map image_type (map definition_of ds) (k - length is)
    ∙ ap (option_map image_type) (slice_get-map definition_of ds (k - length is) ∙ ap (option_map definition_of) (slice_get-get_or ds (k - length is) d lt))
