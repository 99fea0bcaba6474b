-- The map of names as a scope.
use Rattle.std.proofs.Common.{◌≡◌, ℕ, zero, suc, ◌+◌, ◌<◌, not, nat_lt, nat_eq, cond, List, [], ◌∷◌, ◌++◌, length, slice_get, position, Option, Some, None, refl, sym, ap, ◌∙◌, subst, arith, length-append, ◌⊎◌, inl, inr}
use Rattle.std.specs.Borrow.{Bor}
use Rattle.std.proofs.lemmas.List.{map-append}
use Rattle.std.specs.Cmp.Lexicographic.{pointwise}
use Rattle.std.specs.List.{position_or_len}
use Rattle.std.specs.Map.{keys_of}
use Rattle.std.specs.Option.{option_map}
use Rattle.std.proofs.lemmas.Option.{slice_get-map}
use Rattle.indexmap.specs.IndexMap.{insert_entry}
use Rattle.indexmap.proofs.MapLemmas.{Missing-position, insert_entry-absent}
use Rattle.dk_base.specs.declared.ty.Ty.{Ty}
use Rattle.dk_base.specs.Types.{IsType}
use Rattle.dk_types.specs.Scopes.{Named, Scope, image_of, types_in, IsUnknown}
use Rattle.std.specs.Str.{bytes_eq}
use Rattle.dk_types.specs.Entries.{named_in, IsFull, IsFound}

abbrev Entries : Type 0
Entries = List (Bor (List ℕ) × Ty)

same_place : (name : List ℕ) (es : Entries) → position_or_len (λ (k : Bor (List ℕ)). pointwise nat_eq name k.now) (keys_of es) ≡ position_or_len (λ (i : Named). bytes_eq name i.name) (named_in es)
same_place name [] = refl
same_place name (e ∷ es) = ap (λ n. cond (not (pointwise nat_eq name e.0.now)) (1 + n) 0) (same_place name es)

same_length : (es : Entries) → length (keys_of es) ≡ length (named_in es)
same_length [] = refl
same_length (e ∷ es) = ap suc (same_length es)

pub place_named : (name : List ℕ) (es : Entries) → position (λ (k : Bor (List ℕ)). pointwise nat_eq name k.now) (keys_of es) ≡ image_of (named_in es) name
place_named name es =
    ap (λ n. cond (nat_lt n (length (keys_of es))) (Some n) None) (same_place name es)
    ∙ ap (λ m. cond (nat_lt (position_or_len (λ (i : Named). bytes_eq name i.name) (named_in es)) m) (Some (position_or_len (λ (i : Named). bytes_eq name i.name) (named_in es))) None) (same_length es)

type_named : (es : Entries) (g : ℕ) (k : Bor (List ℕ)) (t : Ty) → slice_get es g ≡ Some (k, t) → slice_get (types_in (named_in es)) g ≡ Some t
type_named es g k t h =
    slice_get-map (λ (i : Named). i.ty) (named_in es) g
    ∙ (ap (option_map (λ (i : Named). i.ty)) (slice_get-map (λ (e : Bor (List ℕ) × Ty). record { name = e.0.now; ty = e.1 }) es g)
    ∙ ap (λ (o : Option (Bor (List ℕ) × Ty)). option_map (λ (i : Named). i.ty) (option_map (λ (e : Bor (List ℕ) × Ty). record { name = e.0.now; ty = e.1 }) o)) h)

pub unknown : (scope : Scope) (es : Entries) (name : List ℕ) → named_in es ≡ scope
    → None ≡ position (λ (k : Bor (List ℕ)). pointwise nat_eq name k.now) (keys_of es) → IsUnknown scope name
unknown scope es name v h = let P : Scope → Type 0 = λ s. IsUnknown s name in subst P v (sym (place_named name es) ∙ sym h)

pub found : (scope : Scope) (es : Entries) (name : List ℕ) (g : ℕ) (k : Bor (List ℕ)) (t : Ty) → named_in es ≡ scope → IsFull (named_in es)
    → Some g ≡ position (λ (k : Bor (List ℕ)). pointwise nat_eq name k.now) (keys_of es) → slice_get es g ≡ Some (k, t) → IsFound scope name g t
found scope es name g k t v full h e =
    let P : Scope → Type 0 = λ s. IsFound s name g t in
    subst P v (record { image = record { number = sym (place_named name es) ∙ sym h; type = type_named es g k t e }; is_type = full.typed g t (type_named es g k t e) })

-- a new name
pub added : (scope : Scope) (es fs : Entries) (name : Bor (List ℕ)) (t : Ty) → named_in es ≡ scope → IsUnknown scope name.now
    → fs ≡ insert_entry (λ (a b : Bor (List ℕ)). pointwise nat_eq a.now b.now) es name t
    → named_in fs ≡ scope ++ (record { name = name.now; ty = t }) ∷ []
added scope es fs name t v new f =
    let P : Scope → Type 0 = λ s. IsUnknown s name.now in
    let none = place_named name.now es ∙ subst P (sym v) new in
    let absent = (Missing-position (λ (k : Bor (List ℕ)). pointwise nat_eq name.now k.now) es none).absent in
    ap named_in (f ∙ insert_entry-absent (λ (a b : Bor (List ℕ)). pointwise nat_eq a.now b.now) name t es absent)
    ∙ (map-append (λ (e : Bor (List ℕ) × Ty). record { name = e.0.now; ty = e.1 }) es ((name, t) ∷ [])
    ∙ ap (λ s. s ++ (record { name = name.now; ty = t }) ∷ []) v)

last_or_before : {A : Type 0} (xs : List A) (y : A) (g : ℕ) (t : A) → slice_get (xs ++ y ∷ []) g ≡ Some t → (slice_get xs g ≡ Some t) ⊎ (y ≡ t)
last_or_before [] y zero t h = inr (cc)
last_or_before [] y (suc g) t h = inl h
last_or_before (x ∷ xs) y zero t h = inl h
last_or_before (x ∷ xs) y (suc g) t h = last_or_before xs y g t h

pub fuller : (scope : Scope) (es : Entries) (name : List ℕ) (t : Ty) → IsFull scope → length scope < 264 → IsType t
    → named_in es ≡ scope ++ (record { name = name; ty = t }) ∷ [] → IsFull (named_in es)
fuller scope es name t full room is e =
    let P : Scope → Type 0 = λ s. IsFull s in
    subst P (sym e) (record {
      few = let l = length-append scope ((record { name = name; ty = t }) ∷ []) in omega (arith, l);
      typed = λ g u h.
          elim (last_or_before (types_in scope) t g u (sym (ap (λ ts. slice_get ts g) (map-append (λ (i : Named). i.ty) scope ((record { name = name; ty = t }) ∷ []))) ∙ h)) [
            | inl before ↦ full.typed g u before
            | inr last ↦ subst IsType last is
          ];
    })

pub full_is : (scope : Scope) (es : Entries) → named_in es ≡ scope → IsFull (named_in es) → IsFull scope
full_is scope es v full = let P : Scope → Type 0 = λ s. IsFull s in subst P v full
