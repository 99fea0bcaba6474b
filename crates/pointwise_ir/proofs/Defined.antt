-- The types of images that are defined one after another.
use Rattle.std.proofs.Common.{◌≡◌, ℕ, zero, suc, ◌+◌, ◌<◌, ◌≤◌, List, [], ◌∷◌, ◌++◌, length, map, take, get_or, Some, slice_get, refl, ap, sym, ◌∙◌, subst, arith, ◌⊎◌, inl, inr, append-nil, append_assoc}
use Rattle.std.specs.List.{All}
use Rattle.std.proofs.lemmas.Bool.{cases_lt}
use Rattle.std.proofs.lemmas.Option.{slice_get-get_or}
use Rattle.dk_base.specs.declared.ty.Ty.{Ty}
use Rattle.dk_base.specs.declared.ty.Ty.TheVariants.{Unsigned, Signed}
use Rattle.dk_base.specs.Types.{IsType}
use Rattle.pointwise_ir.specs.declared.program.Input.{Input}
use Rattle.pointwise_ir.specs.declared.program.Definition.{Definition}
use Rattle.pointwise_ir.specs.Trees.{Tree, constant, read, shifted, unary, binary, select, convert, scale, tree_of, depth_of}
use Rattle.dk_base.specs.Types.{IsPort}
use Rattle.pointwise_ir.specs.Programs.{IsDefined, all_types, AreDefined}
use Rattle.pointwise_ir.proofs.Typed.{AreTypes, type_typed}

-- no expression has depth 0
pub depth_some : (e : Tree) → 1 ≤ depth_of e
depth_some (constant v t) = omega arith
depth_some (read edge g dx dy) = omega arith
depth_some (shifted edge dx dy a) = omega arith
depth_some (unary op a) = omega arith
depth_some (binary op a b) = omega arith
depth_some (select c a b) = omega arith
depth_some (convert how a t) = omega arith
depth_some (scale op a k) = omega arith

-- the entry at the end of a list
pub last_entry : {A : Type 0} (xs : List A) (y z : A) (g : ℕ) → slice_get (xs ++ y ∷ []) g ≡ Some z → (slice_get xs g ≡ Some z) ⊎ ((g ≡ length xs) × (y ≡ z))
last_entry [] y z zero h = inr (refl, let e : y ≡ z = cc in e)
last_entry [] y z (suc g) h = absurd (let e : ⊥ = cc in e)
last_entry (x ∷ xs) y z zero h = inl h
last_entry (x ∷ xs) y z (suc g) h = elim (last_entry xs y z g h) [ inl e ↦ inl e | inr e ↦ inr (ap suc e.0, e.1) ]

-- one type more
pub types_more : (ts : List Ty) (s : Ty) → AreTypes ts → IsType s → AreTypes (ts ++ s ∷ [])
types_more ts s ok also g t is = elim (last_entry ts s t g is) [ inl e ↦ ok g t e | inr e ↦ (let P : Ty → Type 0 = λ u. IsType u in subst P e.1 also) ]

-- images that are defined over images of the types ts and over those before them
abbrev pub DefinedFrom : List Ty → List Definition → Type 0
DefinedFrom ts images = (k : ℕ) (image : Definition) → slice_get images k ≡ Some image → IsDefined (ts ++ map (λ d. d.ty) (take k images)) image

pub first_defined : (ts : List Ty) (d : Definition) (images : List Definition) → DefinedFrom ts (d ∷ images) → IsDefined ts d
first_defined ts d images defined = let P : List Ty → Type 0 = λ us. IsDefined us d in subst P (append-nil ts) (defined zero d refl)

pub rest_defined : (ts : List Ty) (d : Definition) (images : List Definition) → DefinedFrom ts (d ∷ images) → DefinedFrom (ts ++ d.ty ∷ []) images
rest_defined ts d images defined k image is =
    let P : List Ty → Type 0 = λ us. IsDefined us image in
    subst P (sym (append_assoc ts (d.ty ∷ []) (map (λ d. d.ty) (take k images)))) (defined (suc k) image is)

pub types_from : (images : List Definition) (ts : List Ty) → AreTypes ts → DefinedFrom ts images → AreTypes (ts ++ map (λ d. d.ty) images)
types_from [] ts ok defined = let P : List Ty → Type 0 = λ us. AreTypes us in subst P (sym (append-nil ts)) ok
types_from (d ∷ images) ts ok defined =
    let first = first_defined ts d images defined in
    let more = types_more ts d.ty ok (type_typed ts ok (tree_of d.body) d.ty first.typed) in
    let P : List Ty → Type 0 = λ us. AreTypes us in
    subst P (append_assoc ts (d.ty ∷ []) (map (λ d. d.ty) images)) (types_from images (ts ++ d.ty ∷ []) more (rest_defined ts d images defined))

port_typed : (t : Ty) → IsPort t → IsType t
port_typed (Unsigned n) h = record { some = h.0; most = let m = h.1 in omega arith }
port_typed (Signed n) h = absurd h

pub inputs_typed : (inputs : List Input) → All (λ i. IsPort i.ty) inputs → AreTypes (map (λ i. i.ty) inputs)
inputs_typed inputs ports g t is = input_at inputs (λ g i lt. ports g i lt) g t is
  where
    input_at : (xs : List Input) → ((k : ℕ) (d : Input) → k < length xs → IsPort (get_or xs k d).ty) → (g : ℕ) (t : Ty) → slice_get (map (λ i. i.ty) xs) g ≡ Some t → IsType t
    input_at [] all g t is = absurd (let e : ⊥ = cc in e)
    input_at (x ∷ xs) all zero t is = let e : x.ty ≡ t = cc in (let P : Ty → Type 0 = λ u. IsType u in subst P e (port_typed x.ty (all 0 x (omega arith))))
    input_at (x ∷ xs) all (suc g) t is = input_at xs (λ k d lt. all (suc k) d (omega (arith, lt))) g t is

-- the types of inputs and of defined images are types of values
pub types_are : (inputs : List Input) (images : List Definition) → All (λ i. IsPort i.ty) inputs → AreDefined inputs images → AreTypes (all_types inputs images)
types_are inputs images ports defined = types_from images (map (λ i. i.ty) inputs) (inputs_typed inputs ports) defined

pub all_typed : (ts : List Ty) → AreTypes ts → All IsType ts
all_typed ts ok k d lt = ok k (get_or ts k d) (slice_get-get_or ts k d lt)

-- an entry of the first k is an entry of the list
taken_entry : {A : Type 0} (xs : List A) (k j : ℕ) (x : A) → slice_get (take k xs) j ≡ Some x → (j < k) × (slice_get xs j ≡ Some x) × (take j (take k xs) ≡ take j xs)
taken_entry [] zero j x h = absurd (let e : ⊥ = cc in e)
taken_entry [] (suc k) j x h = absurd (let e : ⊥ = cc in e)
taken_entry (y ∷ xs) zero j x h = absurd (let e : ⊥ = cc in e)
taken_entry (y ∷ xs) (suc k) zero x h = (omega arith, h, refl)
taken_entry (y ∷ xs) (suc k) (suc j) x h = let r = taken_entry xs k j x h in (let lt = r.0 in omega arith, r.1, ap (λ zs. y ∷ zs) r.2)

-- each of the first k images is defined
abbrev pub DefinedBelow : ℕ → List Input → List Definition → Type 0
DefinedBelow k inputs images = (j : ℕ) (image : Definition) → j < k → slice_get images j ≡ Some image → IsDefined (all_types inputs (take j images)) image

pub taken_types : (inputs : List Input) (images : List Definition) (k : ℕ) → All (λ i. IsPort i.ty) inputs → DefinedBelow k inputs images → AreTypes (all_types inputs (take k images))
taken_types inputs images k ports below = types_are inputs (take k images) ports (λ j image is.
    let r = taken_entry images k j image is in
    let P : List Definition → Type 0 = λ ds. IsDefined (all_types inputs ds) image in
    subst P (sym r.2) (below j image r.0 r.1))

pub types_below : (inputs : List Input) (images : List Definition) (k : ℕ) → All (λ i. IsPort i.ty) inputs → DefinedBelow k inputs images → All IsType (all_types inputs (take k images))
types_below inputs images k ports below = all_typed _ (taken_types inputs images k ports below)

-- one image more
pub defined_more : (inputs : List Input) (images earlier : List Definition) (k : ℕ) (d : Definition) → earlier ≡ take k images → slice_get images k ≡ Some d → IsDefined (all_types inputs earlier) d →
    DefinedBelow k inputs images → DefinedBelow (k + 1) inputs images
defined_more inputs images earlier k d taken there is below j image lt at = elim (cases_lt j k) [
  | inl low ↦ below j image low at
  | inr high ↦
      let here : k ≡ j = omega (arith, lt, high) in
      let same : Some d ≡ Some image = sym there ∙ ap (slice_get images) here ∙ at in
      let e : d ≡ image = cc in
      let P : Definition → Type 0 = λ x. IsDefined (all_types inputs (take j images)) x in
      let Q : List Definition → Type 0 = λ ds. IsDefined (all_types inputs ds) d in
      subst P e (subst Q (taken ∙ ap (λ i. take i images) here) is)
]
