-- The definitions of a typed program: their types, and what is in place of them.
use Rattle.std.proofs.Common.{◌≡◌, ℕ, ◌+◌, ◌-◌, ◌<◌, ◌≤◌, List, ◌++◌, length, map, take, drop, slice_get, slice_index_or, Some, refl, ap, sym, ◌∙◌, subst, true, false, if◌then◌else◌, append_assoc, arith, length-append, pos}
use Rattle.std.specs.Option.{option_map}
use Rattle.std.proofs.lemmas.List.{map-append, take-append-drop, length-map}
use Rattle.std.proofs.lemmas.Option.{slice_get-map, slice_get_read}
use Rattle.dk_base.specs.declared.ty.Ty.{Ty}
use Rattle.dk_types.specs.declared.typed.TypedInput.{TypedInput}
use Rattle.dk_types.specs.declared.typed.TypedDefinition.{TypedDefinition}
use Rattle.dk_types.specs.declared.typed.TypedNode.{TypedNode, Number, Read, Unary', Binary', Scale', Convert', Select'}
use Rattle.dk_types.specs.Typed.{Typed, fetch, single, double, scaled, converted, chosen, type_of, typed_at, typed_of, Definition, definition_of, definitions_as, Typing, TypedProgram, typing_of, image_type, input_types, types_of}
use Rattle.dk_types.specs.Typed as T
use Rattle.dk_types.specs.Kept.{IsWell, IsTyped}
use Rattle.pointwise_ir.specs.Trees.{Tree, constant}
use Rattle.dk_inline.specs.Inlined.{itself, body, inlined_body, substitute_of, substitutes, stays, body_of}
use Rattle.dk_inline.proofs.Substituted.{definition, well_at}
use Rattle.dk_inline.proofs.Welltyped.{entry_more}

-- an expression's type is the one it has beside it
pub type_beside : (t : Ty) (n : TypedNode) → type_of (typed_at t n) ≡ t
type_beside t (Number v) = refl
type_beside t (Read r) = refl
type_beside t (Unary' o p u a) = refl
type_beside t (Binary' o p u a q w b) = refl
type_beside t (Scale' o p u a k) = refl
type_beside t (Convert' o p u a) = refl
type_beside t (Select' p u c q w a r z b) = refl

-- an expression that is well typed over some images is so over more
well_more : (ts us : List Ty) (e : Typed) → IsWell ts e → IsWell (ts ++ us) e
well_more ts us (T.constant t v) w = w
well_more ts us (fetch t r) w = record { image = entry_more ts us r.image t w.image; near_in_x = w.near_in_x; near_in_y = w.near_in_y }
well_more ts us (single t o a) w = (well_more ts us a w.0, w.1)
well_more ts us (double t o a b) w = (well_more ts us a w.0, well_more ts us b w.1, w.2)
well_more ts us (scaled t o a k) w = (well_more ts us a w.0, w.1)
well_more ts us (converted t o a) w = (well_more ts us a w.0, w.1)
well_more ts us (chosen t c a b) w = (well_more ts us c w.0, well_more ts us a w.1, well_more ts us b w.2, w.3)

-- a definition's body is well typed over all images
pub well_all : (p : Typing) → IsTyped p → (k : ℕ) (d : Definition) → slice_get p.definitions k ≡ Some d → IsWell (types_of p) d.body
well_all p typed k d is =
    let first = input_types p.inputs ++ map image_type (take k p.definitions) in
    let rest = map image_type (drop k p.definitions) in
    let whole : first ++ rest ≡ types_of p =
    append_assoc (input_types p.inputs) (map image_type (take k p.definitions)) rest
    ∙ ap (λ ts. input_types p.inputs ++ ts) (sym (map-append image_type (take k p.definitions) (drop k p.definitions)) ∙ ap (map image_type) (take-append-drop k p.definitions)) in
    let P : List Ty → Type 0 = λ ts. IsWell ts d.body in
    subst P whole (well_more first rest d.body (well_at p typed k d is).0)

-- the k-th definition in memory
pub entry_as : (ds : List TypedDefinition) (k : ℕ) (d : TypedDefinition) → slice_get ds k ≡ Some d → slice_get (definitions_as ds) k ≡ Some (definition_of d)
entry_as ds k d is = slice_get-map definition_of ds k ∙ ap (option_map definition_of) is

stands : (p : TypedProgram) → IsTyped (typing_of p) → (image k : ℕ) (d : TypedDefinition) → image ≡ length p.inputs + k → slice_get p.definitions k ≡ Some d →
    slice_index_or (substitutes (typing_of p)) image itself ≡ substitute_of (substitutes (typing_of p)) (definition_of d)
stands p typed image k d place is = ap (λ n. slice_index_or (substitutes (typing_of p)) n itself) place ∙ definition (typing_of p) typed k (definition_of d) (entry_as p.definitions k d is)

-- an inline image is substituted by its body
pub inline_stands : (p : TypedProgram) → IsTyped (typing_of p) → (image k : ℕ) (d : TypedDefinition) → image ≡ length p.inputs + k → slice_get p.definitions k ≡ Some d → d.inline ≡ true →
    (slice_index_or (substitutes (typing_of p)) image itself ≡ body (inlined_body (substitutes (typing_of p)) (definition_of d))) × IsWell (types_of (typing_of p)) (typed_of d.body)
inline_stands p typed image k d place is inline = (
  stands p typed image k d place is ∙ ap (λ b. if b then body (inlined_body (substitutes (typing_of p)) (definition_of d)) else itself) inline,
  well_all (typing_of p) typed k (definition_of d) (entry_as p.definitions k d is),
)

pub other_stands : (p : TypedProgram) → IsTyped (typing_of p) → (image k : ℕ) (d : TypedDefinition) → image ≡ length p.inputs + k → slice_get p.definitions k ≡ Some d → d.inline ≡ false →
    slice_index_or (substitutes (typing_of p)) image itself ≡ itself
other_stands p typed image k d place is inline =
    stands p typed image k d place is ∙ ap (λ b. if b then body (inlined_body (substitutes (typing_of p)) (definition_of d)) else itself) inline

-- how many images there are
pub image_count : (p : TypedProgram) → length (types_of (typing_of p)) ≡ length p.inputs + length p.definitions
image_count p =
    let a = length-append (input_types p.inputs) (map image_type (definitions_as p.definitions)) in
    let b : length (input_types p.inputs) ≡ length p.inputs = length-map p.inputs _ in
    let c : length (map image_type (definitions_as p.definitions)) ≡ length (definitions_as p.definitions) = length-map (definitions_as p.definitions) _ in
    let d : length (definitions_as p.definitions) ≡ length p.definitions = length-map p.definitions _ in
    omega (arith, a, b, c, d)

-- the definition that is found at an image's place
at_place : (p : TypedProgram) (is : List TypedInput) (ds : List TypedDefinition) (image : ℕ) (d : TypedDefinition) → is ≡ p.inputs → ds ≡ p.definitions → image < length (types_of (typing_of p)) → length is ≤ image → d ≡ slice_index_or ds (image - length is) d →
    (image ≡ length p.inputs + (image - length is)) × (slice_get p.definitions (image - length is) ≡ Some d)
at_place p is ds image d inputs definitions within past found =
    let n = image_count p in
    let a : length is ≡ length p.inputs = ap length inputs in
    let b : length ds ≡ length p.definitions = ap length definitions in
    let lt : image - length is < length ds = omega (arith, within, n, a, b, past) in
    (omega (arith, past, a), ap (λ xs. slice_get xs (image - length is)) (sym definitions) ∙ slice_get_read ds (length ds) (image - length is) d refl lt found)

pub inline_found : (p : TypedProgram) → IsTyped (typing_of p) → (is : List TypedInput) (ds : List TypedDefinition) (image : ℕ) (d : TypedDefinition) → is ≡ p.inputs → ds ≡ p.definitions → image < length (types_of (typing_of p)) → length is ≤ image → d ≡ slice_index_or ds (image - length is) d → d.inline ≡ true →
    (slice_index_or (substitutes (typing_of p)) image itself ≡ body (inlined_body (substitutes (typing_of p)) (definition_of d))) × IsWell (types_of (typing_of p)) (typed_of d.body)
inline_found p typed is ds image d inputs definitions within past found inline =
    let h = at_place p is ds image d inputs definitions within past found in
    inline_stands p typed image (image - length is) d h.0 h.1 inline

pub other_found : (p : TypedProgram) → IsTyped (typing_of p) → (is : List TypedInput) (ds : List TypedDefinition) (image : ℕ) (d : TypedDefinition) → is ≡ p.inputs → ds ≡ p.definitions → image < length (types_of (typing_of p)) → length is ≤ image → d ≡ slice_index_or ds (image - length is) d → d.inline ≡ false →
    slice_index_or (substitutes (typing_of p)) image itself ≡ itself
other_found p typed is ds image d inputs definitions within past found inline =
    let h = at_place p is ds image d inputs definitions within past found in
    other_stands p typed image (image - length is) d h.0 h.1 inline

-- the definition at a place, in memory and without
pub at_number : (p : TypedProgram) (ds : List TypedDefinition) (k : ℕ) (t : TypedDefinition) → ds ≡ p.definitions → k < length p.definitions → t ≡ slice_index_or ds k t → slice_get (typing_of p).definitions k ≡ Some (definition_of t)
at_number p ds k t same lt found =
    let n : length ds ≡ length p.definitions = ap length same in
    entry_as p.definitions k t (ap (λ zs. slice_get zs k) (sym same) ∙ slice_get_read ds (length ds) k t refl (omega (arith, lt, n)) found)

pub well_number : (p : TypedProgram) → IsTyped (typing_of p) → (ds : List TypedDefinition) (k : ℕ) (t : TypedDefinition) → ds ≡ p.definitions → k < length p.definitions → t ≡ slice_index_or ds k t → IsWell (types_of (typing_of p)) (typed_of t.body)
well_number p typed ds k t same lt found = well_all (typing_of p) typed k (definition_of t) (at_number p ds k t same lt found)

pub only_number : (p : TypedProgram) (ds : List TypedDefinition) (k : ℕ) (t : TypedDefinition) → ds ≡ p.definitions → k < length p.definitions → t ≡ slice_index_or ds k t → (d : Definition) → slice_get (typing_of p).definitions k ≡ Some d → definition_of t ≡ d
only_number p ds k t same lt found d is = let some : Some (definition_of t) ≡ Some d = sym (at_number p ds k t same lt found) ∙ is in cc

-- the body of an image that stays, and of one that does not
pub stays_body : (p : Typing) (k : ℕ) (c d : Definition) (e : Tree) → c ≡ d → stays p k d ≡ true → e ≡ inlined_body (substitutes p) c → e ≡ body_of p k d
stays_body p k c d e same stay is =
    is ∙ ap (inlined_body (substitutes p)) same ∙ sym (ap (λ b. if b then inlined_body (substitutes p) d else constant (pos 0) (image_type d)) stay)
