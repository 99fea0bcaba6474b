-- The deep bodies among the first images of a program.
use Rattle.std.proofs.Common.{◌≡◌, Bool, true, ℕ, zero, suc, ◌+◌, ◌<◌, List, [], ◌∷◌, ◌++◌, length, map, take, slice_get, Some, refl, arith, sym, ap, ◌∙◌}
use Rattle.std.specs.Prelude.{filter}
use Rattle.std.proofs.lemmas.List.{map-append}
use Rattle.std.proofs.lemmas.List.Elements.{filter-append}
use Rattle.pointwise_ir.specs.declared.program.Definition.{Definition}
use Rattle.pointwise_ir.specs.Programs.{Program}
use Rattle.pointwise_ir.specs.Trees.{tree_of}
use Rattle.body_levels.specs.Deep.{is_deep}
use Rattle.body_levels.specs.Reasons.{is_one_operator, is_long_name, has_deep_move, lacks_room, first_reason, reason_of, deep_body}
use Rattle.body_levels.specs.declared.reasons.Reason.{Reason}
use Rattle.body_levels.specs.declared.reasons.DeepBody.{DeepBody}

pub there_is : {A : Type 0} (xs : List A) (k : ℕ) → k < length xs → (x : A) × (slice_get xs k ≡ Some x)
there_is [] k lt = absurd (omega arith)
there_is (x ∷ xs) zero lt = (x, refl)
there_is (x ∷ xs) (suc k) lt = there_is xs k (omega (arith, lt))

-- one item more
pub take_one_more : {A : Type 0} (xs : List A) (k : ℕ) (x : A) → slice_get xs k ≡ Some x → take (suc k) xs ≡ take k xs ++ x ∷ []
take_one_more [] k x at = cc
take_one_more (y ∷ ys) zero x at = cc
take_one_more (y ∷ ys) (suc k) x at = ap (λ (l : List _). y ∷ l) (take_one_more ys k x at)

abbrev pub deep_of : (most : ℕ) → Program → List Definition → List DeepBody
deep_of most p ds = map (deep_body most p) (filter (is_deep most) ds)

apart : (most : ℕ) (p : Program) (xs ys : List Definition) → deep_of most p (xs ++ ys) ≡ deep_of most p xs ++ deep_of most p ys
apart most p xs ys = ap (map (deep_body most p)) (filter-append (is_deep most) xs ys) ∙ map-append (deep_body most p) (filter (is_deep most) xs) (filter (is_deep most) ys)

-- one image more
pub noted : (most : ℕ) (p : Program) (k : ℕ) (d : Definition) (old new : List DeepBody) → slice_get p.images k ≡ Some d → old ≡ deep_of most p (take k p.images) → new ≡ old ++ deep_of most p (d ∷ []) → new ≡ deep_of most p (take (k + 1) p.images)
noted most p k d old new there before more =
    let next : k + 1 ≡ suc k = omega arith in
    let longer : take (k + 1) p.images ≡ take k p.images ++ d ∷ [] = ap (λ (n : ℕ). take n p.images) next ∙ take_one_more p.images k d there in
    more ∙ ap (λ l. l ++ deep_of most p (d ∷ [])) before ∙ sym (apart most p (take k p.images) (d ∷ [])) ∙ sym (ap (deep_of most p) longer)

-- the reason of an image, by its parts
pub reason_is : (most : ℕ) (d image : Definition) (r : Reason) (o n l m : Bool) → image ≡ d → o ≡ is_one_operator (tree_of image.body) → n ≡ is_long_name image.name → m ≡ has_deep_move most (tree_of image.body) → r ≡ first_reason o n l m
    → r ≡ first_reason (is_one_operator (tree_of d.body)) (is_long_name d.name) l (has_deep_move most (tree_of d.body))
reason_is most d image r o n l m same eo en em er =
    er ∙ ap (λ (b : Bool). first_reason b n l m) eo ∙ ap (λ (b : Bool). first_reason (is_one_operator (tree_of image.body)) b l m) en ∙ ap (λ (b : Bool). first_reason (is_one_operator (tree_of image.body)) (is_long_name image.name) l b) em
    ∙ ap (λ (i : Definition). first_reason (is_one_operator (tree_of i.body)) (is_long_name i.name) l (has_deep_move most (tree_of i.body))) same

-- an image that was added
pub pushed : (most : ℕ) (p : Program) (d : Definition) (b : DeepBody) (old new : List DeepBody) (l : Bool) → l ≡ lacks_room most p → b.name ≡ d.name → b.reason ≡ first_reason (is_one_operator (tree_of d.body)) (is_long_name d.name) l (has_deep_move most (tree_of d.body)) → is_deep most d ≡ true → new ≡ old ++ b ∷ [] → new ≡ old ++ deep_of most p (d ∷ [])
pushed most p d b old new l limit named why deep more =
    let reason : b.reason ≡ reason_of most p d = why ∙ ap (λ (v : Bool). first_reason (is_one_operator (tree_of d.body)) (is_long_name d.name) v (has_deep_move most (tree_of d.body))) limit in
    let one : b ≡ deep_body most p d = ap (λ (n : List ℕ). record { name = n; reason = b.reason }) named ∙ ap (λ (r : Reason). record { name = d.name; reason = r }) reason in
    let all : deep_of most p (d ∷ []) ≡ deep_body most p d ∷ [] = rw deep refl in
    more ∙ ap (λ (x : DeepBody). old ++ x ∷ []) one ∙ sym (ap (λ (x : List DeepBody). old ++ x) all)
