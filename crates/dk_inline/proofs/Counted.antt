-- Counting before anything is substituted.
use Rattle.std.proofs.Common.{◌≡◌, ℕ, zero, suc, ◌+◌, ◌<◌, ◌≤◌, Bool, true, false, List, [], ◌∷◌, ◌++◌, length, take, drop, slice_get, slice_index_or, Option, Some, None, if◌then◌else◌, ap, sym, ◌∙◌, subst, arith, length-append, inl, inr}
use Rattle.std.proofs.Math.ListN.{get_or-append}
use Rattle.std.proofs.Math.Seq.{get_or-append_seam}
use Rattle.std.proofs.lemmas.Bool.{cases_lt}
use Rattle.std.proofs.lemmas.List.{get_or-take, length-map}
use Rattle.std.proofs.lemmas.Option.{slice_get-get_or, slice_get_within}
use Rattle.dk_types.specs.declared.typed.TypedDefinition.{TypedDefinition}
use Rattle.dk_types.specs.Typed.{Definition, definition_of, Typing, TypedProgram, typing_of}
use Rattle.dk_types.specs.Kept.{IsTyped}
use Rattle.pointwise_ir.specs.Trees.{Tree, depth_of}
use Rattle.pointwise_ir.proofs.Defined.{last_entry}
use Rattle.dk_inline.specs.declared.extent.InlinedSize.{InlinedSize}
use Rattle.dk_inline.specs.Inlined.{Substitute, itself, body, inlined_body, substitute_of, substitutes, stays}
use Rattle.dk_inline.specs.Nodes.{nodes_of, nodes_from, node_count, IsDeep, IsFirstDeep}
use Rattle.dk_inline.specs.Extents.{saturated, IsExtent, IsExtentOf, AreExtents, HaveExtents}
use Rattle.dk_inline.proofs.Substituted.{body_same, input, definition, well_at, earlier}
use Rattle.dk_inline.proofs.ListPlaces.{entry, past_end, none_left, length-taken}
use Rattle.dk_inline.proofs.Bodies.{entry_as}

below_saturated : (n : ℕ) → 1024 < n → 1024 < saturated n
below_saturated n h = omega (arith, h)

above_saturated : (n : ℕ) → 1024 < saturated n → 1024 < n
above_saturated n h = omega (arith, h)

-- too deep or not
pub deep_is : (p : Typing) (xs : List InlinedSize) (k : ℕ) (x : InlinedSize) → HaveExtents p xs → slice_get xs k ≡ Some x → (d : Definition) → slice_get p.definitions k ≡ Some d → stays p k d ≡ true → 1024 < x.depth → IsDeep p k d
deep_is p xs k x have at d is stay deep =
    let e = (have.each k d x is at).depth in
    record { at = is; stays = stay; deep = above_saturated (depth_of (inlined_body (substitutes p) d)) (omega (arith, e, deep)) }

pub deep_only : (p : Typing) (xs : List InlinedSize) (k : ℕ) (x : InlinedSize) → HaveExtents p xs → slice_get xs k ≡ Some x → (d : Definition) → IsDeep p k d → 1024 < x.depth
deep_only p xs k x have at d is =
    let e = (have.each k d x is.at at).depth in
    let lt = below_saturated (depth_of (inlined_body (substitutes p) d)) is.deep in
    omega (arith, e, lt)

-- one definition more in the sum
nodes_step : (p : Typing) (ds : List Definition) (n k : ℕ) (d : Definition) → slice_get ds k ≡ Some d →
    nodes_from p (n + k) (drop k ds) ≡ (if stays p (n + k) d then nodes_of (inlined_body (substitutes p) d) else 0) + nodes_from p (n + k + 1) (drop (suc k) ds)
nodes_step p [] n k d is = absurd (let f : ⊥ = cc in f)
nodes_step p (c ∷ ds) n zero d is =
    let same : c ≡ d = cc in
    let m : n + zero ≡ n = omega arith in
    let s : suc n ≡ n + zero + 1 = omega arith in
    ap (λ i. nodes_from p i (c ∷ ds)) m
    ∙ ap (λ e. (if stays p n e then nodes_of (inlined_body (substitutes p) e) else 0) + nodes_from p (suc n) ds) same
    ∙ ap (λ i. (if stays p i d then nodes_of (inlined_body (substitutes p) d) else 0) + nodes_from p (suc n) ds) (sym m)
    ∙ ap (λ i. (if stays p (n + zero) d then nodes_of (inlined_body (substitutes p) d) else 0) + nodes_from p i ds) s
nodes_step p (c ∷ ds) n (suc k) d is =
    let m : n + suc k ≡ suc n + k = omega arith in
    let P : ℕ → Type 0 = λ i. nodes_from p i (drop k ds) ≡ (if stays p i d then nodes_of (inlined_body (substitutes p) d) else 0) + nodes_from p (i + 1) (drop (suc k) ds) in
    subst P (sym m) (nodes_step p ds (suc n) k d is)

-- the count so far, with what is left, is the whole one
pub count_more : (p : Typing) (k count own : ℕ) (d : Definition) → slice_get p.definitions k ≡ Some d → own ≡ saturated (if stays p k d then nodes_of (inlined_body (substitutes p) d) else 0) →
    saturated (count + nodes_from p k (drop k p.definitions)) ≡ saturated (node_count p) →
    saturated (saturated (count + own) + nodes_from p (k + 1) (drop (k + 1) p.definitions)) ≡ saturated (node_count p)
count_more p k count own d is owned before =
    let zero_k : 0 + k ≡ k = omega arith in
    let P : ℕ → Type 0 = λ i. nodes_from p i (drop k p.definitions) ≡ (if stays p i d then nodes_of (inlined_body (substitutes p) d) else 0) + nodes_from p (i + 1) (drop (suc k) p.definitions) in
    let step = subst P zero_k (nodes_step p p.definitions 0 k d is) in
    let next : suc k ≡ k + 1 = omega arith in
    let same : nodes_from p (k + 1) (drop (suc k) p.definitions) ≡ nodes_from p (k + 1) (drop (k + 1) p.definitions) = ap (λ i. nodes_from p (k + 1) (drop i p.definitions)) next in
    sums count own (if stays p k d then nodes_of (inlined_body (substitutes p) d) else 0) (nodes_from p k (drop k p.definitions)) (nodes_from p (k + 1) (drop (k + 1) p.definitions)) (node_count p) owned (step ∙ ap (λ n. (if stays p k d then nodes_of (inlined_body (substitutes p) d) else 0) + n) same) before
  where
    sums : (count own exact left rest whole : ℕ) → own ≡ saturated exact → left ≡ exact + rest → saturated (count + left) ≡ saturated whole → saturated (saturated (count + own) + rest) ≡ saturated whole
    sums count own exact left rest whole a b c = omega (arith, a, b, c)

pub count_whole : (p : Typing) (k count : ℕ) → length p.definitions ≤ k → count ≤ 18446744073709551615 → saturated (count + nodes_from p k (drop k p.definitions)) ≡ saturated (node_count p) → count ≡ saturated (node_count p)
count_whole p k count past few is =
    let none : nodes_from p k (drop k p.definitions) ≡ 0 = ap (nodes_from p k) (none_left p.definitions k past) in
    omega (arith, none, few, is)

pub definition_count : (p : TypedProgram) → length (typing_of p).definitions ≡ length p.definitions
definition_count p = length-map p.definitions definition_of

-- the loop's step, with the entry that it is at
pub counted_more : (p : Typing) (xs : List InlinedSize) (k count own : ℕ) → HaveExtents p xs → k < length xs → ((d : Definition) → slice_get p.definitions k ≡ Some d → own ≡ saturated (if stays p k d then nodes_of (inlined_body (substitutes p) d) else 0)) →
    saturated (count + nodes_from p k (drop k p.definitions)) ≡ saturated (node_count p) →
    saturated (saturated (count + own) + nodes_from p (k + 1) (drop (k + 1) p.definitions)) ≡ saturated (node_count p)
counted_more p xs k count own have lt owned before =
    let n = have.long in
    let (d, is) = entry p.definitions k (omega (arith, lt, n)) in
    count_more p k count own d is (owned d is) before

-- the first that is too deep
pub first_is : (p : TypedProgram) (ds : List TypedDefinition) (k : ℕ) (t : TypedDefinition) (xs : List InlinedSize) → HaveExtents (typing_of p) xs → ds ≡ p.definitions → k < length xs → ((j : ℕ) (d : Definition) → j < k → IsDeep (typing_of p) j d → ⊥) → ((d : Definition) → slice_get (typing_of p).definitions k ≡ Some d → IsDeep (typing_of p) k d) →
    IsFirstDeep (typing_of p) (slice_index_or ds k t).name.span
first_is p ds k t xs have same lt before deep =
    let n = have.long in
    let m = definition_count p in
    let within : k < length p.definitions = omega (arith, lt, n, m) in
    let d = slice_index_or p.definitions k t in
    record {
      place = k;
      definition = definition_of d;
      is = deep (definition_of d) (entry_as p.definitions k d (slice_get-get_or p.definitions k t within));
      before = before;
      named = ap (λ zs. (slice_index_or zs k t).name.span) same;
    }

pub none_is : (p : Typing) (xs : List InlinedSize) (k : ℕ) → HaveExtents p xs → length xs ≤ k → ((j : ℕ) (d : Definition) → j < k → IsDeep p j d → ⊥) → (j : ℕ) (d : Definition) → IsDeep p j d → ⊥
none_is p xs k have past before j d is =
    let lt = slice_get_within p.definitions j d is.at in
    let n = have.long in
    before j d (omega (arith, lt, n, past)) is

-- what is in place of the inputs and the first k definitions
abbrev pub images_before : Typing → ℕ → List Substitute
images_before p k = take (length p.inputs + k) (substitutes p)

body_of_all : (p : Typing) → IsTyped p → (k : ℕ) (d : Definition) → slice_get p.definitions k ≡ Some d → inlined_body (images_before p k) d ≡ inlined_body (substitutes p) d
body_of_all p typed k d is =
    let n = earlier p k in
    body_same _ (images_before p k) (substitutes p) (λ g lt. get_or-take (length p.inputs + k) (substitutes p) g itself (omega (arith, lt, n))) d (well_at p typed k d is).0

extent_of_inline : (b : Bool) (x : InlinedSize) (e : Tree) → IsExtent x e → IsExtentOf (if b then Some x else None) (if b then body e else itself)
extent_of_inline true x e h = h
extent_of_inline false x e h = tt

same_extent : (x y : Option InlinedSize) (s t : Substitute) → x ≡ y → s ≡ t → IsExtentOf x s → IsExtentOf y t
same_extent x y s t a b h =
    let P : Option InlinedSize → Type 0 = λ z. IsExtentOf z s in
    let Q : Substitute → Type 0 = λ z. IsExtentOf y z in
    subst Q b (subst P a h)

-- one definition more
pub known_more : (p : Typing) → IsTyped p → (k : ℕ) (known : List (Option InlinedSize)) (x : InlinedSize) (d : Definition) → slice_get p.definitions k ≡ Some d → length known ≡ length p.inputs + k → AreExtents known (images_before p k) → IsExtent x (inlined_body (images_before p k) d) →
    AreExtents (known ++ (if d.inline then Some x else None) ∷ []) (images_before p (k + 1)) × IsExtent x (inlined_body (substitutes p) d)
known_more p typed k known x d is counted are extent = (more, own)
  where
    new : Option InlinedSize
    new = if d.inline then Some x else None

    own : IsExtent x (inlined_body (substitutes p) d)
    own = let P : Tree → Type 0 = λ e. IsExtent x e in subst P (body_of_all p typed k d is) extent

    size : length (known ++ new ∷ []) ≡ length known + 1
    size = length-append known (new ∷ [])

    more : AreExtents (known ++ new ∷ []) (images_before p (k + 1))
    more g = elim (cases_lt g (length known)) [
      | inl low ↦
          let lt : g < length p.inputs + k = omega (arith, low, counted) in
          let next : g < length p.inputs + (k + 1) = omega (arith, lt) in
          same_extent (slice_index_or known g None) _ (slice_index_or (images_before p k) g itself) _
          (sym (get_or-append known (new ∷ []) None g low))
          (get_or-take (length p.inputs + k) (substitutes p) g itself lt ∙ sym (get_or-take (length p.inputs + (k + 1)) (substitutes p) g itself next))
          (are g)
      | inr high ↦ elim (cases_lt (length known) g) [
        | inl above ↦
            let l = length-taken (length p.inputs + (k + 1)) (substitutes p) in
            let a : length (known ++ new ∷ []) ≤ g = omega (arith, size, above) in
            let b : length (images_before p (k + 1)) ≤ g = omega (arith, l, above, counted) in
            same_extent None _ itself _ (sym (past_end (known ++ new ∷ []) g None a)) (sym (past_end (images_before p (k + 1)) g itself b)) tt
        | inr at_most ↦
            let here : length known ≡ g = omega (arith, high, at_most) in
            let place : g ≡ length p.inputs + k = omega (arith, here, counted) in
            let next : g < length p.inputs + (k + 1) = omega (arith, place) in
            same_extent new _ (substitute_of (substitutes p) d) _
            (sym (get_or-append_seam known new [] None) ∙ ap (λ n. slice_index_or (known ++ new ∷ []) n None) here)
            (sym (definition p typed k d is) ∙ ap (λ n. slice_index_or (substitutes p) n itself) (sym place) ∙ sym (get_or-take (length p.inputs + (k + 1)) (substitutes p) g itself next))
            (extent_of_inline d.inline x (inlined_body (substitutes p) d) own)
      ]
    ]

-- before the first definition
pub known_first : (p : Typing) (known : List (Option InlinedSize)) → ((g : ℕ) → slice_index_or known g None ≡ None) → AreExtents known (images_before p 0)
known_first p known none g = elim (cases_lt g (length p.inputs)) [
  | inl low ↦
      let lt : g < length p.inputs + 0 = omega (arith, low) in
      same_extent None _ itself _ (sym (none g)) (sym (get_or-take (length p.inputs + 0) (substitutes p) g itself lt ∙ input p g low)) tt
  | inr high ↦
      let l = length-taken (length p.inputs + 0) (substitutes p) in
      same_extent None _ itself _ (sym (none g)) (sym (past_end (images_before p 0) g itself (omega (arith, l, high)))) tt
]

-- those that are there are of the definitions' bodies
abbrev pub HaveEach : Typing → List InlinedSize → Type 0
HaveEach p xs = (j : ℕ) (e : Definition) (y : InlinedSize) → slice_get p.definitions j ≡ Some e → slice_get xs j ≡ Some y → IsExtent y (inlined_body (substitutes p) e)

pub each_none : (p : Typing) (xs : List InlinedSize) → xs ≡ [] → HaveEach p xs
each_none p xs none j e y at there =
    let lt = slice_get_within xs j y there in
    let n : length xs ≡ 0 = ap length none in
    absurd (omega (arith, lt, n))

-- with one more
pub each_more : (p : Typing) (k : ℕ) (all : List InlinedSize) (x : InlinedSize) (d : Definition) → slice_get p.definitions k ≡ Some d → length all ≡ k → IsExtent x (inlined_body (substitutes p) d) →
    HaveEach p all → HaveEach p (all ++ x ∷ [])
each_more p k all x d at long own before j e y is there = elim (last_entry all x y j there) [
  | inl earlier ↦ before j e y is earlier
  | inr last ↦
      let here : slice_get p.definitions k ≡ Some e = ap (slice_get p.definitions) (sym long ∙ sym last.0) ∙ is in
      let same : d ≡ e = let some : Some d ≡ Some e = sym at ∙ here in cc in
      let P : InlinedSize → Type 0 = λ z. IsExtent z (inlined_body (substitutes p) d) in
      let Q : Definition → Type 0 = λ z. IsExtent y (inlined_body (substitutes p) z) in
      subst Q same (subst P last.1 own)
]
