-- How many arrays a form has, and which is an image's first.
use Rattle.std.proofs.Common.{◌≡◌, ℕ, zero, suc, ◌+◌, ◌*◌, ◌<◌, ◌≤◌, Bool, true, false, List, [], ◌∷◌, length, take, map, Some, refl, sym, ap, subst, ◌∙◌, inl, inr, arith, length-append}
use Rattle.std.specs.Prelude.{slice_get, slice_index, slice_index_or, sum_by, if◌then◌else◌, nat_eq}
use Rattle.std.specs.List.{enumerate_from}
use Rattle.std.proofs.lemmas.List.Sums.{sum_by-cons}
use Rattle.std.proofs.lemmas.List.{get_or-map}
use Rattle.std.proofs.lemmas.Bool.{cases_lt}
use Rattle.std.proofs.lemmas.Option.{slice_get_within, slice_get-get_or}
use Rattle.std.proofs.Math.Nat.{le-mul_of_pos_right}
use Rattle.dk_base.specs.declared.TheConstants.{MAX_BUFFER_BITS}
use Rattle.dk_base.specs.declared.stencils.Image.{Image}
use Rattle.raster_delay.specs.Systems.{depth}
use Rattle.wiring.specs.declared.netlist.Shape.{Shape}
use Rattle.buffer_plan.specs.Plans.{Plan, IsPlan, place_in, ages_of, width_of, depth_of}
use Rattle.buffer_plan.proofs.Aged.{are_ages}
use Rattle.line_buffer.specs.Places as L
use Rattle.line_buffer.specs.Places.{Ascend, later, segment_shapes}
use Rattle.line_buffer.proofs.Rotations.{yes_eq, no_eq}
use Rattle.line_buffer.proofs.Ages.{later_ascends, later_depth}
use Rattle.circuit.specs.Taps.{Keeps}
use Rattle.circuit.specs.Splits.{split_ages}
use Rattle.circuit.specs.Forms.{Shapes, shapes_of, chain_shapes_of, block_shapes_of, ring_shapes_of}
use Rattle.circuit.proofs.Splitting.{split_finer}
use Rattle.circuit.proofs.Building.{place_of_entry, entry_kept, shapes_push}
use Rattle.circuit.proofs.Forming.{plan_depth, plan_wide}
use Rattle.circuit.proofs.Typing.{entry_or}

-- the arrays of the first images are no more than the bits of all
few_arrays : (shapes : Shapes) (plan : Plan) (deep : ℕ → ℕ) (n k : ℕ) (images : List Image) → ((j : ℕ) (i : Image) → slice_get images j ≡ Some i → length (shapes plan i.number) ≤ i.width * deep (n + j)) →
    length (shapes_of shapes plan (take k images)) ≤ sum_by (λ (x : ℕ × ℕ). x.1 * deep x.0) (enumerate_from n (map (λ (i : Image). i.width) images))
few_arrays shapes plan deep n zero images each = omega arith
few_arrays shapes plan deep n (suc k) [] each = omega arith
few_arrays shapes plan deep n (suc k) (i ∷ images) each =
    let here : length (shapes plan i.number) ≤ i.width * deep n = subst (λ (m : ℕ). length (shapes plan i.number) ≤ i.width * deep m) (let e : n + 0 ≡ n = omega arith in e) (each 0 i refl) in
    let rest = few_arrays shapes plan deep (n + 1) k images (λ j x at. subst (λ (m : ℕ). length (shapes plan x.number) ≤ x.width * deep m) (let e : n + suc j ≡ n + 1 + j = omega arith in e) (each (suc j) x at)) in
    let whole = sum_by-cons (λ (x : ℕ × ℕ). x.1 * deep x.0) (n, i.width) (enumerate_from (n + 1) (map (λ (j : Image). j.width) images)) in
    let parts = length-append (shapes plan i.number) (shapes_of shapes plan (take k images)) in
    omega (arith, here, rest, whole, parts)

-- so they are within the limit of bits
pub arrays_few : (shapes : Shapes) (plan : Plan) (k : ℕ) → IsPlan plan → ((g : ℕ) → Keeps plan g → length (shapes plan g) ≤ depth_of plan g) → length (shapes_of shapes plan (take k plan.system.stencils.images)) ≤ MAX_BUFFER_BITS
arrays_few shapes plan k is few =
    let images = plan.system.stencils.images in
    let none : Image = record { number = 0; width = 0 } in
    let all = few_arrays shapes plan (depth plan.system plan.delays) 0 k images (λ j i at.
    let kept : Keeps plan i.number = entry_kept images j i at in
    let there : place_in plan i.number ≡ j = place_of_entry images j i is.system.stencils.images.ascending at in
    let wide : width_of plan i.number ≡ i.width = ap (slice_index (map (λ (x : Image). x.width) images)) there ∙ get_or-map (λ (x : Image). x.width) images j none 0 (slice_get_within images j i at) ∙ ap (λ (x : Image). x.width) (entry_or images j i none at) in
    let some = plan_wide plan i.number (width_of plan i.number) is kept refl in
    let least = few i.number kept in
    let deep : depth_of plan i.number ≡ depth plan.system plan.delays (0 + j) = ap (depth plan.system plan.delays) (let e : place_in plan i.number ≡ 0 + j = omega (arith, there) in e) in
    let more : depth plan.system plan.delays (0 + j) ≤ depth plan.system plan.delays (0 + j) * i.width = le-mul_of_pos_right (depth plan.system plan.delays (0 + j)) (let h : 0 < i.width = (let s = some.0 in omega (arith, s, wide)) in h) in
    omega (arith, least, deep, more)) in
    let bits = is.within.few_bits in
    omega (arith, all, bits)

-- ages that ascend are no more than the last
ascend_long : (low : ℕ) (ages : List ℕ) → Ascend low ages → low + length ages ≤ L.last_of low ages
ascend_long low [] up = omega arith
ascend_long low (high ∷ ages) up = (let rest = ascend_long high ages up.1 in let first = up.0 in omega (arith, rest, first))

segments_long : (width low : ℕ) (ages : List ℕ) → length (segment_shapes width low ages) ≡ length ages
segments_long width low [] = refl
segments_long width low (high ∷ ages) = ap suc (segments_long width high ages)

pub chain_count : (plan : Plan) (g n : ℕ) → n ≡ length (later (ages_of plan g)) → n ≡ length (chain_shapes_of plan g)
chain_count plan g n e = e ∙ sym (segments_long (width_of plan g) 0 (later (ages_of plan g)))

pub chain_few : (plan : Plan) (g : ℕ) → length (chain_shapes_of plan g) ≤ depth_of plan g
chain_few plan g =
    let long = segments_long (width_of plan g) 0 (later (ages_of plan g)) in
    let least = ascend_long 0 (later (ages_of plan g)) (later_ascends (ages_of plan g) (are_ages plan g).ascending) in
    omega (arith, long, least, later_depth (ages_of plan g), plan_depth plan g)

pub block_count : (proposed : List (List ℕ)) (plan : Plan) (g n : ℕ) → n ≡ length (later (split_ages proposed plan g)) → n ≡ length (block_shapes_of proposed plan g)
block_count proposed plan g n e = e ∙ sym (segments_long (width_of plan g) 0 (later (split_ages proposed plan g)))

pub block_few : (proposed : List (List ℕ)) (plan : Plan) (g : ℕ) → length (block_shapes_of proposed plan g) ≤ depth_of plan g
block_few proposed plan g =
    let split : List ℕ = split_ages proposed plan g in
    let finer = split_finer proposed plan g in
    let long = segments_long (width_of plan g) 0 (later split) in
    let least = ascend_long 0 (later split) (later_ascends split finer.ascending) in
    omega (arith, long, least, later_depth split, finer.last, plan_depth plan g)

pub ring_long : (plan : Plan) (g : ℕ) → length (ring_shapes_of plan g) ≡ (if nat_eq (depth_of plan g) 0 then 0 else 1)
ring_long plan g = by (nat_eq (L.depth_of (ages_of plan g)) 0) ∙ ap (λ (d : ℕ). if nat_eq d 0 then 0 else 1) (plan_depth plan g)
  where
    by : (t : Bool) → length (if t then [] else (let s : Shape = record { width = width_of plan g; depth = L.depth_of (ages_of plan g) } in s) ∷ []) ≡ (if t then 0 else 1)
    by true = refl
    by false = refl

pub ring_one : (plan : Plan) (g : ℕ) → 0 < depth_of plan g → 1 ≡ length (ring_shapes_of plan g)
ring_one plan g some = sym (ring_long plan g ∙ ap (λ (h : Bool). if h then 0 else 1) (no_eq (depth_of plan g) 0 (λ e. omega (arith, e, some))))

pub ring_none : (plan : Plan) (g : ℕ) → depth_of plan g ≡ 0 → 0 ≡ length (ring_shapes_of plan g)
ring_none plan g none = sym (ring_long plan g ∙ ap (λ (h : Bool). if h then 0 else 1) (yes_eq (depth_of plan g) 0 none))

pub ring_few : (plan : Plan) (g : ℕ) → length (ring_shapes_of plan g) ≤ depth_of plan g
ring_few plan g = elim (cases_lt 0 (depth_of plan g)) as (λ _. length (ring_shapes_of plan g) ≤ depth_of plan g) [
  | inl some ↦ omega (arith, some, ring_one plan g some)
  | inr none ↦ (let e : depth_of plan g ≡ 0 = omega (arith, none) in omega (arith, ring_none plan g e))
]

-- the image at k, of which the arrays are counted next
pub next_kept_image : (plan : Plan) (xs : List Image) (k g : ℕ) (d : Image) → xs ≡ plan.system.stencils.images → Keeps plan g → k < place_in plan g → Keeps plan (slice_index_or xs k d).number
next_kept_image plan xs k g d same kept lt =
    subst (λ (ys : List Image). Keeps plan (slice_index_or ys k d).number) (sym same)
    (entry_kept plan.system.stencils.images k (slice_index_or plan.system.stencils.images k d) (slice_get-get_or plan.system.stencils.images k d (let within : place_in plan g < length plan.system.stencils.images = kept in omega (arith, lt, within))))

pub next_count : (shapes : Shapes) (plan : Plan) (xs : List Image) (k g first more : ℕ) (d : Image) → xs ≡ plan.system.stencils.images → Keeps plan g → k < place_in plan g → first ≡ length (shapes_of shapes plan (take k plan.system.stencils.images)) → more ≡ length (shapes plan (slice_index_or xs k d).number) →
    first + more ≡ length (shapes_of shapes plan (take (k + 1) plan.system.stencils.images))
next_count shapes plan xs k g first more d same kept lt so_far next =
    let images = plan.system.stencils.images in
    let i : Image = slice_index_or images k d in
    let at : slice_get images k ≡ Some i = slice_get-get_or images k d (let within : place_in plan g < length images = kept in omega (arith, lt, within)) in
    let here : more ≡ length (shapes plan i.number) = next ∙ ap (λ (ys : List Image). length (shapes plan (slice_index_or ys k d).number)) same in
    let push = ap length (shapes_push shapes plan images k i at) in
    let parts = length-append (shapes_of shapes plan (take k images)) (shapes plan i.number) in
    let step : length (shapes_of shapes plan (take (suc k) images)) ≡ length (shapes_of shapes plan (take (k + 1) images)) = ap (λ (n : ℕ). length (shapes_of shapes plan (take n images))) (let e : suc k ≡ k + 1 = omega arith in e) in
    omega (arith, so_far, here, push, parts, step)
