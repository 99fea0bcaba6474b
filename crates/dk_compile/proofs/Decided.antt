-- Whether an expression reads a pixel, and whether a program's image reads another one so.
use Rattle.std.proofs.Common.{◌≡◌, ℕ, zero, suc, ◌+◌, ◌-◌, ◌<◌, ◌≤◌, ℤ, pos, negsuc, ◌+ℤ◌, ◌-ℤ◌, ◌<ℤ◌, ◌⊎◌, inl, inr, List, ◌++◌, map, take, length, slice_get, slice_index_or, Some, refl, subst, arith}
use Rattle.std.specs.Prelude.{IsTrue, Contains}
use Rattle.std.proofs.lemmas.Bool.{cases_lt}
use Rattle.std.proofs.lemmas.Int.{ints}
use Rattle.std.proofs.lemmas.Option.{slice_get_within}
use Rattle.dk_base.specs.declared.ty.Ty.{Ty}
use Rattle.dk_base.specs.Frames.{Size, in_frame, is_below, clamped}
use Rattle.dk_base.proofs.Unclamped.{ends_here, is_inside}
use Rattle.dk_base.specs.Stencils.{IsOffset}
use Rattle.dk_base.proofs.Rasters.{below_is, inside_is, inside}
use Rattle.dk_types.specs.Typed.{Definition, Typing, image_type, input_types}
use Rattle.dk_types.specs.Kept.{IsTyped}
use Rattle.dk_types.specs.Reads.{IsDefinitionOf, IsLive, IsKept}
use Rattle.dk_types.specs.Reads as T
use Rattle.pointwise_ir.specs.declared.expr.Edge.{Edge}
use Rattle.pointwise_ir.specs.declared.expr.Edge.TheVariants.{Zero, Clamp}
use Rattle.pointwise_ir.specs.Trees.{Tree, constant, read, shifted, unary, binary, select, convert, scale}
use Rattle.pointwise_ir.specs.Typing.{HasType}
use Rattle.pointwise_ir.specs.Reads.{EndsAt, Reads}
use Rattle.dk_inline.specs.Inlined.{inlined_body, substitutes}
use Rattle.dk_inline.proofs.Followed.{image_at, body_reads_same}
use Rattle.dk_inline.proofs.Substituted.{earlier}
use Rattle.dk_inline.proofs.Welltyped.{typed_at}
use Rattle.dk_inline.proofs.Kept.{kept_stay}
use Rattle.stencil_sets.proofs.Stenciled.{in_frame_is, read_inside, offset_inside}
use Rattle.dk_compile.proofs.Searches.{Settled, both, all_three, one_of, settled_as, same_number, same_integer, is_so, some_below}

ends_or_not : (size : Size) (edge : Edge) (x y u v : ℤ) → Settled (EndsAt size edge x y u v)
ends_or_not size Zero x y u v = both (both (same_integer u x) (is_so (is_below x size.width))) (both (same_integer v y) (is_so (is_below y size.height)))
ends_or_not size Clamp x y u v = both (same_integer u (clamped size.width x)) (same_integer v (clamped size.height y))

-- after a step, which ends at one point at most
stepped_or_not : (size : Size) (edge : Edge) (a : Tree) (x y : ℤ) (g : ℕ) (u v : ℤ) → ((w z : ℤ) → Settled (Reads size a w z g u v)) → Settled ((w : ℤ) × (z : ℤ) × EndsAt size edge x y w z × Reads size a w z g u v)
stepped_or_not size Zero a x y g u v settled =
    settled_as (λ h. (x, y, ends_here size x y h.0, h.1))
    (λ h. (is_inside size x y h.0 h.1 h.2, let P : ℤ → Type 0 = λ w. Reads size a w h.1 g u v in let Q : ℤ → Type 0 = λ z. Reads size a x z g u v in subst Q h.2.1.0 (subst P h.2.0.0 h.3)))
    (both (is_so (in_frame size x y)) (settled x y))
stepped_or_not size Clamp a x y g u v settled =
    settled_as (λ h. (clamped size.width x, clamped size.height y, (refl, refl), h))
    (λ h. let P : ℤ → Type 0 = λ w. Reads size a w h.1 g u v in let Q : ℤ → Type 0 = λ z. Reads size a (clamped size.width x) z g u v in subst Q h.2.1 (subst P h.2.0 h.3))
    (settled (clamped size.width x) (clamped size.height y))

reads_or_not : (size : Size) (e : Tree) (x y : ℤ) (g : ℕ) (u v : ℤ) → Settled (Reads size e x y g u v)
reads_or_not size (constant c t) x y g u v = inr (λ h. h)
reads_or_not size (read edge h dx dy) x y g u v = both (same_number g h) (ends_or_not size edge (x +ℤ dx) (y +ℤ dy) u v)
reads_or_not size (shifted edge dx dy a) x y g u v = stepped_or_not size edge a (x +ℤ dx) (y +ℤ dy) g u v (λ w z. reads_or_not size a w z g u v)
reads_or_not size (unary op a) x y g u v = reads_or_not size a x y g u v
reads_or_not size (binary op a b) x y g u v = one_of (reads_or_not size a x y g u v) (reads_or_not size b x y g u v)
reads_or_not size (select c a b) x y g u v = one_of (reads_or_not size c x y g u v) (one_of (reads_or_not size a x y g u v) (reads_or_not size b x y g u v))
reads_or_not size (convert how a t) x y g u v = reads_or_not size a x y g u v
reads_or_not size (scale op a k) x y g u v = reads_or_not size a x y g u v

-- in some pixel of the frame
somewhere_or_not : (size : Size) (e : Tree) (g : ℕ) (dx dy : ℤ) → Settled ((x : ℤ) × (y : ℤ) × IsTrue (in_frame size x y) × Reads size e x y g (x +ℤ dx) (y +ℤ dy))
somewhere_or_not size e g dx dy = settled_as
    (λ h. (pos h.2.0, pos h.0, inside size h.2.0 h.0 h.2.1 h.1, h.2.2))
    (λ h.
    let parts = inside_is size h.0 h.1 h.2 in
    let across = below_is h.0 size.width parts.0 in
    let down = below_is h.1 size.height parts.1 in
    let P : ℤ → Type 0 = λ x. Reads size e x h.1 g (x +ℤ dx) (h.1 +ℤ dy) in
    let Q : ℤ → Type 0 = λ y. Reads size e (pos across.0) y g (pos across.0 +ℤ dx) (y +ℤ dy) in
    (down.0, down.2, (across.0, across.2, subst Q down.1 (subst P across.1 h.3))))
    (some_below size.height (λ y. (x : ℕ) × (x < size.width) × Reads size e (pos x) (pos y) g (pos x +ℤ dx) (pos y +ℤ dy)) (λ y lt. some_below size.width (λ x. Reads size e (pos x) (pos y) g (pos x +ℤ dx) (pos y +ℤ dy)) (λ x less. reads_or_not size e (pos x) (pos y) g (pos x +ℤ dx) (pos y +ℤ dy))))

-- an expression reads images that have types
read_typed : (ts : List Ty) (size : Size) (e : Tree) (t : Ty) → HasType ts e t → (x y : ℤ) (g : ℕ) (u v : ℤ) → Reads size e x y g u v → g < length ts
read_typed ts size (constant c s) t h x y g u v r = absurd r
read_typed ts size (read edge i dx dy) t h x y g u v r = let lt = slice_get_within ts i t h in let same = r.0 in omega (arith, lt, same)
read_typed ts size (shifted edge dx dy a) t h x y g u v r = read_typed ts size a t h r.0 r.1 g u v r.3
read_typed ts size (unary op a) t h x y g u v r = read_typed ts size a h.0 h.1 x y g u v r
read_typed ts size (binary op a b) t h x y g u v (inl r) = read_typed ts size a h.0 h.2 x y g u v r
read_typed ts size (binary op a b) t h x y g u v (inr r) = read_typed ts size b h.1 h.3 x y g u v r
read_typed ts size (select c a b) t h x y g u v (inl r) = read_typed ts size c h.0 h.3 x y g u v r
read_typed ts size (select c a b) t h x y g u v (inr (inl r)) = read_typed ts size a h.1 h.4 x y g u v r
read_typed ts size (select c a b) t h x y g u v (inr (inr r)) = read_typed ts size b h.2 h.5 x y g u v r
read_typed ts size (convert how a s) t h x y g u v r = read_typed ts size a h.2 h.3 x y g u v r
read_typed ts size (scale op a k) t h x y g u v r = read_typed ts size a h.0 h.1 x y g u v r

-- the offset of place k, of those from one frame's side to the left on
abbrev pub offset_at : (side k : ℕ) → ℤ
offset_at side k = pos k -ℤ pos side

pub offset_place : (side : ℕ) (d : ℤ) → IsOffset side d → (k : ℕ) × (k < side + side) × (d ≡ offset_at side k)
offset_place side (pos n) is = let h = is.high in (n + side, omega (arith, ints, h), omega (arith, ints))
offset_place side (negsuc n) is = let l = is.low in let less : n + 1 < side = omega (arith, ints, l) in (side - (n + 1), omega (arith, less), omega (arith, ints, less))

pub offsets_ascend : (side j k : ℕ) → j < k → offset_at side j <ℤ offset_at side k
offsets_ascend side j k lt = omega (arith, ints, lt)

module _ (p : Typing) (typed : IsTyped p) where
  abbrev image_count : ℕ
  image_count = length p.inputs + length p.definitions

  -- what a live read of a definition is
  definition_read : (f : ℕ) (d : Definition) → IsDefinitionOf p f d → (g : ℕ) (dx dy : ℤ) → IsLive p f g dx dy →
      (x : ℤ) × (y : ℤ) × IsTrue (in_frame p.size x y) × Reads p.size (inlined_body (substitutes p) d) x y g (x +ℤ dx) (y +ℤ dy)
  definition_read f d (k, here, there) g dx dy live =
      let (j, at, found) = live.is in
      let same : j ≡ k = omega (arith, here, at) in
      let A : ℕ → Type 0 = λ n. slice_get p.definitions n ≡ Some live.definition in
      let left = subst A same found in
      let one : live.definition ≡ d = cc in
      let x = live.x in
      let y = live.y in
      let Q : Definition → Type 0 = λ c. T.Reads p c.body x y g (x +ℤ dx) (y +ℤ dy) in
      (x, y, live.inside, (body_reads_same p typed k d there x y g (x +ℤ dx) (y +ℤ dy)).0 (subst Q one live.reads))

  read_live : (f : ℕ) (d : Definition) → IsDefinitionOf p f d → (g : ℕ) (dx dy : ℤ)
      → (x : ℤ) × (y : ℤ) × IsTrue (in_frame p.size x y) × Reads p.size (inlined_body (substitutes p) d) x y g (x +ℤ dx) (y +ℤ dy) → IsLive p f g dx dy
  read_live f d (k, here, there) g dx dy (x, y, inside, reads) = record {
    definition = d;
    is = (k, here, there);
    x = x;
    y = y;
    inside = inside;
    reads = (body_reads_same p typed k d there x y g (x +ℤ dx) (y +ℤ dy)).1 reads;
  }

  pub live_or_not : (f g : ℕ) (dx dy : ℤ) → Settled (IsLive p f g dx dy)
  live_or_not f g dx dy = elim (cases_lt f image_count) [
    | inr past ↦ inr (λ live.
        let (k, here, there) = live.is in
        let within = slice_get_within p.definitions k live.definition there in
        omega (arith, past, here, within))
    | inl within ↦ elim (image_at p f within) [
      | inl less ↦ inr (λ live. let (k, here, there) = live.is in omega (arith, less, here))
      | inr found ↦ settled_as (read_live f found.0 found.1 g dx dy) (definition_read f found.0 found.1 g dx dy) (somewhere_or_not p.size (inlined_body (substitutes p) found.0) g dx dy)
    ]
  ]

  -- a live read is of an earlier image, and within a frame of where it is made
  pub record IsBounded (f g : ℕ) (dx dy : ℤ) : Type 0 where
    pub reader : f < length p.inputs + length p.definitions
    pub source : g < f
    pub across : IsOffset p.size.width dx
    pub down : IsOffset p.size.height dy

  pub live_bounded : (f g : ℕ) (dx dy : ℤ) → IsLive p f g dx dy → IsBounded f g dx dy
  live_bounded f g dx dy live =
      let (k, here, there) = live.is in
      let d = live.definition in
      let (x, y, inside, reads) = definition_read f d live.is g dx dy live in
      let ts = input_types p.inputs ++ map image_type (take k p.definitions) in
      let low = read_typed ts p.size (inlined_body (substitutes p) d) (image_type d) (typed_at p typed k d there).0 x y g (x +ℤ dx) (y +ℤ dy) reads in
      let few = earlier p k in
      let within = slice_get_within p.definitions k d there in
      let first = in_frame_is p.size x y inside in
      let last = read_inside p.size typed.frame.some_columns typed.frame.some_rows (inlined_body (substitutes p) d) x y g (x +ℤ dx) (y +ℤ dy) reads in
      record {
        reader = omega (arith, here, within);
        source = omega (arith, low, few, here);
        across = offset_inside p.size.width x dx first.across last.across;
        down = offset_inside p.size.height y dy first.down last.down;
      }

  -- from one image to another, at some offset
  abbrev Reaches : (f g : ℕ) → Type 0
  Reaches f g = (j : ℕ) × (j < p.size.height + p.size.height) × ((i : ℕ) × (i < p.size.width + p.size.width) × IsLive p f g (offset_at p.size.width i) (offset_at p.size.height j))

  reaches_or_not : (f g : ℕ) → Settled (Reaches f g)
  reaches_or_not f g =
      some_below (p.size.height + p.size.height) (λ j. (i : ℕ) × (i < p.size.width + p.size.width) × IsLive p f g (offset_at p.size.width i) (offset_at p.size.height j))
      (λ j lt. some_below (p.size.width + p.size.width) (λ i. IsLive p f g (offset_at p.size.width i) (offset_at p.size.height j)) (λ i less. live_or_not f g (offset_at p.size.width i) (offset_at p.size.height j)))

  reaches : (f g : ℕ) (dx dy : ℤ) → IsLive p f g dx dy → Reaches f g
  reaches f g dx dy live =
      let is = live_bounded f g dx dy live in
      let (i, less, across) = offset_place p.size.width dx is.across in
      let (j, lt, down) = offset_place p.size.height dy is.down in
      let P : ℤ → Type 0 = λ x. IsLive p f g x dy in
      let Q : ℤ → Type 0 = λ y. IsLive p f g (offset_at p.size.width i) y in
      (j, lt, (i, less, subst Q down (subst P across live)))

  -- why an image is kept
  abbrev Why : ℕ → Type 0
  Why g = (g < length p.inputs) ⊎ (Contains p.outputs g ⊎ ((f : ℕ) × (f < image_count) × ((g < f) × IsKept p f × Reaches f g)))

  why_kept : (g : ℕ) → IsKept p g → Why g
  why_kept _ (T.input lt) = inl lt
  why_kept _ (T.output is) = inr (inl is)
  why_kept _ (T.reached {f = f} {g = g} {dx = dx} {dy = dy} kept live) =
      let is = live_bounded f g dx dy live in
      inr (inr (f, is.reader, (is.source, kept, reaches f g dx dy live)))

  kept_why : (g : ℕ) → Why g → IsKept p g
  kept_why g (inl lt) = T.input lt
  kept_why g (inr (inl is)) = T.output is
  kept_why g (inr (inr (f, within, (lt, kept, (j, low, (i, less, live)))))) = T.reached kept live

  output_or_not : (g : ℕ) → Settled (Contains p.outputs g)
  output_or_not g = some_below (length p.outputs) (λ k. slice_index_or p.outputs k g ≡ g) (λ k lt. same_number (slice_index_or p.outputs k g) g)

  below_or_not : (m n : ℕ) → Settled (m < n)
  below_or_not m n = elim (cases_lt m n) [ inl less ↦ inl less | inr most ↦ inr (λ lt. omega (arith, most, lt)) ]

  -- the last n images, from the last one down
  kept_from : (n g : ℕ) → image_count ≤ g + n → Settled (IsKept p g)
  kept_from zero g past = inr (λ is. elim (why_kept g is) [
    | inl lt ↦ omega (arith, past, lt)
    | inr more ↦ elim (kept_stay p typed g is) [
      | inl lt ↦ omega (arith, past, lt)
      | inr found ↦
          let here = found.2 in
          let within = slice_get_within p.definitions found.0 found.1 found.3 in
          omega (arith, past, here, within)
    ]
  ])
  kept_from (suc n) g past = settled_as (kept_why g) (why_kept g) (one_of (below_or_not g (length p.inputs)) (one_of (output_or_not g)
      (some_below image_count (λ f. (g < f) × IsKept p f × Reaches f g) (λ f within. elim (cases_lt g f) [
        | inl less ↦ all_three (inl less) (kept_from n f (omega (arith, past, less))) (reaches_or_not f g)
        | inr most ↦ inr (λ h. let lt = h.0 in omega (arith, most, lt))
      ]))))

  pub kept_or_not : (g : ℕ) → Settled (IsKept p g)
  kept_or_not g = kept_from image_count g (omega arith)
