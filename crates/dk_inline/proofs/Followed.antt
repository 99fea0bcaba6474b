-- An expression and its inlined form read the same pixels.
use Rattle.std.proofs.Common.{◌≡◌, ℕ, zero, suc, ◌+◌, ◌-◌, ◌<◌, ◌≤◌, List, ◌++◌, length, map, take, ℤ, ◌+ℤ◌, Option, Some, None, slice_get, refl, ap, sym, ◌∙◌, subst, arith, ◌⊎◌, inl, inr}
use Rattle.std.specs.Prelude.{Bool, true, false, if◌then◌else◌, ◌↔◌}
use Rattle.std.proofs.lemmas.Bool.{cases_lt}
use Rattle.std.proofs.lemmas.Option.{slice_get_within}
use Rattle.dk_base.specs.declared.ty.Ty.{Ty}
use Rattle.dk_base.specs.Frames.{Size}
use Rattle.dk_base.specs.Steps.{EndsAt}
use Rattle.dk_types.specs.declared.typed.TypedRead.{TypedRead}
use Rattle.dk_types.specs.Typed.{Typed, constant, fetch, single, double, scaled, converted, chosen, Definition, Typing, image_type, input_types}
use Rattle.dk_types.specs.Kept.{IsWell, IsTyped}
use Rattle.dk_types.specs.Reads.{Mentions, IsDefinitionOf, IsStored, Reads, directly, through}
use Rattle.pointwise_ir.specs.Trees.{Tree}
use Rattle.pointwise_ir.specs.Reads as R
use Rattle.dk_inline.specs.Inlined.{Substitute, itself, body, edge_of, read_of, inlined, declared_as, inlined_body, substitutes}
use Rattle.dk_inline.proofs.ListPlaces.{entry}
use Rattle.dk_inline.proofs.Substituted.{substitute_at, input, definition, well_at, earlier}

-- a step ends at the same point on both sides
ends_at : (size : Size) (c : Bool) (x y u v : ℤ) → EndsAt c size x y u v → R.EndsAt size (edge_of c) x y u v
ends_at size true x y u v h = h
ends_at size false x y u v h = h

ends_from : (size : Size) (c : Bool) (x y u v : ℤ) → R.EndsAt size (edge_of c) x y u v → EndsAt c size x y u v
ends_from size true x y u v h = h
ends_from size false x y u v h = h

-- a declared type changes no read
declared_reads : (size : Size) (t : Option Ty) (e : Tree) (x y : ℤ) (g : ℕ) (u v : ℤ) → R.Reads size (declared_as t e) x y g u v ↔ R.Reads size e x y g u v
declared_reads size None e x y g u v = (λ h. h, λ h. h)
declared_reads size (Some t) e x y g u v = (λ h. h, λ h. h)

-- the substitute of a read in the expression is read
mentioned : (size : Size) (known : List Substitute) (e : Typed) (r : TypedRead) (x y : ℤ) (g : ℕ) (u v : ℤ) → Mentions e r → R.Reads size (read_of (substitute_at known r.image) r) x y g u v → R.Reads size (inlined known e) x y g u v
mentioned size known (constant t c) r x y g u v m reads = absurd m
mentioned size known (fetch t s) r x y g u v m reads = let P : TypedRead → Type 0 = λ z. R.Reads size (read_of (substitute_at known z.image) z) x y g u v in subst P (sym m) reads
mentioned size known (single t o a) r x y g u v m reads = mentioned size known a r x y g u v m reads
mentioned size known (double t o a b) r x y g u v (inl m) reads = inl (mentioned size known a r x y g u v m reads)
mentioned size known (double t o a b) r x y g u v (inr m) reads = inr (mentioned size known b r x y g u v m reads)
mentioned size known (scaled t o a k) r x y g u v m reads = mentioned size known a r x y g u v m reads
mentioned size known (converted t o a) r x y g u v m reads = mentioned size known a r x y g u v m reads
mentioned size known (chosen t c a b) r x y g u v (inl m) reads = inl (mentioned size known c r x y g u v m reads)
mentioned size known (chosen t c a b) r x y g u v (inr (inl m)) reads = inr (inl (mentioned size known a r x y g u v m reads))
mentioned size known (chosen t c a b) r x y g u v (inr (inr m)) reads = inr (inr (mentioned size known b r x y g u v m reads))

-- a read of the expression through which the pixel is read
record IsThrough (size : Size) (known : List Substitute) (e : Typed) (x y : ℤ) (g : ℕ) (u v : ℤ) : Type 0 where
  pub by : TypedRead
  pub stands : Mentions e by
  pub reads : R.Reads size (read_of (substitute_at known by.image) by) x y g u v

mention : (size : Size) (known : List Substitute) (e : Typed) (x y : ℤ) (g : ℕ) (u v : ℤ) → R.Reads size (inlined known e) x y g u v → IsThrough size known e x y g u v
mention size known (constant t c) x y g u v reads = absurd reads
mention size known (fetch t s) x y g u v reads = record { by = s; stands = refl; reads = reads }
mention size known (single t o a) x y g u v reads = let h = mention size known a x y g u v reads in record { by = h.by; stands = h.stands; reads = h.reads }
mention size known (double t o a b) x y g u v (inl reads) = let h = mention size known a x y g u v reads in record { by = h.by; stands = inl h.stands; reads = h.reads }
mention size known (double t o a b) x y g u v (inr reads) = let h = mention size known b x y g u v reads in record { by = h.by; stands = inr h.stands; reads = h.reads }
mention size known (scaled t o a k) x y g u v reads = let h = mention size known a x y g u v reads in record { by = h.by; stands = h.stands; reads = h.reads }
mention size known (converted t o a) x y g u v reads = let h = mention size known a x y g u v reads in record { by = h.by; stands = h.stands; reads = h.reads }
mention size known (chosen t c a b) x y g u v (inl reads) = let h = mention size known c x y g u v reads in record { by = h.by; stands = inl h.stands; reads = h.reads }
mention size known (chosen t c a b) x y g u v (inr (inl reads)) = let h = mention size known a x y g u v reads in record { by = h.by; stands = inr (inl h.stands); reads = h.reads }
mention size known (chosen t c a b) x y g u v (inr (inr reads)) = let h = mention size known b x y g u v reads in record { by = h.by; stands = inr (inr h.stands); reads = h.reads }

-- the reads of an expression that is well typed are of the images with these types
mention_below : (ts : List Ty) (e : Typed) (r : TypedRead) → IsWell ts e → Mentions e r → r.image < length ts
mention_below ts (constant t c) r well m = absurd m
mention_below ts (fetch t s) r well m = let P : TypedRead → Type 0 = λ z. z.image < length ts in subst P m (slice_get_within ts s.image t well.image)
mention_below ts (single t o a) r well m = mention_below ts a r well.0 m
mention_below ts (double t o a b) r well (inl m) = mention_below ts a r well.0 m
mention_below ts (double t o a b) r well (inr m) = mention_below ts b r well.1 m
mention_below ts (scaled t o a k) r well m = mention_below ts a r well.0 m
mention_below ts (converted t o a) r well m = mention_below ts a r well.0 m
mention_below ts (chosen t c a b) r well (inl m) = mention_below ts c r well.0 m
mention_below ts (chosen t c a b) r well (inr (inl m)) = mention_below ts a r well.1 m
mention_below ts (chosen t c a b) r well (inr (inr m)) = mention_below ts b r well.2 m

-- an image is an input or a definition
pub image_at : (p : Typing) (g : ℕ) → g < length p.inputs + length p.definitions → (g < length p.inputs) ⊎ ((d : Definition) × IsDefinitionOf p g d)
image_at p g lt = elim (cases_lt g (length p.inputs)) [
  | inl less ↦ inl less
  | inr ge ↦
      let found = entry p.definitions (g - length p.inputs) (omega (arith, lt, ge)) in
      inr (found.0, (g - length p.inputs, omega (arith, ge), found.1))
]

module _ (p : Typing) (typed : IsTyped p) where
  stored_itself : (g : ℕ) → IsStored p g → substitute_at (substitutes p) g ≡ itself
  stored_itself g (inl lt) = input p g lt
  stored_itself g (inr (d, (k, here, there), off)) =
      ap (substitute_at (substitutes p)) here ∙ definition p typed k d there ∙ ap (λ b. if b then body (inlined_body (substitutes p) d) else itself) off

  inline_body : (g : ℕ) (d : Definition) → IsDefinitionOf p g d → d.inline ≡ true → substitute_at (substitutes p) g ≡ body (inlined_body (substitutes p) d)
  inline_body g d (k, here, there) on =
      ap (substitute_at (substitutes p)) here ∙ definition p typed k d there ∙ ap (λ b. if b then body (inlined_body (substitutes p) d) else itself) on

  forth : {e : Typed} {x y : ℤ} {g : ℕ} {u v : ℤ} → Reads p e x y g u v → R.Reads p.size (inlined (substitutes p) e) x y g u v
  forth {e} (directly r {x} {y} {x'} {y'} m steps stored) =
      let P : Substitute → Type 0 = λ s. R.Reads p.size (read_of s r) x y r.image x' y' in
      mentioned p.size (substitutes p) e r x y r.image x' y' m
      (subst P (sym (stored_itself r.image stored)) (refl, ends_at p.size r.clamped (x +ℤ r.dx) (y +ℤ r.dy) x' y' steps))
  forth {e} (through r d {g} {x} {y} {x'} {y'} u v m steps is on reads) =
      let P : Substitute → Type 0 = λ s. R.Reads p.size (read_of s r) x y g x' y' in
      let declared = (declared_reads p.size d.declared (inlined (substitutes p) d.body) u v g x' y').1 (forth reads) in
      mentioned p.size (substitutes p) e r x y g x' y' m
      (subst P (sym (inline_body r.image d is on)) (u, v, ends_at p.size r.clamped (x +ℤ r.dx) (y +ℤ r.dy) u v steps, declared))

  -- by a read of an image that is stored
  back_stored : (e : Typed) (r : TypedRead) (x y : ℤ) (g : ℕ) (u v : ℤ) → Mentions e r → R.Reads p.size (read_of (substitute_at (substitutes p) r.image) r) x y g u v → IsStored p r.image → Reads p e x y g u v
  back_stored e r x y g u v m reads stored =
      let P : Substitute → Type 0 = λ s. R.Reads p.size (read_of s r) x y g u v in
      let Q : ℕ → Type 0 = λ h. Reads p e x y h u v in
      let direct = subst P (stored_itself r.image stored) reads in
      subst Q (sym direct.0) (directly r m (ends_from p.size r.clamped (x +ℤ r.dx) (y +ℤ r.dy) u v direct.1) stored)

  -- by a read of an inline image, where the pixels that its body reads are known
  back_inline : (e : Typed) (r : TypedRead) (x y : ℤ) (g : ℕ) (u v : ℤ) → Mentions e r → R.Reads p.size (read_of (substitute_at (substitutes p) r.image) r) x y g u v → (d : Definition) → IsDefinitionOf p r.image d → d.inline ≡ true
      → ((w z : ℤ) → R.Reads p.size (inlined (substitutes p) d.body) w z g u v → Reads p d.body w z g u v) → Reads p e x y g u v
  back_inline e r x y g u v m reads d is on deeper =
      let P : Substitute → Type 0 = λ s. R.Reads p.size (read_of s r) x y g u v in
      let (w, z, ends, rest) = subst P (inline_body r.image d is on) reads in
      through r d w z m (ends_from p.size r.clamped (x +ℤ r.dx) (y +ℤ r.dy) w z ends) is on (deeper w z ((declared_reads p.size d.declared (inlined (substitutes p) d.body) w z g u v).0 rest))

  back_at : (e : Typed) (r : TypedRead) (x y : ℤ) (g : ℕ) (u v : ℤ) → Mentions e r → R.Reads p.size (read_of (substitute_at (substitutes p) r.image) r) x y g u v → r.image < length p.inputs + length p.definitions
      → ((d : Definition) → IsDefinitionOf p r.image d → (w z : ℤ) → R.Reads p.size (inlined (substitutes p) d.body) w z g u v → Reads p d.body w z g u v) → Reads p e x y g u v
  back_at e r x y g u v m reads lt deeper = elim (image_at p r.image lt) [
    | inl less ↦ back_stored e r x y g u v m reads (inl less)
    | inr found ↦ by found.0 found.1 found.0.inline refl
  ]
    where
      by : (d : Definition) → IsDefinitionOf p r.image d → (b : Bool) → d.inline ≡ b → Reads p e x y g u v
      by d is true on = back_inline e r x y g u v m reads d is on (deeper d is)
      by d is false off = back_stored e r x y g u v m reads (inr (d, is, off))

  -- a body reads images before its own
  earlier_reads : (g : ℕ) (d : Definition) → IsDefinitionOf p g d → (r : TypedRead) → Mentions d.body r → r.image < g
  earlier_reads g d (k, here, there) r m =
      let a = mention_below (input_types p.inputs ++ map image_type (take k p.definitions)) d.body r (well_at p typed k d there).0 m in
      let b = earlier p k in
      omega (arith, a, b, here)

  -- of an expression that reads only the first n images
  back : (n : ℕ) → n ≤ length p.inputs + length p.definitions → (e : Typed) → ((r : TypedRead) → Mentions e r → r.image < n) → (x y : ℤ) (g : ℕ) (u v : ℤ) → R.Reads p.size (inlined (substitutes p) e) x y g u v → Reads p e x y g u v
  back zero few e below x y g u v reads = let h = mention p.size (substitutes p) e x y g u v reads in absurd (let lt = below h.by h.stands in omega (arith, lt))
  back (suc n) few e below x y g u v reads =
      let h = mention p.size (substitutes p) e x y g u v reads in
      let lt = below h.by h.stands in
      let few' : n ≤ length p.inputs + length p.definitions = omega (arith, few) in
      let deeper = λ (d : Definition) (is : IsDefinitionOf p h.by.image d). back n few' d.body (λ r m. let less = earlier_reads h.by.image d is r m in omega (arith, less, lt)) in
      back_at e h.by x y g u v h.stands h.reads (omega (arith, lt, few)) (λ d is w z rest. deeper d is w z g u v rest)

  -- An expression over images that are there reads the same pixels as its inlined form.
  pub reads_same : (ts : List Ty) → length ts ≤ length p.inputs + length p.definitions → (e : Typed) → IsWell ts e → (x y : ℤ) (g : ℕ) (u v : ℤ) → Reads p e x y g u v ↔ R.Reads p.size (inlined (substitutes p) e) x y g u v
  reads_same ts few e well x y g u v = (λ h. forth h, back (length ts) few e (λ r m. mention_below ts e r well m) x y g u v)

  -- of a definition's body, with its declared type
  pub body_reads_same : (k : ℕ) (d : Definition) → slice_get p.definitions k ≡ Some d → (x y : ℤ) (g : ℕ) (u v : ℤ) → Reads p d.body x y g u v ↔ R.Reads p.size (inlined_body (substitutes p) d) x y g u v
  body_reads_same k d there x y g u v =
      let known = substitutes p in
      let within = slice_get_within p.definitions k d there in
      let b = earlier p k in
      let same = reads_same (input_types p.inputs ++ map image_type (take k p.definitions)) (omega (arith, within, b)) d.body (well_at p typed k d there).0 x y g u v in
      let declared = declared_reads p.size d.declared (inlined known d.body) x y g u v in
      (λ h. declared.1 (same.0 h), λ h. same.1 (declared.0 h))
