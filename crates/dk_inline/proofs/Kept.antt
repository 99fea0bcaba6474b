-- Inlining keeps the live reads of the images that stay, and the kept images.
use Rattle.std.proofs.Common.{◌≡◌, ℕ, zero, suc, ◌+◌, ◌<◌, List, [], ◌∷◌, length, map, ℤ, pos, ◌+ℤ◌, Some, slice_get, refl, ap, sym, ◌∙◌, subst, arith, inl, inr, length-append, add-zero}
use Rattle.std.specs.Prelude.{Bool, true, false, if◌then◌else◌, IsTrue, ◌↔◌, Contains, slice_index_or, nat_eq}
use Rattle.std.proofs.lemmas.Bool.{eq-eqb}
use Rattle.std.proofs.lemmas.List.{length-map}
use Rattle.std.proofs.lemmas.List.Folds.{list_any_at}
use Rattle.std.proofs.lemmas.Option.{slice_get_within}
use Rattle.dk_base.specs.declared.ty.Ty.{Ty}
use Rattle.dk_base.specs.Frames.{Size, in_frame}
use Rattle.dk_types.specs.declared.typed.TypedInput.{TypedInput}
use Rattle.dk_types.specs.Typed.{Typed, Definition, Typing, image_type, input_types, types_of}
use Rattle.dk_types.specs.Kept.{AreOutputsOf, IsTyped}
use Rattle.dk_types.specs.Reads.{IsStored, Reads, directly, through, IsLive, IsKept}
use Rattle.dk_types.specs.Reads as T
use Rattle.pointwise_ir.specs.declared.program.Input.{Input}
use Rattle.pointwise_ir.specs.Trees.{Tree, constant}
use Rattle.pointwise_ir.specs.Programs.{Program, bodies_of}
use Rattle.pointwise_ir.specs.Reads as R
use Rattle.dk_inline.specs.Inlined.{inlined_body, substitutes, is_output, stays, body_of, bodies_from, Stays}
use Rattle.dk_inline.specs.Answers.{IsInlining}
use Rattle.dk_inline.proofs.Followed.{image_at, body_reads_same}

-- what is read is stored
read_stored : (p : Typing) → {e : Typed} {x y : ℤ} {g : ℕ} {u v : ℤ} → Reads p e x y g u v → IsStored p g
read_stored p (directly r m steps stored) = stored
read_stored p (through r d u v m steps is on reads) = read_stored p reads

-- and stays
stored_stays : (p : Typing) (g : ℕ) → IsStored p g → Stays p g
stored_stays p g (inl lt) = inl lt
stored_stays p g (inr (d, (k, here, there), off)) = inr (k, d, here, there, ap (λ b. if b then is_output p (length p.inputs + k) else true) off)

-- an output is an image
output_within : (ts : List Ty) (gs : List ℕ) → AreOutputsOf ts gs → (k : ℕ) → k < length gs → (g : ℕ) → slice_index_or gs k g ≡ g → g < length ts
output_within ts [] are k lt g same = absurd (omega arith)
output_within ts (h ∷ gs) are zero lt g same = let P : ℕ → Type 0 = λ n. n < length ts in subst P same (slice_get_within ts h are.0.ty are.0.image)
output_within ts (h ∷ gs) are (suc k) lt g same = output_within ts gs are.1 k (omega (arith, lt)) g same

types_long : (p : Typing) → length (types_of p) ≡ length p.inputs + length p.definitions
types_long p =
    let a = length-append (input_types p.inputs) (map image_type p.definitions) in
    let b : length (input_types p.inputs) ≡ length p.inputs = length-map p.inputs _ in
    let c : length (map image_type p.definitions) ≡ length p.definitions = length-map p.definitions _ in
    omega (arith, a, b, c)

output_stays : (p : Typing) → IsTyped p → (g : ℕ) → Contains p.outputs g → Stays p g
output_stays p typed g (j, lt, same) =
    let within = output_within (types_of p) p.outputs typed.outputs j lt g same in
    elim (image_at p g (let l = types_long p in omega (arith, within, l))) [
      | inl less ↦ inl less
      | inr found ↦ inr (found.1.0, found.0, found.1.1, found.1.2, by found.0 found.1.0 found.1.1 found.0.inline)
    ]
  where
    is : is_output p g ≡ true
    is = list_any_at (λ o. nat_eq o g) p.outputs j g lt (eq-eqb (slice_index_or p.outputs j g) g same)

    by : (d : Definition) (k : ℕ) → g ≡ length p.inputs + k → (b : Bool) → (if b then is_output p (length p.inputs + k) else true) ≡ true
    by d k here true = ap (is_output p) (sym here) ∙ is
    by d k here false = refl

-- every kept image stays
pub kept_stay : (p : Typing) → IsTyped p → (g : ℕ) → IsKept p g → Stays p g
kept_stay p typed _ (T.input lt) = inl lt
kept_stay p typed _ (T.output {g} is) = output_stays p typed g is
kept_stay p typed _ (T.reached {g = g} kept live) = stored_stays p g (read_stored p live.reads)

-- the body at each place
body_at : (p : Typing) (j : ℕ) (ds : List Definition) (k : ℕ) (d : Definition) → slice_get ds k ≡ Some d → slice_get (bodies_from p j ds) k ≡ Some (body_of p (j + k) d)
body_at p j [] k d is = absurd (let no : ⊥ = cc in no)
body_at p j (c ∷ ds) zero d is =
    let same : c ≡ d = cc in
    ap Some (ap (λ n. body_of p n c) (sym (add-zero j)) ∙ ap (body_of p (j + zero)) same)
body_at p j (c ∷ ds) (suc k) d is =
    let more : suc j + k ≡ j + suc k = omega arith in
    body_at p (suc j) ds k d is ∙ ap (λ n. Some (body_of p n d)) more

module _ (p : Typing) (ir : Program) (typed : IsTyped p) (is : IsInlining p ir) where
  inputs_long : length ir.inputs ≡ length p.inputs
  inputs_long =
      let a : length (map (λ (i : Input). i.ty) ir.inputs) ≡ length ir.inputs = length-map ir.inputs _ in
      let b : length (map (λ (i : TypedInput). i.ty) p.inputs) ≡ length p.inputs = length-map p.inputs _ in
      sym a ∙ ap length is.inputs ∙ b

  -- the body of an image that stays
  staying_body : (k : ℕ) (d : Definition) → slice_get p.definitions k ≡ Some d → stays p k d ≡ true → slice_get (bodies_of ir) k ≡ Some (inlined_body (substitutes p) d)
  staying_body k d there stay =
      let from : zero + k ≡ k = omega arith in
      ap (λ bs. slice_get bs k) is.bodies ∙ body_at p 0 p.definitions k d there ∙ ap (λ n. Some (body_of p n d)) from
      ∙ ap (λ b. Some (if b then inlined_body (substitutes p) d else constant (pos 0) (image_type d))) stay

  live_before : (f g : ℕ) (dx dy : ℤ) → Stays p f → R.IsLive ir f g dx dy → IsLive p f g dx dy
  live_before f g dx dy (inl lt) (e, (k, here, listed), x, y, inside, reads) = absurd (let l = inputs_long in omega (arith, lt, here, l))
  live_before f g dx dy (inr (k, d, here, there, stay)) (e, (j, at, listed), x, y, inside, reads) =
      let same : j ≡ k = (let l = inputs_long in omega (arith, here, at, l)) in
      let A : ℕ → Type 0 = λ n. slice_get (bodies_of ir) n ≡ Some e in
      let left = subst A same listed in
      let right = staying_body k d there stay in
      let body : e ≡ inlined_body (substitutes p) d = cc in
      let S : Size → Type 0 = λ s. IsTrue (in_frame s x y) in
      let P : Size → Type 0 = λ s. R.Reads s e x y g (x +ℤ dx) (y +ℤ dy) in
      let Q : Tree → Type 0 = λ t. R.Reads p.size t x y g (x +ℤ dx) (y +ℤ dy) in
      record {
        definition = d;
        is = (k, here, there);
        x = x;
        y = y;
        inside = subst S is.size inside;
        reads = (body_reads_same p typed k d there x y g (x +ℤ dx) (y +ℤ dy)).1 (subst Q body (subst P is.size reads));
      }

  live_after : (f g : ℕ) (dx dy : ℤ) → Stays p f → IsLive p f g dx dy → R.IsLive ir f g dx dy
  live_after f g dx dy (inl lt) live = let (k, here, there) = live.is in absurd (omega (arith, lt, here))
  live_after f g dx dy (inr (k, d, here, there, stay)) live =
      let (j, at, found) = live.is in
      let same : j ≡ k = omega (arith, here, at) in
      let A : ℕ → Type 0 = λ n. slice_get p.definitions n ≡ Some live.definition in
      let left = subst A same found in
      let one : live.definition ≡ d = cc in
      let x = live.x in
      let y = live.y in
      let S : Size → Type 0 = λ s. IsTrue (in_frame s x y) in
      let P : Size → Type 0 = λ s. R.Reads s (inlined_body (substitutes p) d) x y g (x +ℤ dx) (y +ℤ dy) in
      let Q : Definition → Type 0 = λ c. Reads p c.body x y g (x +ℤ dx) (y +ℤ dy) in (
        inlined_body (substitutes p) d,
        (k, here ∙ ap (λ n. n + k) (sym inputs_long), staying_body k d there stay),
        x,
        y,
        subst S (sym is.size) live.inside,
        subst P (sym is.size) ((body_reads_same p typed k d there x y g (x +ℤ dx) (y +ℤ dy)).0 (subst Q one live.reads)),
      )

  pub live_same : (f g : ℕ) (dx dy : ℤ) → Stays p f → R.IsLive ir f g dx dy ↔ IsLive p f g dx dy
  live_same f g dx dy stay = (live_before f g dx dy stay, live_after f g dx dy stay)

  kept_before : (g : ℕ) → R.Kept ir g → IsKept p g
  kept_before _ (R.Kept.input g lt) = T.input (let l = inputs_long in omega (arith, lt, l))
  kept_before _ (R.Kept.output g listed) = let P : List ℕ → Type 0 = λ xs. Contains xs g in T.output (subst P is.outputs listed)
  kept_before _ (R.Kept.reached f g dx dy kept live) = let k = kept_before f kept in T.reached k (live_before f g dx dy (kept_stay p typed f k) live)

  kept_after : (g : ℕ) → IsKept p g → R.Kept ir g
  kept_after _ (T.input {g} lt) = R.Kept.input g (let l = inputs_long in omega (arith, lt, l))
  kept_after _ (T.output {g} listed) = let P : List ℕ → Type 0 = λ xs. Contains xs g in R.Kept.output g (subst P (sym is.outputs) listed)
  kept_after _ (T.reached {f} {g} {dx} {dy} kept live) = R.Kept.reached f g dx dy (kept_after f kept) (live_after f g dx dy (kept_stay p typed f kept) live)

  pub kept_same : (g : ℕ) → R.Kept ir g ↔ IsKept p g
  kept_same g = (kept_before g, kept_after g)
