-- The frames of the outputs.
use Rattle.std.proofs.Common.{◌≡◌, ◌≢◌, ℕ, zero, suc, ◌+◌, ◌*◌, ◌/◌, ◌%◌, ◌^◌, ◌<◌, ◌≤◌, List, [], ◌∷◌, ◌++◌, length, map, take, get_or, ℤ, pos, unsigned_abs, Some, slice_get, refl, ap, sym, ◌∙◌, subst, arith, inl, inr, mul_comm, if◌then◌else◌}
use Rattle.std.specs.List.{All}
use Rattle.std.proofs.Math.Nat.{mod-lt, div-add-mod, mul-le-mul_right}
use Rattle.std.proofs.lemmas.Bool.{cases_lt}
use Rattle.std.proofs.Math.Pow.{pow_mono}
use Rattle.std.proofs.lemmas.Int.{ints}
use Rattle.std.proofs.lemmas.List.{length-map, take_more, map-append, get_or-map, get_or_default}
use Rattle.std.proofs.lemmas.Nat.{mul-add-lt}
use Rattle.std.proofs.lemmas.Option.{slice_get_within, get_or_from_slice_get}
use Rattle.dk_base.specs.declared.ty.Ty.{Ty}
use Rattle.dk_base.specs.declared.ty.Ty.TheVariants.{Unsigned, Signed}
use Rattle.dk_base.specs.Types.{IsIn}
use Rattle.dk_base.specs.Frames.{Size, area, Picture, raster}
use Rattle.dk_base.proofs.Rasters.{inside, raster_is}
use Rattle.dk_base.specs.Stencils.{IsDistinct}
use Rattle.dk_base.specs.Types.{IsPort}
use Rattle.pointwise_ir.specs.Programs.{Program, IsProgram, types_of}
use Rattle.dk_base.specs.Frames.{picture_at}
use Rattle.pointwise_eval.specs.declared.plane.Plane.{Plane}
use Rattle.dk_frames.specs.declared.frame.Frame.{Frame}
use Rattle.pointwise_eval.specs.Planes.{values_of, shown, all_shown, IsSample, IsWhole, ShowsNeeded, IsOutputPlane}
use Rattle.pointwise_eval.specs.Rounds.{frame_of}
use Rattle.pointwise_eval.specs.Needs.{AreNeeds, image_count}

shown_entry : (size : Size) (planes : List Plane) (g : ℕ) (q : Plane) → slice_get planes g ≡ Some q → picture_at (all_shown size planes) g ≡ shown size (values_of q)
shown_entry size [] g q is = absurd (let e : ⊥ = cc in e)
shown_entry size (p ∷ planes) zero q is = let e : p ≡ q = cc in ap (λ (r : Plane). shown size (values_of r)) e
shown_entry size (p ∷ planes) (suc g) q is = shown_entry size planes g q is

-- the picture of values at a pixel
shown_pixel : (size : Size) (values : List ℤ) (x y : ℕ) → x < size.width → y < size.height → shown size values (pos x) (pos y) ≡ get_or values (y * size.width + x) (pos 0)
shown_pixel size values x y p q = ap (λ b. if b then get_or values (y * size.width + x) (pos 0) else pos 0) (inside size x y p q)

-- column and row of a value
record IsPlace (size : Size) (k : ℕ) : Type 0 where
  column : k % size.width < size.width
  row : k / size.width < size.height
  place : k / size.width * size.width + k % size.width ≡ k

place_is : (size : Size) (k : ℕ) → k < area size → IsPlace size k
place_is size k lt =
    let some : 0 < size.width = positive size.width lt in
    let column = mod-lt k some in
    let e : k / size.width * size.width + k % size.width ≡ k = turned (size.width) (div-add-mod k size.width) in
    record { column = column; row = fewer size.width (k / size.width) (k % size.width) size.height (let h : k / size.width * size.width + k % size.width < size.width * size.height = rw e lt in h); place = e }
  where
    positive : (w : ℕ) → k < w * size.height → 0 < w
    positive zero h = absurd (omega (arith, h))
    positive (suc w) h = omega arith

    turned : (w : ℕ) → w * (k / w) + k % w ≡ k → k / w * w + k % w ≡ k
    turned w h = omega (arith, h)

    fewer : (w q r n : ℕ) → q * w + r < w * n → q < n
    fewer w q r n h = elim (cases_lt q n) [
      | inl low ↦ low
      | inr high ↦
          let few : n * w ≤ q * w = mul-le-mul_right w high in
          let turn : w * n ≡ n * w = mul_comm w n in
          absurd (omega (arith, few, turn, h))
    ]

port_range : (t : Ty) (v : ℤ) → IsPort t → IsIn t v → IsSample v
port_range (Unsigned n) v port is =
    let top : 2 ^ n ≤ 2 ^ 16 = pow_mono port.1 in
    let l = is.least in let g = is.greatest in
    (omega (arith, ints, l), omega (arith, ints, g, top))
port_range (Signed n) v port is = absurd port

plane_is : (size : Size) (planes : List Plane) (g : ℕ) (q : Plane) → (w : IsWhole size planes g) → q ≡ get_or planes g q → w.plane ≡ q
plane_is size planes g q w is = sym (is ∙ get_or_from_slice_get planes g w.plane q w.there)

-- the values of an output are samples
pub output_range : (size : Size) (planes : List Plane) (g : ℕ) (q : Plane) → IsOutputPlane size planes g → q ≡ get_or planes g q → All IsSample (values_of q)
output_range size planes g q out is = subst (λ (r : Plane). All IsSample (values_of r)) (plane_is size planes g q out.whole is) (λ k d lt.
    let values = values_of out.whole.plane in
    let at = place_is size k (let h : k < area size = (let e = out.whole.whole in omega (arith, lt, e)) in h) in
    let same : picture_at (all_shown size planes) g (pos (k % size.width)) (pos (k / size.width)) ≡ get_or values k d =
    ap (λ (r : Picture). r (pos (k % size.width)) (pos (k / size.width))) (shown_entry size planes g out.whole.plane out.whole.there)
    ∙ shown_pixel size values (k % size.width) (k / size.width) at.column at.row ∙ ap (λ i. get_or values i (pos 0)) at.place ∙ get_or_default values k (pos 0) d lt in
    subst IsSample same (port_range out.ty _ out.port (out.values (pos (k % size.width)) (pos (k / size.width)))))

-- they are the pixels of its picture in raster order
pub output_is : (size : Size) (planes : List Plane) (g : ℕ) (q : Plane) → IsOutputPlane size planes g → q ≡ get_or planes g q → map unsigned_abs (values_of q) ≡ raster size (picture_at (all_shown size planes) g)
output_is size planes g q out is =
    let values = values_of out.whole.plane in
    let whole = out.whole.whole in
    let pixels = raster_is size (picture_at (all_shown size planes) g) (map unsigned_abs values) (length-map values unsigned_abs ∙ whole) (λ x y p r.
    let within : y * size.width + x < length values = rw whole (mul-add-lt y size.width x size.height r p) in
    ap (λ (s : Picture). unsigned_abs (s (pos x) (pos y))) (shown_entry size planes g out.whole.plane out.whole.there)
    ∙ ap unsigned_abs (shown_pixel size values x y p r) ∙ sym (get_or-map unsigned_abs values (y * size.width + x) (pos 0) 0 within)) in
    sym (ap (λ (r : Plane). map unsigned_abs (values_of r)) (plane_is size planes g q out.whole is)) ∙ sym pixels

pub output_frame_is : (size : Size) (planes : List Plane) (g : ℕ) (q : Plane) (f : Frame) → IsOutputPlane size planes g → q ≡ get_or planes g q → f ≡ record { width = size.width; height = size.height; samples = map unsigned_abs (values_of q) } →
    f ≡ frame_of size (picture_at (all_shown size planes) g)
output_frame_is size planes g q f out is made = made ∙ ap (λ s. record { width = size.width; height = size.height; samples = s }) (output_is size planes g q out is)

-- one frame more
pub frames_more : {A B : Type 0} (F : A → B) (frames : List B) (outputs : List A) (i : ℕ) (d : A) (f : B) → i < length outputs → frames ≡ map F (take i outputs) → f ≡ F (get_or outputs i d) → frames ++ f ∷ [] ≡ map F (take (i + 1) outputs)
frames_more F frames outputs i d f lt are is =
    ap (λ fs. fs ++ f ∷ []) are ∙ ap (λ x. map F (take i outputs) ++ x ∷ []) is
    ∙ sym (map-append F (take i outputs) (get_or outputs i d ∷ [])) ∙ ap (map F) (sym (take_more outputs i d lt))

output_at : (p : Program) (known : List Picture) (until : List ℕ) (planes : List Plane) → IsProgram p → ShowsNeeded p.size (types_of p) known until (image_count p) planes → (k d : ℕ) → k < length p.outputs → get_or p.outputs k d < length planes
output_at p known until planes is shows k d lt =
    let within = slice_get_within (types_of p) (get_or p.outputs k d) (is.outputs k d lt).ty (is.outputs k d lt).there in
    let l = shows.one_each in omega (arith, within, l)

-- the planes of the outputs
pub outputs_there : (p : Program) (known : List Picture) (until : List ℕ) (planes : List Plane) → IsProgram p → AreNeeds p until → ShowsNeeded p.size (types_of p) known until (image_count p) planes → All (IsOutputPlane p.size planes) p.outputs
outputs_there p known until planes is needs shows k d lt =
    let out = is.outputs k d lt in
    record {
      whole = shows.whole (get_or p.outputs k d) (needs.outputs k d lt) (output_at p known until planes is shows k d lt);
      ty = out.ty;
      port = out.port;
      values = shows.values (get_or p.outputs k d) out.ty out.there;
    }

map_same : {A B : Type 0} (F G : A → B) (xs : List A) → ((k : ℕ) (d : A) → k < length xs → F (get_or xs k d) ≡ G (get_or xs k d)) → map F xs ≡ map G xs
map_same F G [] same = refl
map_same F G (x ∷ xs) same = ap (λ y. y ∷ map F xs) (same 0 x (omega arith)) ∙ ap (λ ys. G x ∷ ys) (map_same F G xs (λ k d lt. same (suc k) d (omega (arith, lt))))

-- their frames are those of the meaning
pub outputs_are : (p : Program) (known : List Picture) (until : List ℕ) (planes : List Plane) → IsProgram p → AreNeeds p until → ShowsNeeded p.size (types_of p) known until (image_count p) planes →
    map (λ g. frame_of p.size (picture_at (all_shown p.size planes) g)) p.outputs ≡ map (λ g. frame_of p.size (picture_at known g)) p.outputs
outputs_are p known until planes is needs shows = map_same _ _ p.outputs (λ k d lt.
    ap (frame_of p.size) (shows.pictures (get_or p.outputs k d) (needs.outputs k d lt) (output_at p known until planes is shows k d lt)))

-- the same, of what the code has in hand
pub frames_are : (p : Program) (known : List Picture) (until : List ℕ) (planes : List Plane) (size : Size) (outputs : List ℕ) (shows_of : List Plane) → IsProgram p → AreNeeds p until → ShowsNeeded p.size (types_of p) known until (image_count p) planes →
    size ≡ p.size → outputs ≡ p.outputs → shows_of ≡ planes → map (λ g. frame_of size (picture_at (all_shown size shows_of) g)) outputs ≡ map (λ g. frame_of p.size (picture_at known g)) p.outputs
frames_are p known until planes size outputs shows_of is needs shows same outs there =
    ap (λ s. map (λ g. frame_of s (picture_at (all_shown s shows_of) g)) outputs) same
    ∙ ap (λ ps. map (λ g. frame_of p.size (picture_at (all_shown p.size ps) g)) outputs) there
    ∙ ap (map (λ g. frame_of p.size (picture_at (all_shown p.size planes) g))) outs
    ∙ outputs_are p known until planes is needs shows

-- the plane that is taken is the one that was there
pub taken_is : (planes now : List Plane) (g : ℕ) (q : Plane) → slice_get now g ≡ Some q → slice_get now g ≡ slice_get planes g → q ≡ get_or planes g q
taken_is planes now g q there same = sym (get_or_from_slice_get planes g q q (sym same ∙ there))

pub taken_within : (size : Size) (planes now : List Plane) (g : ℕ) → IsOutputPlane size planes g → slice_get now g ≡ slice_get planes g → g < length now
taken_within size planes now g out same = slice_get_within now g out.whole.plane (same ∙ out.whole.there)

-- and the later ones are still there
pub others_there : (planes now next : List Plane) (outputs : List ℕ) (i : ℕ) → IsDistinct outputs → ((g : ℕ) → g ≢ get_or outputs i 0 → slice_get next g ≡ slice_get now g) →
    ((j : ℕ) → i ≤ j → j < length outputs → slice_get now (get_or outputs j 0) ≡ slice_get planes (get_or outputs j 0)) →
    (j : ℕ) → i + 1 ≤ j → j < length outputs → slice_get next (get_or outputs j 0) ≡ slice_get planes (get_or outputs j 0)
others_there planes now next outputs i distinct others there j more lt =
    let before : i < j = omega (arith, more) in
    let le : i ≤ j = omega (arith, more) in
    let ne : get_or outputs j 0 ≢ get_or outputs i 0 = λ e. distinct i j before lt (sym e) in
    others (get_or outputs j 0) ne ∙ there j le lt
