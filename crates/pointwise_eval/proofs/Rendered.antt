-- The planes of all images, one after another.
use Rattle.std.proofs.Common.{◌≡◌, ◌≢◌, ℕ, zero, suc, ◌+◌, ◌-◌, ◌*◌, ◌<◌, ◌≤◌, Bool, true, false, List, [], ◌∷◌, ◌++◌, length, map, take, get_or, ℤ, pos, unsigned_abs, Some, slice_get, refl, ap, sym, ◌∙◌, subst, arith, inl, inr, append-nil, append_assoc, length-append, if◌then◌else◌}
use Rattle.std.specs.Prelude.{IsTrue, IfOk, Result, Ok, Err, Option, slice_index_or}
use Rattle.std.specs.List.{All}
use Rattle.std.specs.Option.{option_map}
use Rattle.std.proofs.Math.ListN.{get_or-append}
use Rattle.std.proofs.Math.Seq.{get_or-append_seam}
use Rattle.std.proofs.lemmas.Bool.{cases_lt, cases_eq}
use Rattle.std.proofs.lemmas.Int.{ints}
use Rattle.std.proofs.lemmas.Nat.{pow_pos}
use Rattle.std.proofs.lemmas.List.{length-map, take_more, map-append}
use Rattle.std.proofs.lemmas.Option.{slice_get_within, slice_get-map, get_or_from_slice_get}
use Rattle.dk_base.specs.declared.ty.Ty.{Ty}
use Rattle.dk_base.specs.declared.ty.Ty.TheVariants.{Unsigned, Signed}
use Rattle.dk_base.specs.Types.{IsType, IsIn, above}
use Rattle.dk_base.specs.Frames.{area, Size, in_frame, raster_number, Picture, picture_of}
use Rattle.dk_base.proofs.Rasters.{inside}
use Rattle.pointwise_ir.specs.declared.program.Input.{Input}
use Rattle.pointwise_ir.specs.declared.program.Definition.{Definition}
use Rattle.pointwise_ir.specs.Trees.{Tree, constant, read, shifted, unary, binary, select, convert, scale, tree_of, EachImage}
use Rattle.dk_base.specs.Types.{IsPort}
use Rattle.pointwise_ir.specs.Programs.{Program, IsProgram, all_types, bodies_of}
use Rattle.dk_base.specs.Frames.{framed, picture_at}
use Rattle.pointwise_ir.specs.Meaning.{value, pictures, IsPicture, IsRound}
use Rattle.pointwise_ir.proofs.Agreement.{Agree, framed_agrees, value_agrees, each_weaker}
use Rattle.pointwise_ir.proofs.Typed.{type_typed, zero_in, framed_in, value_in}
use Rattle.pointwise_ir.proofs.Defined.{last_entry, taken_types}
use Rattle.pointwise_ir.proofs.Pictured.{first_pictures, reads_earlier, picture_of_body, mapped_entry}
use Rattle.pointwise_eval.specs.declared.plane.Plane.{Plane}
use Rattle.dk_frames.specs.declared.frame.Frame.{Frame}
use Rattle.pointwise_eval.specs.declared.plane.Plane.TheVariants.{Gone}
use Rattle.pointwise_eval.specs.Planes.{values_of, shown, all_shown, IsWhole, IsByRows, HasRows, CanEvaluate, ArePixelsOf, IsPlaneOf, AreSameOrGone, ShowsNeeded}
use Rattle.pointwise_eval.specs.Rounds.{IsInputFrame, AreFrames, round_of}
use Rattle.pointwise_eval.specs.Needs.{IsNeeded, AreNeeds}

-- pictures with the same pixels at all points are one
pub same_picture : (p q : Picture) → Agree p q → p ≡ q
same_picture p q same i x y = same x y i

mapped_or : {A B : Type 0} (f : A → B) (xs : List A) (k : ℕ) (d : A) → get_or (map f xs) k (f d) ≡ f (get_or xs k d)
mapped_or f [] k d = refl
mapped_or f (x ∷ xs) zero d = refl
mapped_or f (x ∷ xs) (suc k) d = mapped_or f xs k d

-- the values of samples show the samples' picture
samples_shown : (size : Size) (samples : List ℕ) → shown size (map pos samples) ≡ picture_of size samples
samples_shown size samples = same_picture (shown size (map pos samples)) (picture_of size samples) (λ x y.
    ap (λ v. if in_frame size x y then v else pos 0) (mapped_or pos samples (unsigned_abs y * size.width + unsigned_abs x) 0))

-- the planes of frames show their pictures
pub frames_shown : (size : Size) (planes : List Plane) (frames : List Frame) → map values_of planes ≡ map (λ f. map pos f.samples) frames → all_shown size planes ≡ round_of size frames
frames_shown size [] [] same = refl
frames_shown size [] (f ∷ frames) same = absurd (let e : ⊥ = cc in e)
frames_shown size (p ∷ planes) [] same = absurd (let e : ⊥ = cc in e)
frames_shown size (p ∷ planes) (f ∷ frames) same =
    let head : values_of p ≡ map pos f.samples = cc in
    let tail : map values_of planes ≡ map (λ f. map pos f.samples) frames = cc in
    ap (λ q. q ∷ all_shown size planes) (ap (shown size) head ∙ samples_shown size f.samples) ∙ ap (λ qs. picture_of size f.samples ∷ qs) (frames_shown size planes frames tail)

-- the plane of a frame is as long as the frame's samples
plane_of_frame : (planes : List Plane) (frames : List Frame) → map values_of planes ≡ map (λ f. map pos f.samples) frames → (g : ℕ) → g < length planes →
    (p : Plane) × (f : Frame) × (slice_get planes g ≡ Some p) × (slice_get frames g ≡ Some f) × (length (values_of p) ≡ length f.samples)
plane_of_frame [] frames same g lt = absurd (omega arith)
plane_of_frame (p ∷ planes) [] same g lt = absurd (let e : ⊥ = cc in e)
plane_of_frame (p ∷ planes) (f ∷ frames) same zero lt =
    let head : values_of p ≡ map pos f.samples = cc in
    (p, f, refl, refl, ap length head ∙ length-map f.samples pos)
plane_of_frame (p ∷ planes) (f ∷ frames) same (suc g) lt =
    let tail : map values_of planes ≡ map (λ f. map pos f.samples) frames = cc in
    plane_of_frame planes frames tail g (omega (arith, lt))

-- a sample in the range of an input's type
sample_in : (t : Ty) (n : ℕ) → IsPort t → n < above t → IsIn t (pos n)
sample_in (Unsigned b) n port lt = record { least = omega (arith, ints); greatest = omega (arith, ints, lt) }
sample_in (Signed b) n port lt = absurd port

some_above : (t : Ty) → 0 < above t
some_above (Unsigned n) = pow_pos n
some_above (Signed n) = pow_pos (n - 1)

below_any : (t : Ty) (samples : List ℕ) → All (λ s. s < above t) samples → (k : ℕ) → get_or samples k 0 < above t
below_any t samples all k = elim (cases_lt k (length samples)) [
  | inl lt ↦ all k 0 lt
  | inr ge ↦ (let P : ℕ → Type 0 = λ n. n < above t in subst P (sym (past samples k ge)) (some_above t))
]
  where
    past : (xs : List ℕ) (k : ℕ) → length xs ≤ k → get_or xs k 0 ≡ 0
    past [] k ge = refl
    past (x ∷ xs) zero ge = absurd (omega arith)
    past (x ∷ xs) (suc k) ge = past xs k (omega (arith, ge))

-- the picture of a frame of an input
frame_picture : (size : Size) (t : Ty) (f : Frame) → IsPort t → IsInputFrame size t f → IsPicture size t (picture_of size f.samples)
frame_picture size t f port is = record {
  values = λ x y. chosen (in_frame size x y) (raster_number size (unsigned_abs x) (unsigned_abs y));
  outside = λ x y out. ap (λ b. if b then pos (get_or f.samples (raster_number size (unsigned_abs x) (unsigned_abs y)) 0) else pos 0) out;
}
  where
    chosen : (b : Bool) (k : ℕ) → IsIn t (if b then pos (get_or f.samples k 0) else pos 0)
    chosen true k = sample_in t (get_or f.samples k 0) port (below_any t f.samples is.values k)
    chosen false k = zero_in t

pub there_is : {A : Type 0} (xs : List A) (k : ℕ) → k < length xs → (x : A) × (slice_get xs k ≡ Some x)
there_is [] k lt = absurd (omega arith)
there_is (x ∷ xs) zero lt = (x, refl)
there_is (x ∷ xs) (suc k) lt = there_is xs k (omega (arith, lt))

picture_of_frame : (size : Size) (frames : List Frame) (k : ℕ) (f : Frame) → slice_get frames k ≡ Some f → picture_at (round_of size frames) k ≡ picture_of size f.samples
picture_of_frame size [] k f is = absurd (let e : ⊥ = cc in e)
picture_of_frame size (g ∷ frames) zero f is = let e : g ≡ f = cc in ap (λ (h : Frame). picture_of size h.samples) e
picture_of_frame size (g ∷ frames) (suc k) f is = picture_of_frame size frames k f is

-- frames that fit make a round
pub round_is : (p : Program) (frames : List Frame) → IsProgram p → AreFrames p frames → IsRound p (round_of p.size frames)
round_is p frames is are = record {
  one_each = length-map frames (λ f. picture_of p.size f.samples) ∙ are.one_each;
  pictures = λ k input there.
      let within = slice_get_within p.inputs k input there in
      let (f, here) = there_is frames k (let h : k < length frames = omega (arith, within, are.one_each) in h) in
      let port : IsPort input.ty = (let Q : Input → Type 0 = λ i. IsPort i.ty in subst Q (get_or_from_slice_get p.inputs k input input there) (is.inputs k input within)) in
      let P : Picture → Type 0 = λ q. IsPicture p.size input.ty q in
      subst P (sym (picture_of_frame p.size frames k f here)) (frame_picture p.size input.ty f port (are.each k f input here there));
}

pub same_entry : {A : Type 0} (xs : List A) (k : ℕ) (x y : A) → slice_get xs k ≡ Some x → slice_get xs k ≡ Some y → x ≡ y
same_entry xs k x y one other = sym (get_or_from_slice_get xs k x x one) ∙ get_or_from_slice_get xs k y x other

-- the planes of the inputs
pub shows_inputs : (p : Program) (frames : List Frame) (until : List ℕ) (n : ℕ) (planes : List Plane) → IsProgram p → AreFrames p frames → map values_of planes ≡ map (λ f. map pos f.samples) frames →
    ShowsNeeded p.size (all_types p.inputs []) (pictures p (round_of p.size frames)) until n planes
shows_inputs p frames until n planes is are same =
    let size = p.size in
    let round = round_of size frames in
    let types = map (λ (i : Input). i.ty) p.inputs in
    let shows : all_shown size planes ≡ round = frames_shown size planes frames same in
    let ok = round_is p frames is are in
    let as_many : length planes ≡ length p.inputs =
    sym (length-map planes values_of) ∙ ap length same ∙ length-map frames (λ f. map pos f.samples) ∙ are.one_each in
    record {
      one_each = as_many ∙ sym (length-map p.inputs (λ i. i.ty)) ∙ sym (ap length (append-nil types));
      values = λ g t there x y.
          let P : List Ty → Type 0 = λ ts. slice_get ts g ≡ Some t in
          let (i, input, e) = mapped_entry (λ (i : Input). i.ty) p.inputs g t (subst P (append-nil types) there) in
          let Q : List Picture → Type 0 = λ qs. IsIn t (picture_at qs g x y) in
          let R : Ty → Type 0 = λ u. IsIn u (picture_at round g x y) in
          subst Q (sym shows) (subst R e ((ok.pictures g i input).values x y));
      whole = λ g is_needed lt.
          let (q, f, here, there, long) = plane_of_frame planes frames same g lt in
          let (input, found) = there_is p.inputs g (let h : g < length p.inputs = omega (arith, lt, as_many) in h) in
          record { plane = q; there = here; whole = long ∙ (are.each g f input there found).whole };
      pictures = λ g is_needed lt.
          let few : g < length round = (let l = ok.one_each in omega (arith, lt, as_many, l)) in
          ap (λ qs. picture_at qs g) shows ∙ sym (first_pictures size (bodies_of p) round g few);
    }

each_both : (P Q : ℕ → Type 0) (e : Tree) → EachImage P e → EachImage Q e → EachImage (λ g. P g × Q g) e
each_both P Q (constant v t) h k = tt
each_both P Q (read edge g dx dy) h k = (h, k)
each_both P Q (shifted edge dx dy a) h k = each_both P Q a h k
each_both P Q (unary op a) h k = each_both P Q a h k
each_both P Q (binary op a b) h k = (each_both P Q a h.0 k.0, each_both P Q b h.1 k.1)
each_both P Q (select c a b) h k = (each_both P Q c h.0 k.0, each_both P Q a h.1 k.1, each_both P Q b h.2 k.2)
each_both P Q (convert how a t) h k = each_both P Q a h k
each_both P Q (scale op a n) h k = each_both P Q a h k

take_one : (images : List Definition) (k : ℕ) (d : Definition) → slice_get images k ≡ Some d → take (k + 1) images ≡ take k images ++ d ∷ []
take_one images k d is = take_more images k d (slice_get_within images k d is) ∙ ap (λ x. take k images ++ x ∷ []) (get_or_from_slice_get images k d d is)

pub types_next : (inputs : List Input) (images : List Definition) (k : ℕ) (d : Definition) → slice_get images k ≡ Some d → all_types inputs (take (k + 1) images) ≡ all_types inputs (take k images) ++ d.ty ∷ []
types_next inputs images k d is =
    ap (all_types inputs) (take_one images k d is)
    ∙ ap (λ ts. map (λ i. i.ty) inputs ++ ts) (map-append (λ (d : Definition). d.ty) (take k images) (d ∷ []))
    ∙ sym (append_assoc (map (λ i. i.ty) inputs) (map (λ d. d.ty) (take k images)) (d.ty ∷ []))

taken-length : {A : Type 0} (xs : List A) (k : ℕ) → k ≤ length xs → length (take k xs) ≡ k
taken-length [] zero le = refl
taken-length [] (suc k) le = absurd (omega arith)
taken-length (x ∷ xs) zero le = refl
taken-length (x ∷ xs) (suc k) le = ap suc (taken-length xs k (omega (arith, le)))

pub types-length : (inputs : List Input) (images : List Definition) (k : ℕ) → k ≤ length images → length (all_types inputs (take k images)) ≡ length inputs + k
types-length inputs images k le =
    let a = length-append (map (λ (i : Input). i.ty) inputs) (map (λ d. d.ty) (take k images)) in
    let b : length (map (λ i. i.ty) inputs) ≡ length inputs = length-map inputs _ in
    let c : length (map (λ d. d.ty) (take k images)) ≡ length (take k images) = length-map (take k images) _ in
    let t = taken-length images k le in
    omega (arith, a, b, c, t)

-- the body of image k
pub body_of : (p : Program) (k : ℕ) (d : Definition) → slice_get p.images k ≡ Some d → slice_get (bodies_of p) k ≡ Some (tree_of d.body)
body_of p k d is = slice_get-map (λ (d : Definition). tree_of d.body) p.images k ∙ ap (option_map (λ (d : Definition). tree_of d.body)) is

-- an image that is needed after itself can be evaluated on the planes before it
pub can_be : (p : Program) (known : List Picture) (until : List ℕ) (planes : List Plane) (k : ℕ) (d : Definition) → IsProgram p → AreNeeds p until → slice_get p.images k ≡ Some d →
    ShowsNeeded p.size (all_types p.inputs (take k p.images)) known until (length p.inputs + k) planes → IsNeeded until (length p.inputs + k + 1) (length p.inputs + k) → CanEvaluate p.size planes (tree_of d.body)
can_be p known until planes k d is needs there shows wanted =
    let e = tree_of d.body in
    let types = all_types p.inputs (take k p.images) in
    let listed = body_of p k d there in
    let within = slice_get_within p.images k d there in
    let long = types-length p.inputs p.images k (let le : k ≤ length p.images = omega (arith, within) in le) in
    let as_many = shows.one_each in
    let both = each_both (IsNeeded until (length p.inputs + k)) (λ g. g < length p.inputs + k) e (needs.bodies (length p.inputs + k) e (k, refl, listed) wanted) (reads_earlier p is k e listed) in
    record {
      types = types;
      ty = d.ty;
      typed = (is.images k d there).typed;
      types_are = taken_types p.inputs p.images k is.inputs (λ j image lt h. is.images j image h);
      values = shows.values;
      whole = each_weaker (λ g. IsNeeded until (length p.inputs + k) g × (g < length p.inputs + k)) (IsWhole p.size planes) (λ g h. shows.whole g h.0 (let lt = h.1 in omega (arith, lt, long, as_many))) e both;
    }

shown_more : (size : Size) (planes : List Plane) (q : Plane) → all_shown size (planes ++ q ∷ []) ≡ all_shown size planes ++ shown size (values_of q) ∷ []
shown_more size planes q = map-append (λ (p : Plane). shown size (values_of p)) planes (q ∷ [])

shown-length : (size : Size) (planes : List Plane) → length (all_shown size planes) ≡ length planes
shown-length size planes = length-map planes (λ p. shown size (values_of p))

-- the pictures of the planes before the last one, and of the last one
pub earlier_shown : (size : Size) (planes : List Plane) (q : Plane) (g : ℕ) → g < length planes → picture_at (all_shown size (planes ++ q ∷ [])) g ≡ picture_at (all_shown size planes) g
earlier_shown size planes q g lt =
    ap (λ qs. picture_at qs g) (shown_more size planes q)
    ∙ get_or-append (all_shown size planes) (shown size (values_of q) ∷ []) (λ _ _. pos 0) g (let h : g < length (all_shown size planes) = (let l = shown-length size planes in omega (arith, lt, l)) in h)

pub last_shown : (size : Size) (planes : List Plane) (q : Plane) (g : ℕ) → g ≡ length planes → picture_at (all_shown size (planes ++ q ∷ [])) g ≡ shown size (values_of q)
last_shown size planes q g here =
    ap (picture_at (all_shown size (planes ++ q ∷ []))) (here ∙ sym (shown-length size planes))
    ∙ ap (λ qs. picture_at qs (length (all_shown size planes))) (shown_more size planes q)
    ∙ get_or-append_seam (all_shown size planes) (shown size (values_of q)) [] (λ _ _. pos 0)

earlier_entry : {A : Type 0} (xs : List A) (y x : A) (g : ℕ) → slice_get xs g ≡ Some x → slice_get (xs ++ y ∷ []) g ≡ Some x
earlier_entry [] y x g is = absurd (let e : ⊥ = cc in e)
earlier_entry (z ∷ xs) y x zero is = is
earlier_entry (z ∷ xs) y x (suc g) is = earlier_entry xs y x g is

last_is : {A : Type 0} (xs : List A) (y : A) (g : ℕ) → g ≡ length xs → slice_get (xs ++ y ∷ []) g ≡ Some y
last_is [] y zero here = refl
last_is [] y (suc g) here = absurd (omega (arith, here))
last_is (x ∷ xs) y zero here = absurd (omega (arith, here))
last_is (x ∷ xs) y (suc g) here = last_is xs y g (omega (arith, here))

-- the values of a new plane are in its image's type
plane_in : (size : Size) (planes : List Plane) (e : Tree) (t : Ty) (wanted : Bool) (q : Plane) → IsType t → IsPlaneOf size planes e wanted q → (IsTrue wanted → (x y : ℤ) → IsIn t (value size (all_shown size planes) e x y)) →
    (x y : ℤ) → IsIn t (shown size (values_of q) x y)
plane_in size planes e t true q ok is all x y =
    let P : Picture → Type 0 = λ r. IsIn t (r x y) in
    subst P (sym (is.pixels refl).shown) (framed_in size t (value size (all_shown size planes) e) (all refl) x y)
plane_in size planes e t false q ok is all x y =
    let P : List ℤ → Type 0 = λ vs. IsIn t (shown size vs x y) in
    subst P (sym (is.empty refl)) (framed_in size t (λ _ _. pos 0) (λ _ _. zero_in t) x y)

-- the planes with the next one
pub shows_more : (p : Program) (round : List Picture) (until : List ℕ) (planes : List Plane) (k : ℕ) (d : Definition) (wanted : Bool) (q : Plane) → IsProgram p → AreNeeds p until → length round ≡ length p.inputs →
    slice_get p.images k ≡ Some d → (IsTrue wanted → IsNeeded until (length p.inputs + k + 1) (length p.inputs + k)) → (IsNeeded until (length p.inputs + k + 1) (length p.inputs + k) → IsTrue wanted) → IsPlaneOf p.size planes (tree_of d.body) wanted q →
    ShowsNeeded p.size (all_types p.inputs (take k p.images)) (pictures p round) until (length p.inputs + k) planes → ShowsNeeded p.size (all_types p.inputs (take (k + 1) p.images)) (pictures p round) until (length p.inputs + k + 1) (planes ++ q ∷ [])
shows_more p round until planes k d wanted q is needs one_each there does has plane shows =
    let size = p.size in
    let e = tree_of d.body in
    let types = all_types p.inputs (take k p.images) in
    let known = pictures p round in
    let within = slice_get_within p.images k d there in
    let types_long = types-length p.inputs p.images k (let le : k ≤ length p.images = omega (arith, within) in le) in
    let as_many : length planes ≡ length p.inputs + k = shows.one_each ∙ types_long in
    let longer = length-append planes (q ∷ []) in
    let next = types_next p.inputs p.images k d there in
    let listed = body_of p k d there in
    let sooner : (g : ℕ) → IsNeeded until (length p.inputs + k + 1) g → IsNeeded until (length p.inputs + k) g = λ g wants. omega (arith, wants) in
    let own : (g : ℕ) → g ≡ length p.inputs + k → IsNeeded until (length p.inputs + k + 1) g → IsNeeded until (length p.inputs + k + 1) (length p.inputs + k) = λ g at wants. (let P : ℕ → Type 0 = λ n. IsNeeded until (length p.inputs + k + 1) n in subst P at wants) in
    let typed = taken_types p.inputs p.images k is.inputs (λ j image lt h. is.images j image h) in
    let inside : (x y : ℤ) → IsIn d.ty (shown size (values_of q) x y) = plane_in size planes e d.ty wanted q (type_typed types typed e d.ty (is.images k d there).typed) plane (λ holds. value_in size types (all_shown size planes) typed shows.values e d.ty (is.images k d there).typed) in
    record {
      one_each =
          let l : length (types ++ d.ty ∷ []) ≡ length types + 1 = length-append types (d.ty ∷ []) in
          let m : length (planes ++ q ∷ []) ≡ length (types ++ d.ty ∷ []) = omega (arith, l, longer, as_many, types_long) in
          m ∙ sym (ap length next);
      values = λ g t found x y.
          let P : List Ty → Type 0 = λ ts. slice_get ts g ≡ Some t in
          elim (last_entry types d.ty t g (subst P next found)) [
            | inl before ↦
                let lt = slice_get_within types g t before in
                let R : Picture → Type 0 = λ r. IsIn t (r x y) in
                subst R (sym (earlier_shown size planes q g (let h : g < length planes = omega (arith, lt, as_many, types_long) in h))) (shows.values g t before x y)
            | inr last ↦
                let R : Picture → Type 0 = λ r. IsIn t (r x y) in
                let Q : Ty → Type 0 = λ u. IsIn u (shown size (values_of q) x y) in
                subst R (sym (last_shown size planes q g (last.0 ∙ types_long ∙ sym as_many))) (subst Q last.1 (inside x y))
          ];
      whole = λ g wants lt. elim (cases_lt g (length planes)) [
        | inl low ↦ (let w = shows.whole g (sooner g wants) low in record { plane = w.plane; there = earlier_entry planes q w.plane g w.there; whole = w.whole })
        | inr high ↦
            let here : g ≡ length planes = omega (arith, lt, longer, high) in
            record { plane = q; there = last_is planes q g here; whole = (plane.pixels (has (own g (here ∙ as_many) wants))).whole }
      ];
      pictures = λ g wants lt. elim (cases_lt g (length planes)) [
        | inl low ↦ earlier_shown size planes q g low ∙ shows.pictures g (sooner g wants) low
        | inr high ↦
            let here : g ≡ length planes = omega (arith, lt, longer, high) in
            let at : g ≡ length p.inputs + k = here ∙ as_many in
            let holds = has (own g at wants) in
            let both = each_both (IsNeeded until (length p.inputs + k)) (λ h. h < length p.inputs + k) e (needs.bodies (length p.inputs + k) e (k, refl, listed) (own g at wants)) (reads_earlier p is k e listed) in
            let same : Agree (value size (all_shown size planes) e) (value size known e) =
            value_agrees size (λ h. IsNeeded until (length p.inputs + k) h × (h < length p.inputs + k)) (all_shown size planes) known (λ h w x y. ap (λ (r : Picture). r x y) (shows.pictures h w.0 (let z = w.1 in omega (arith, z, as_many)))) e both in
            last_shown size planes q g here ∙ (plane.pixels holds).shown
            ∙ same_picture (framed size (value size (all_shown size planes) e)) (framed size (value size known e)) (framed_agrees size (value size (all_shown size planes) e) (value size known e) same)
            ∙ sym (same_picture (picture_at known g) (framed size (value size known e)) (picture_of_body p is round one_each g e (k, here ∙ as_many, listed)))
      ];
    }

-- a plane that is gone is 0 everywhere, which is in each type
gone_in : (size : Size) (t : Ty) (x y : ℤ) → IsIn t (shown size [] x y)
gone_in size t x y = framed_in size t (λ _ _. pos 0) (λ _ _. zero_in t) x y

pub entry_shown : (size : Size) (planes : List Plane) (g : ℕ) (q : Plane) → slice_get planes g ≡ Some q → picture_at (all_shown size planes) g ≡ shown size (values_of q)
entry_shown size [] g q is = absurd (let e : ⊥ = cc in e)
entry_shown size (p ∷ planes) zero q is = let e : p ≡ q = cc in ap (λ (r : Plane). shown size (values_of r)) e
entry_shown size (p ∷ planes) (suc g) q is = entry_shown size planes g q is

pub same_shown : (size : Size) (old new : List Plane) (g : ℕ) → slice_get new g ≡ slice_get old g → picture_at (all_shown size new) g ≡ picture_at (all_shown size old) g
same_shown size [] [] g same = refl
same_shown size [] (q ∷ new) zero same = absurd (let e : ⊥ = cc in e)
same_shown size [] (q ∷ new) (suc g) same = same_shown size [] new g same
same_shown size (p ∷ old) [] zero same = absurd (let e : ⊥ = cc in e)
same_shown size (p ∷ old) [] (suc g) same = same_shown size old [] g same
same_shown size (p ∷ old) (q ∷ new) zero same = let e : q ≡ p = cc in ap (λ (r : Plane). shown size (values_of r)) e
same_shown size (p ∷ old) (q ∷ new) (suc g) same = same_shown size old new g same

-- one plane was let go of, or none
pub dropped_kept : (start old new : List Plane) (until : List ℕ) (made i : ℕ) → ((h : ℕ) → h ≢ i → slice_get new h ≡ slice_get old h) → (IsNeeded until made i → slice_get new i ≡ slice_get old i) →
    ((g : ℕ) → IsNeeded until made g → slice_get old g ≡ slice_get start g) → (g : ℕ) → IsNeeded until made g → slice_get new g ≡ slice_get start g
dropped_kept start old new until made i others here before g wants =
    elim (cases_eq g i) as (λ _. slice_get new g ≡ slice_get start g) [
      | inl e ↦
          let P : ℕ → Type 0 = λ h. IsNeeded until made h → slice_get new h ≡ slice_get old h in
          subst P (sym e) here wants ∙ before g wants
      | inr ne ↦ others g ne ∙ before g wants
    ]

pub dropped_each : (start old new : List Plane) (i : ℕ) → ((h : ℕ) → h ≢ i → slice_get new h ≡ slice_get old h) → AreSameOrGone (slice_get old i) (slice_get new i) →
    ((g : ℕ) → AreSameOrGone (slice_get start g) (slice_get old g)) → (g : ℕ) → AreSameOrGone (slice_get start g) (slice_get new g)
dropped_each start old new i others here before g =
    elim (cases_eq g i) as (λ _. AreSameOrGone (slice_get start g) (slice_get new g)) [
      | inl e ↦
          let P : ℕ → Type 0 = λ h. AreSameOrGone (slice_get old h) (slice_get new h) in
          same_or_gone (slice_get start g) (slice_get old g) (slice_get new g) (before g) (subst P (sym e) here)
      | inr ne ↦
          let P : Option Plane → Type 0 = λ o. AreSameOrGone (slice_get start g) o in
          subst P (sym (others g ne)) (before g)
    ]
  where
    same_or_gone : (a b c : Option Plane) → AreSameOrGone a b → AreSameOrGone b c → AreSameOrGone a c
    same_or_gone a b c (inl ab) (inl bc) = inl (bc ∙ ab)
    same_or_gone a b c (inr gone) (inl bc) = inr (bc ∙ gone)
    same_or_gone a b c ab (inr gone) = inr gone

-- the planes after some that were let go of
pub shows_after : (p : Program) (types : List Ty) (known : List Picture) (until : List ℕ) (n : ℕ) (old new : List Plane) → length new ≡ length old → ((g : ℕ) → IsNeeded until n g → slice_get new g ≡ slice_get old g) →
    ((g : ℕ) → AreSameOrGone (slice_get old g) (slice_get new g)) → ShowsNeeded p.size types known until n old → ShowsNeeded p.size types known until n new
shows_after p types known until n old new count kept each shows = record {
  one_each = count ∙ shows.one_each;
  values = λ g t found x y.
      let P : Picture → Type 0 = λ r. IsIn t (r x y) in
      elim (each g) [
        | inl same ↦ subst P (sym (same_shown p.size old new g same)) (shows.values g t found x y)
        | inr gone ↦ subst P (sym (entry_shown p.size new g Gone gone)) (gone_in p.size t x y)
      ];
  whole = λ g wants lt.
      let w = shows.whole g wants (let l : g < length old = omega (arith, lt, count) in l) in
      record { plane = w.plane; there = kept g wants ∙ w.there; whole = w.whole };
  pictures = λ g wants lt. same_shown p.size old new g (kept g wants) ∙ shows.pictures g wants (let l : g < length old = omega (arith, lt, count) in l);
}

-- what `render` gives
pub is_rendered : {E : Type 0} (size : Size) (planes : List Plane) (e : Tree) (wanted : Bool) (r : Result Plane E) → wanted ≡ true → IfOk r (λ q. ArePixelsOf size planes e (values_of q)) → IfOk r (λ q. IsPlaneOf size planes e wanted q)
is_rendered size planes e wanted (Ok q) holds is = record { pixels = λ _. is; empty = λ no. absurd (let f : true ≡ false = sym holds ∙ no in let g : ⊥ = cc in g) }
is_rendered size planes e wanted (Err f) holds is = tt

-- the picture of values at a pixel
pub shown_value : (size : Size) (values : List ℤ) (x y : ℕ) → x < size.width → y < size.height → shown size values (pos x) (pos y) ≡ slice_index_or values (y * size.width + x) (pos 0)
shown_value size values x y across down = ap (λ b. if b then slice_index_or values (y * size.width + x) (pos 0) else pos 0) (inside size x y across down)

-- a value of a whole plane is that of its picture
pub plane_value : (size : Size) (planes : List Plane) (g : ℕ) (p : Plane) (x y : ℕ) (v : ℤ) → IsWhole size planes g → p ≡ get_or planes g p → x < size.width → y < size.height → v ≡ slice_index_or (values_of p) (y * size.width + x) (pos 0) →
    v ≡ picture_at (all_shown size planes) g (pos x) (pos y)
plane_value size planes g p x y v w there across down is =
    let same : p ≡ w.plane = there ∙ get_or_from_slice_get planes g w.plane p w.there in
    let here : picture_at (all_shown size planes) g ≡ shown size (values_of p) = entry_shown size planes g w.plane w.there ∙ ap (λ (q : Plane). shown size (values_of q)) (sym same) in
    is ∙ sym (shown_value size (values_of p) x y across down) ∙ sym (ap (λ (q : Picture). q (pos x) (pos y)) here)

-- the plane at a place, as what was stated of it
pub whole_at : (size : Size) (planes : List Plane) (g : ℕ) (p : Plane) → IsWhole size planes g → slice_get planes g ≡ Some p → length (values_of p) ≡ area size
whole_at size planes g p w there = (let e : w.plane ≡ p = same_entry planes g w.plane p w.there there in ap (λ (q : Plane). length (values_of q)) (sym e) ∙ w.whole)

pub rows_at : (planes : List Plane) (g : ℕ) (p : Plane) → HasRows planes g → slice_get planes g ≡ Some p → IsByRows p
rows_at planes g p h there = subst IsByRows (same_entry planes g h.plane p h.there there) h.rows
