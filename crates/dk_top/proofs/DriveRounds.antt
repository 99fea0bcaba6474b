-- Rounds of samples: the pictures that they make, and what they give the dins of a module.
use Rattle.std.proofs.Common.{◌≡◌, ℕ, zero, suc, ◌+◌, ◌*◌, ◌/◌, ◌%◌, ◌^◌, ◌<◌, pos, Bool, true, false, List, [], ◌∷◌, ◌++◌, length, map, replicate, get_or, Some, slice_get, slice_index, slice_index_or, if◌then◌else◌, unsigned_abs, refl, sym, ap, ◌∙◌, subst, arith, mul_comm}
use Rattle.std.specs.List.{range_with_len, All, AllByRecursion, AllZip}
use Rattle.std.proofs.lemmas.Int.{ints}
use Rattle.std.proofs.lemmas.List.{length-map, length-replicate}
use Rattle.std.proofs.lemmas.List.Concat.{flat_map-append}
use Rattle.std.proofs.lemmas.List.Elements.{All-nil, All-cons}
use Rattle.std.proofs.lemmas.Nat.{pow_pos, div_below, div-add-mod'}
use Rattle.std.proofs.Math.Nat.{mod-lt, zero-mul}
use Rattle.dk_base.specs.declared.ty.Ty.{Ty}
use Rattle.dk_base.specs.declared.ty.Ty.TheVariants.{Unsigned, Signed}
use Rattle.dk_base.specs.Types.{IsPort, IsIn, width_of}
use Rattle.dk_base.specs.Frames.{Size, area, Picture, in_frame, raster_number, picture_of, picture_at}
use Rattle.dk_base.proofs.Rasters.{picture_at as pixel_there}
use Rattle.wiring.specs.Snapshot.{Fit}
use Rattle.wiring.proofs.Lists.{All-at}
use Rattle.pointwise_ir.specs.declared.program.Input.{Input}
use Rattle.pointwise_ir.specs.Programs.{Program, bodies_of}
use Rattle.pointwise_ir.specs.Meaning.{IsPicture, IsRound, pictures}
use Rattle.pointwise_ir.proofs.Typed.{zero_in}
use Rattle.pointwise_ir.proofs.Pictured.{first_pictures}
use Rattle.circuit.specs.Rounds.{Rounds, AreRounds, pixel}
use Rattle.circuit.specs.Driven.{Agree, input_widths}
use Rattle.stimulus.specs.Stimulus.{stream, dins_at}
use Rattle.stimulus.proofs.Streams.{flat_at, map_at, read_at}

-- as many samples as a frame has, each of this many bits
pub record IsSampled (size : Size) (width : ℕ) (samples : List ℕ) : Type 0 where
  pub whole : length samples ≡ area size
  pub values : AllByRecursion (λ s. s < 2 ^ width) samples

-- in each round such samples for each input
abbrev pub AreSampled : Size → (widths : List ℕ) → List (List (List ℕ)) → Type 0
AreSampled size widths rounds = AllByRecursion (AllZip (IsSampled size) widths) rounds

-- their pictures
abbrev pub pictured : Size → List (List (List ℕ)) → Rounds
pictured size rounds = map (λ round. map (picture_of size) round) rounds

-- the inputs have types of ports
abbrev pub HasPortTypes : Program → Type 0
HasPortTypes ir = All (λ (i : Input). IsPort i.ty) ir.inputs

-- what holds of two lists, item by item
zip_length : {A B : Type 0} (R : A → B → Type 0) (xs : List A) (ys : List B) → AllZip R xs ys → length ys ≡ length xs
zip_length R [] [] h = refl
zip_length R [] (y ∷ ys) h = absurd h
zip_length R (x ∷ xs) [] h = absurd h
zip_length R (x ∷ xs) (y ∷ ys) h = ap suc (zip_length R xs ys h.1)

pub zip_at : {A B : Type 0} (R : A → B → Type 0) (xs : List A) (ys : List B) → AllZip R xs ys → (k : ℕ) (x : A) → slice_get xs k ≡ Some x → (y : B) × (slice_get ys k ≡ Some y) × R x y
zip_at R [] ys h k x at = absurd (let e : ⊥ = cc in e)
zip_at R (z ∷ xs) [] h k x at = absurd h
zip_at {A} R (z ∷ xs) (y ∷ ys) h zero x at = let same : z ≡ x = cc in let P : A → Type 0 = λ w. R w y in (y, refl, subst P same h.0)
zip_at R (z ∷ xs) (y ∷ ys) h (suc k) x at = zip_at R xs ys h.1 k x at

pub all_append : {A : Type 0} (P : A → Type 0) (xs ys : List A) → AllByRecursion P xs → AllByRecursion P ys → AllByRecursion P (xs ++ ys)
all_append P [] ys h g = g
all_append P (x ∷ xs) ys h g = (h.0, all_append P xs ys h.1 g)

all_replicate : {A : Type 0} (P : A → Type 0) (x : A) (n : ℕ) → P x → AllByRecursion P (replicate n x)
all_replicate P x zero h = tt
all_replicate P x (suc n) h = (h, all_replicate P x n h)

pub all_at : {A : Type 0} (P : A → Type 0) (xs : List A) → AllByRecursion P xs → (k : ℕ) (x : A) → slice_get xs k ≡ Some x → P x
all_at P [] h k x at = absurd (let e : ⊥ = cc in e)
all_at P (y ∷ xs) h zero x at = let same : y ≡ x = cc in subst P same h.0
all_at P (y ∷ xs) h (suc k) x at = all_at P xs h.1 k x at

-- a number of a list is below what all are, also after its end
below_any : (b : ℕ) (xs : List ℕ) → 0 < b → AllByRecursion (λ s. s < b) xs → (k : ℕ) → get_or xs k 0 < b
below_any b [] some h k = some
below_any b (x ∷ xs) some h zero = h.0
below_any b (x ∷ xs) some h (suc k) = below_any b xs some h.1 k

-- the picture of samples that fit a port
sampled_picture : (size : Size) (t : Ty) (samples : List ℕ) → IsPort t → IsSampled size (width_of t) samples → IsPicture size t (picture_of size samples)
sampled_picture size (Signed n) samples port is = absurd port
sampled_picture size (Unsigned n) samples port is = record {
  values = λ x y. chosen (in_frame size x y) (raster_number size (unsigned_abs x) (unsigned_abs y));
  outside = λ x y out. ap (λ b. if b then pos (slice_index samples (raster_number size (unsigned_abs x) (unsigned_abs y))) else pos 0) out;
}
  where
    chosen : (b : Bool) (k : ℕ) → IsIn (Unsigned n) (if b then pos (slice_index samples k) else pos 0)
    chosen true k = let low = below_any (2 ^ n) samples (pow_pos n) is.values k in record { least = omega (arith, ints); greatest = omega (arith, ints, low) }
    chosen false k = zero_in (Unsigned n)

pub is_round : (ir : Program) → HasPortTypes ir → (round : List (List ℕ)) → AllZip (IsSampled ir.size) (input_widths ir) round → IsRound ir (map (picture_of ir.size) round)
is_round ir ports round are = record {
  one_each = length-map round (picture_of ir.size) ∙ zip_length (IsSampled ir.size) (input_widths ir) round are ∙ length-map ir.inputs (λ (i : Input). width_of i.ty);
  pictures = λ k input at.
      let (samples, there, is) = zip_at (IsSampled ir.size) (input_widths ir) round are k (width_of input.ty) (map_at (λ (i : Input). width_of i.ty) ir.inputs k input at) in
      let P : Picture → Type 0 = λ q. IsPicture ir.size input.ty q in
      subst P (sym (read_at (map (picture_of ir.size) round) k (picture_of ir.size samples) (λ _ _. pos 0) (map_at (picture_of ir.size) round k samples there)))
      (sampled_picture ir.size input.ty samples (All-at (λ (i : Input). IsPort i.ty) ir.inputs k input ports at) is);
}

pub are_rounds : (ir : Program) → HasPortTypes ir → (rounds : List (List (List ℕ))) → AreSampled ir.size (input_widths ir) rounds → AreRounds ir (pictured ir.size rounds)
are_rounds ir ports [] are = All-nil (IsRound ir)
are_rounds ir ports (r ∷ rs) are = All-cons (IsRound ir) (map (picture_of ir.size) r) (pictured ir.size rs) (is_round ir ports r are.0) (are_rounds ir ports rs are.1)

-- what an input of a round has
part_is : (size : Size) (widths : List ℕ) (round : List (List ℕ)) → AllZip (IsSampled size) widths round → (k w : ℕ) → slice_get widths k ≡ Some w → IsSampled size w (slice_index_or round k [])
part_is size widths round are k w at =
    let (samples, there, is) = zip_at (IsSampled size) widths round are k w at in
    subst (IsSampled size w) (sym (read_at round k samples [] there)) is

stream_below : (size : Size) (widths : List ℕ) (rounds : List (List (List ℕ))) → AreSampled size widths rounds → (k w : ℕ) → slice_get widths k ≡ Some w → AllByRecursion (λ s. s < 2 ^ w) (stream rounds k)
stream_below size widths [] are k w at = tt
stream_below size widths (r ∷ rs) are k w at = all_append (λ s. s < 2 ^ w) (slice_index_or r k []) (stream rs k) ((part_is size widths r are.0 k w at).values) (stream_below size widths rs are.1 k w at)

fit_places : (ws : List ℕ) (f : ℕ → ℕ) (a : ℕ) → ((k w : ℕ) → slice_get ws k ≡ Some w → f (a + k) < 2 ^ w) → Fit ws (map f (range_with_len a (length ws)))
fit_places [] f a h = tt
fit_places (w ∷ ws) f a h = (
  subst (λ z. f z < 2 ^ w) (let e : a + 0 ≡ a = omega arith in e) (h 0 w refl),
  fit_places ws f (a + 1) (λ k v at. subst (λ z. f z < 2 ^ v) (let e : a + suc k ≡ a + 1 + k = omega arith in e) (h (suc k) v at)),
)

-- the dins of each clock fit
pub dins_fit : (size : Size) (widths : List ℕ) (rounds : List (List (List ℕ))) → AreSampled size widths rounds → (q : ℕ) → Fit widths (dins_at (length widths) rounds q)
dins_fit size widths rounds are q =
    fit_places widths (λ input. slice_index (stream rounds input) q) 0 (λ k w at.
    subst (λ z. slice_index (stream rounds z) q < 2 ^ w) (let e : k ≡ 0 + k = omega arith in e) (below_any (2 ^ w) (stream rounds k) (pow_pos w) (stream_below size widths rounds are k w at) q))

some_width : (w h : ℕ) → 0 < w * h → 0 < w
some_width zero h some = let e : zero * h ≡ 0 = zero-mul h in absurd (let f : ⊥ = omega (arith, some, e) in f)
some_width (suc w) h some = omega arith

-- sample j of a picture's samples is its pixel number j
sample_pixel : (size : Size) (samples : List ℕ) (j : ℕ) → 0 < area size → j < area size → picture_of size samples (pos (j % size.width)) (pos (j / size.width)) ≡ pos (slice_index samples j)
sample_pixel size samples j some low =
    let wide : 0 < size.width = some_width size.width size.height some in
    let turned : j < size.height * size.width = subst (λ n. j < n) (mul_comm size.width size.height) low in
    pixel_there size samples (j % size.width) (j / size.width) (mod-lt j wide) (div_below j size.width size.height wide turned)
    ∙ ap (λ n. pos (slice_index samples n)) (div-add-mod' j size.width)

pub there_is : {A : Type 0} (xs : List A) (k : ℕ) → k < length xs → (x : A) × (slice_get xs k ≡ Some x)
there_is [] k lt = absurd (omega arith)
there_is (x ∷ xs) zero lt = (x, refl)
there_is (x ∷ xs) (suc k) lt = there_is xs k (omega (arith, lt))

-- the streams' samples are the pixels of the pictures
stream_pixel : (ir : Program) (rounds : List (List (List ℕ))) → 0 < area ir.size → AreSampled ir.size (input_widths ir) rounds → (k q : ℕ) → k < length ir.inputs → q < length rounds * area ir.size
    → pos (slice_index (stream rounds k) q) ≡ pixel ir (pictured ir.size rounds) k q
stream_pixel ir rounds some are k q within low =
    let size = ir.size in
    let A = area size in
    let i = q / A in
    let j = q % A in
    let inside : j < A = mod-lt q some in
    let (input, has) = there_is ir.inputs k within in
    let port = map_at (λ (x : Input). width_of x.ty) ir.inputs k input has in
    let (round, at) = there_is rounds i (div_below q A (length rounds) some low) in
    let zip : AllZip (IsSampled size) (input_widths ir) round = all_at (AllZip (IsSampled size) (input_widths ir)) rounds are i round at in
    let (samples, there, is) = zip_at (IsSampled size) (input_widths ir) round zip k (width_of input.ty) port in
    let R = map (picture_of size) round in
    let many : k < length R = omega (arith, within, length-map round (picture_of size), zip_length (IsSampled size) (input_widths ir) round zip, length-map ir.inputs (λ (x : Input). width_of x.ty)) in
    ap (λ n. pos (slice_index (stream rounds k) n)) (sym (div-add-mod' q A))
    ∙ ap pos (flat_at (λ (r : List (List ℕ)). slice_index_or r k []) A rounds (λ n r here. (part_is size (input_widths ir) r (all_at (AllZip (IsSampled size) (input_widths ir)) rounds are n r here) k (width_of input.ty) port).whole) i j round inside at
    ∙ ap (λ xs. slice_index xs j) (read_at round k samples [] there))
    ∙ sym (sample_pixel size samples j some inside)
    ∙ sym (ap (λ (r : List Picture). picture_at (pictures ir r) k (pos (j % size.width)) (pos (j / size.width))) (read_at (pictured size rounds) i R [] (map_at (λ (r : List (List ℕ)). map (picture_of size) r) rounds i round at))
    ∙ ap (λ (p : Picture). p (pos (j % size.width)) (pos (j / size.width))) (first_pictures size (bodies_of ir) R k many ∙ read_at R k (picture_of size samples) (λ _ _. pos 0) (map_at (picture_of size) round k samples there)))

-- numbers at the dins that are the streams' agree with the pictures
pub agrees : (ir : Program) (rounds : List (List (List ℕ))) (dins : List (List ℕ)) → 0 < area ir.size → AreSampled ir.size (input_widths ir) rounds
    → ((k q : ℕ) → k < length ir.inputs → q < length dins → slice_index (slice_index_or dins q []) k ≡ slice_index (stream rounds k) q) → Agree ir (pictured ir.size rounds) dins
agrees ir rounds dins some are come k q there within low =
    let few : q < length rounds * area ir.size = subst (λ n. q < n * area ir.size) (length-map rounds (λ (r : List (List ℕ)). map (picture_of ir.size) r)) low in
    ap pos (come k q there within) ∙ stream_pixel ir rounds some are k q there few

-- a round of zeros
abbrev pub blank : Size → (widths : List ℕ) → List (List ℕ)
blank size widths = map (λ _. replicate (area size) 0) widths

-- rounds with this many rounds of zeros after them
abbrev pub extended : Size → (widths : List ℕ) → List (List (List ℕ)) → (more : ℕ) → List (List (List ℕ))
extended size widths rounds more = rounds ++ replicate more (blank size widths)

blank_sampled : (size : Size) (widths : List ℕ) → AllZip (IsSampled size) widths (blank size widths)
blank_sampled size [] = tt
blank_sampled size (w ∷ ws) = (record { whole = length-replicate (area size) 0; values = all_replicate (λ s. s < 2 ^ w) 0 (area size) (pow_pos w) }, blank_sampled size ws)

pub extended_sampled : (size : Size) (widths : List ℕ) (rounds : List (List (List ℕ))) (more : ℕ) → AreSampled size widths rounds → AreSampled size widths (extended size widths rounds more)
extended_sampled size widths rounds more are =
    let P = AllZip (IsSampled size) widths in
    all_append P rounds (replicate more (blank size widths)) are (all_replicate P (blank size widths) more (blank_sampled size widths))

-- zeros after a list
abbrev pub AreZeros : List ℕ → Type 0
AreZeros xs = AllByRecursion (λ s. s ≡ 0) xs

zero_at : (zs : List ℕ) → AreZeros zs → (q : ℕ) → get_or zs q 0 ≡ 0
zero_at [] h q = refl
zero_at (z ∷ zs) h zero = h.0
zero_at (z ∷ zs) h (suc q) = zero_at zs h.1 q

pub zeros_behind : (xs zs : List ℕ) → AreZeros zs → (q : ℕ) → get_or (xs ++ zs) q 0 ≡ get_or xs q 0
zeros_behind [] zs h q = zero_at zs h q
zeros_behind (x ∷ xs) zs h zero = refl
zeros_behind (x ∷ xs) zs h (suc q) = zeros_behind xs zs h q

blank_part : (size : Size) (widths : List ℕ) (k : ℕ) → AreZeros (slice_index_or (blank size widths) k [])
blank_part size [] k = tt
blank_part size (w ∷ ws) zero = all_replicate (λ s. s ≡ 0) 0 (area size) refl
blank_part size (w ∷ ws) (suc k) = blank_part size ws k

blank_stream : (size : Size) (widths : List ℕ) (more k : ℕ) → AreZeros (stream (replicate more (blank size widths)) k)
blank_stream size widths zero k = tt
blank_stream size widths (suc more) k = all_append (λ s. s ≡ 0) (slice_index_or (blank size widths) k []) (stream (replicate more (blank size widths)) k) (blank_part size widths k) (blank_stream size widths more k)

pub extended_stream : (size : Size) (widths : List ℕ) (rounds : List (List (List ℕ))) (more k q : ℕ) → slice_index (stream (extended size widths rounds more) k) q ≡ slice_index (stream rounds k) q
extended_stream size widths rounds more k q =
    let behind = replicate more (blank size widths) in
    ap (λ xs. slice_index xs q) (flat_map-append (λ (r : List (List ℕ)). slice_index_or r k []) rounds behind) ∙ zeros_behind (stream rounds k) (stream behind k) (blank_stream size widths more k) q
