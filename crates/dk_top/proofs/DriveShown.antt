-- What an output of a compiled module shows while it is driven with rounds.
use Rattle.std.proofs.Common.{◌≡◌, ℕ, zero, suc, ◌+◌, ◌-◌, ◌*◌, ◌<◌, ◌≤◌, List, [], ◌∷◌, ◌++◌, length, map, take, drop, All, unsigned_abs, Some, slice_get, slice_index_or, refl, sym, ap, ◌∙◌, subst, arith, zero-mul, suc-mul, length-append}
use Rattle.std.specs.List.{flat_map, range_with_len}
use Rattle.std.proofs.lemmas.List.{length-map}
use Rattle.std.proofs.lemmas.List.FromFn.{take-map-range_with_len}
use Rattle.dk_base.specs.Frames.{Size, Picture, area, pixel_of, raster, picture_of, picture_at}
use Rattle.wiring.specs.Netlist.{Netlist}
use Rattle.wiring.specs.Snapshot.{Contents, Snapshot, Fit, FitsContents}
use Rattle.wiring.specs.Runs.{Runs, picture}
use Rattle.pointwise_ir.specs.Programs.{Program}
use Rattle.pointwise_ir.specs.Meaning.{pictures}
use Rattle.buffer_plan.specs.Plans.{Plan, latency_of}
use Rattle.circuit.specs.Rounds.{Rounds, AreRounds, pixel, pixel_count, pictures_in}
use Rattle.circuit.specs.Driven.{Drives, Agree, driven, input_widths, output_at}
use Rattle.stimulus.proofs.Streams.{map_at, read_at}
use Rattle.dk_top.proofs.DriveRounds.{pictured}

-- the laws of what a drive shows
abbrev pub PictureLaw : Type 0
PictureLaw =
    (m : Netlist) (p : Program) (plan : Plan) → Drives m p plan → (from to : Contents) (dins : List (List ℕ)) (shots : List Snapshot) → FitsContents m from → All (Fit (input_widths p)) dins
    → Runs m from (driven (length p.inputs) dins) shots to → (rounds : Rounds) → AreRounds p rounds → Agree p rounds dins → (k : ℕ) → k < length p.outputs → length dins ≤ pixel_count p rounds + latency_of plan k
    → picture k shots ≡ map (λ q. unsigned_abs (pixel p rounds (output_at p k) q)) (range_with_len 0 (length dins - latency_of plan k))

abbrev pub RasterLaw : Type 0
RasterLaw = (size : Size) (pictures : ℕ → Picture) (n : ℕ) → map (λ q. unsigned_abs (pixel_of size pictures q)) (range_with_len 0 (n * area size)) ≡ flat_map (λ k. raster size (pictures k)) (range_with_len 0 n)

-- the samples of an image in a round, and in rounds
abbrev pub rastered : Program → (g : ℕ) → List (List ℕ) → List ℕ
rastered ir g round = raster ir.size (picture_at (pictures ir (map (picture_of ir.size) round)) g)

-- pieces by their numbers are the pieces of a list's items
pub pieces_at : {A B : Type 0} (G : ℕ → List B) (F : A → List B) (a : ℕ) (xs : List A) → ((k : ℕ) (x : A) → slice_get xs k ≡ Some x → G (a + k) ≡ F x) → flat_map G (range_with_len a (length xs)) ≡ flat_map F xs
pieces_at G F a [] same = refl
pieces_at G F a (x ∷ xs) same =
    ap (λ y. y ++ flat_map G (range_with_len (a + 1) (length xs))) (ap G (let e : a ≡ a + 0 = omega arith in e) ∙ same 0 x refl)
    ∙ ap (λ ys. F x ++ ys) (pieces_at G F (a + 1) xs (λ k y at. ap G (let e : a + 1 + k ≡ a + suc k = omega arith in e) ∙ same (suc k) y at))

-- the first samples of an output are those of its pictures, one round after another
pub picture_shown : PictureLaw → RasterLaw → (m : Netlist) (ir : Program) (plan : Plan) → Drives m ir plan → (from to : Contents) (dins : List (List ℕ)) (shots : List Snapshot) → FitsContents m from → All (Fit (input_widths ir)) dins
    → Runs m from (driven (length ir.inputs) dins) shots to → (rounds : List (List (List ℕ))) → AreRounds ir (pictured ir.size rounds) → Agree ir (pictured ir.size rounds) dins → (k : ℕ) → k < length ir.outputs
    → length dins ≤ length rounds * area ir.size + latency_of plan k → picture k shots ≡ take (length dins - latency_of plan k) (flat_map (rastered ir (output_at ir k)) rounds)
picture_shown law rasters m ir plan drives from to dins shots fits fit runs rounds are agree k there room =
    let size = ir.size in
    let g = output_at ir k in
    let late = latency_of plan k in
    let n = length rounds in
    let known = pictured size rounds in
    let many : length known ≡ n = length-map rounds (λ (r : List (List ℕ)). map (picture_of size) r) in
    law m ir plan drives from to dins shots fits fit runs known are agree k there (subst (λ z. length dins ≤ z * area size + late) (sym many) room)
    ∙ sym (take-map-range_with_len (λ q. unsigned_abs (pixel ir known g q)) 0 (n * area size) (length dins - late) (omega (arith, room)))
    ∙ ap (take (length dins - late)) (rasters size (λ r. picture_at (pictures_in ir known r) g) n
    ∙ pieces_at (λ r. raster size (picture_at (pictures_in ir known r) g)) (rastered ir g) 0 rounds (λ r round at.
    ap (λ (q : List Picture). raster size (picture_at (pictures ir q) g))
    (ap (λ z. slice_index_or known z []) (let e : 0 + r ≡ r = omega arith in e) ∙ read_at known r (map (picture_of size) round) [] (map_at (λ (r : List (List ℕ)). map (picture_of size) r) rounds r round at))))

-- the first of a list, within its first N
take_within : (ys : List ℕ) (A N : ℕ) → A ≤ N → take A (take N ys) ≡ take A ys
take_within ys zero N le = refl
take_within ys (suc A) zero le = absurd (let e : ⊥ = omega (arith, le) in e)
take_within [] (suc A) (suc N) le = refl
take_within (y ∷ ys) (suc A) (suc N) le = ap (λ zs. y ∷ zs) (take_within ys A N (omega (arith, le)))

take_inside : (ys : List ℕ) (k A N : ℕ) → k + A ≤ N → take A (drop k (take N ys)) ≡ take A (drop k ys)
take_inside ys zero A N le = take_within ys A N (omega (arith, le))
take_inside ys (suc k) A zero le = absurd (let e : ⊥ = omega (arith, le) in e)
take_inside [] (suc k) A (suc N) le = refl
take_inside (y ∷ ys) (suc k) A (suc N) le = take_inside ys k A N (omega (arith, le))

take_first : (xs ys : List ℕ) → take (length xs) (xs ++ ys) ≡ xs
take_first [] ys = refl
take_first (x ∷ xs) ys = ap (λ zs. x ∷ zs) (take_first xs ys)

drop_first : (xs ys : List ℕ) (k : ℕ) → drop (length xs + k) (xs ++ ys) ≡ drop k ys
drop_first [] ys k = ap (λ n. drop n ys) (let e : 0 + k ≡ k = omega arith in e)
drop_first (x ∷ xs) ys k = ap (λ n. drop n (x ∷ (xs ++ ys))) (let e : suc (length xs) + k ≡ suc (length xs + k) = omega arith in e) ∙ drop_first xs ys k

-- one piece of many that are as long as each other
module _ {X : Type 0} (F : X → List ℕ) (A : ℕ) (long : (x : X) → length (F x) ≡ A) where
  pub pieces_length : (xs : List X) → length (flat_map F xs) ≡ length xs * A
  pieces_length [] = sym (zero-mul A)
  pieces_length (x ∷ xs) =
      let each = length-append (F x) (flat_map F xs) in
      let more : suc (length xs) * A ≡ length xs * A + A = suc-mul (length xs) A in
      let rest = pieces_length xs in
      omega (arith, each, more, rest, long x)

  one_piece : (xs : List X) (r : ℕ) (x : X) → slice_get xs r ≡ Some x → take A (drop (r * A) (flat_map F xs)) ≡ F x
  one_piece [] r x at = absurd (let e : ⊥ = cc in e)
  one_piece (y ∷ xs) zero x at =
      let same : y ≡ x = cc in
      ap (λ n. take A (drop n (F y ++ flat_map F xs))) (zero-mul A) ∙ ap (λ n. take n (F y ++ flat_map F xs)) (sym (long y)) ∙ take_first (F y) (flat_map F xs) ∙ ap F same
  one_piece (y ∷ xs) (suc r) x at =
      let more : suc r * A ≡ r * A + A = suc-mul r A in
      let e : suc r * A ≡ length (F y) + r * A = omega (arith, more, long y) in
      ap (λ n. take A (drop n (F y ++ flat_map F xs))) e ∙ ap (take A) (drop_first (F y) (flat_map F xs) (r * A)) ∙ one_piece xs r x at

  pub piece_within : (xs : List X) (r : ℕ) (x : X) (N : ℕ) → slice_get xs r ≡ Some x → r * A + A ≤ N → take A (drop (r * A) (take N (flat_map F xs))) ≡ F x
  piece_within xs r x N at le = take_inside (flat_map F xs) (r * A) A N le ∙ one_piece xs r x at

-- a list by its numbers is the list of what its items give
pub places_at : {A B : Type 0} (G : ℕ → B) (F : A → B) (a : ℕ) (xs : List A) → ((k : ℕ) (x : A) → slice_get xs k ≡ Some x → G (a + k) ≡ F x) → map G (range_with_len a (length xs)) ≡ map F xs
places_at G F a [] same = refl
places_at G F a (x ∷ xs) same =
    ap (λ y. y ∷ map G (range_with_len (a + 1) (length xs))) (ap G (let e : a ≡ a + 0 = omega arith in e) ∙ same 0 x refl)
    ∙ ap (λ ys. F x ∷ ys) (places_at G F (a + 1) xs (λ k y at. ap G (let e : a + 1 + k ≡ a + suc k = omega arith in e) ∙ same (suc k) y at))
