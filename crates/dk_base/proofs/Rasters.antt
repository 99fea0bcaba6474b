-- Pixels in raster order.
use Rattle.std.proofs.Common.{◌≡◌, ◌∙◌, sym, ap, refl, [], ◌∷◌, add-zero, zero-add, append-nil, take-add, ℕ, zero, suc, ◌+◌, ◌*◌, ◌/◌, ◌%◌, ◌<◌, ◌≤◌, ℤ, pos, negsuc, Bool, true, false, ◌&&◌, IsTrue, mul_comm, unsigned_abs, arith, length, map, take, drop, get_or, slice_index, List, ◌++◌, if◌then◌else◌}
use Rattle.std.specs.List.{flat_map, range_with_len}
use Rattle.std.proofs.Math.Nat.{mul-le-mul_right}
use Rattle.std.proofs.lemmas.List.{take_all, length-take-le, length-drop, get_or-take, get_or-drop}
use Rattle.std.proofs.lemmas.List.Concat.{flat_map-append}
use Rattle.std.proofs.lemmas.List.FromFn.{fill_by_all, get_or-map-range_with_len, length-map-range_with_len}
use Rattle.std.proofs.lemmas.Nat.{mul-add-lt, div-mul-add, mod-mul-add}
use Rattle.std.proofs.lemmas.Bool.Decides.{nat_tests}
use Rattle.dk_base.specs.Frames.{Size, area, is_below, in_frame, Picture, raster_number, column, row, frame_of, picture_of, raster}

and_parts : (a b : Bool) → IsTrue (a && b) → IsTrue a × IsTrue b
and_parts true b h = (refl, h)
and_parts false b h = absurd (let e : ⊥ = cc in e)

-- a coordinate that is below the limit is a number below it
pub below_is : (z : ℤ) (limit : ℕ) → IsTrue (is_below z limit) → (n : ℕ) × (z ≡ pos n) × (n < limit)
below_is (pos n) limit h = (n, refl, grind (arith, nat_tests, h))
below_is (negsuc n) limit h = absurd (let e : ⊥ = cc in e)

-- a point of the frame has two numbers
pub inside_is : (size : Size) (x y : ℤ) → IsTrue (in_frame size x y) → (IsTrue (is_below x size.width)) × (IsTrue (is_below y size.height))
inside_is size x y h = and_parts (is_below x size.width) (is_below y size.height) h

pub inside : (size : Size) (x y : ℕ) → x < size.width → y < size.height → in_frame size (pos x) (pos y) ≡ true
inside size x y p q = grind (arith, nat_tests, p, q)

pub raster_number_below : (size : Size) (x y : ℕ) → x < size.width → y < size.height → raster_number size x y < area size
raster_number_below size x y p q = grind (arith, mul-add-lt y size.width x size.height q p)

-- the pixel at column x and row y of frame i
pub at_frame : (size : Size) (i x y : ℕ) → x < size.width → y < size.height →
    let k = i * area size + raster_number size x y in (frame_of size k ≡ i) × (column size k ≡ x) × (row size k ≡ y)
at_frame size i x y p q =
    let lt = raster_number_below size x y p q in
    let m = mod-mul-add i (area size) (raster_number size x y) lt in (
      div-mul-add i (area size) (raster_number size x y) lt,
      ap (λ r. r % size.width) m ∙ mod-mul-add y size.width x p,
      ap (λ r. r / size.width) m ∙ div-mul-add y size.width x p,
    )

range_more : (a n : ℕ) → range_with_len a (suc n) ≡ range_with_len a n ++ (a + n) ∷ []
range_more a zero = ap (λ k. k ∷ []) (sym (add-zero a))
range_more a (suc n) = ap (λ rest. a ∷ rest) (range_more (a + 1) n ∙ ap (λ k. range_with_len (a + 1) n ++ k ∷ []) (shifted a n))
  where
    shifted : (a n : ℕ) → a + 1 + n ≡ a + suc n
    shifted a n = omega arith

-- at each point of the frame the picture has the sample of that place
abbrev pub IsRaster : Size → Picture → List ℕ → Type 0
IsRaster size picture samples = (x y : ℕ) → x < size.width → y < size.height → unsigned_abs (picture (pos x) (pos y)) ≡ get_or samples (y * size.width + x) 0

inside_row : (width height y : ℕ) (samples : List ℕ) → length samples ≡ height * width → y < height → length (take width (drop (y * width) samples)) ≡ width
inside_row width height y samples whole below =
    let fits : suc y * width ≤ height * width = mul-le-mul_right width (omega arith) in
    length-take-le width (drop (y * width) samples) (omega (arith, length-drop (y * width) samples))

read_row : (width y : ℕ) (samples : List ℕ) (x : ℕ) → x < width → get_or (take width (drop (y * width) samples)) x 0 ≡ get_or samples (y * width + x) 0
read_row width y samples x within = get_or-take width (drop (y * width) samples) x 0 within ∙ get_or-drop (y * width) samples x 0

-- the pixels of one row
row_is : (size : Size) (y : ℕ) (picture : Picture) (samples : List ℕ) → length samples ≡ size.height * size.width → y < size.height → IsRaster size picture samples
    → map (λ x. unsigned_abs (picture (pos x) (pos y))) (range_with_len 0 size.width) ≡ take size.width (drop (y * size.width) samples)
row_is size y picture samples whole below is =
    sym (fill_by_all (λ x. unsigned_abs (picture (pos x) (pos y))) (take size.width (drop (y * size.width) samples)) size.width 0 (inside_row size.width size.height y samples whole below)
    (λ x within. read_row size.width y samples x within ∙ sym (is x y within below)))

-- the first rows are the first samples
rows_are : (size : Size) (n : ℕ) (picture : Picture) (samples : List ℕ) → length samples ≡ size.height * size.width → n ≤ size.height → IsRaster size picture samples
    → flat_map (λ y. map (λ x. unsigned_abs (picture (pos x) (pos y))) (range_with_len 0 size.width)) (range_with_len 0 n) ≡ take (n * size.width) samples
rows_are size zero picture samples whole within is =
    let none : 0 ≡ 0 * size.width = omega arith in ap (λ k. take k samples) none
rows_are size (suc n) picture samples whole within is =
    let width = size.width in
    let line = λ (y : ℕ). map (λ x. unsigned_abs (picture (pos x) (pos y))) (range_with_len 0 width) in
    ap (flat_map line) (range_more 0 n) ∙ flat_map-append line (range_with_len 0 n) ((0 + n) ∷ [])
    ∙ ap (λ xs. flat_map line (range_with_len 0 n) ++ xs) (append-nil (line (0 + n)) ∙ ap line (zero-add n) ∙ row_is size n picture samples whole (omega arith) is)
    ∙ ap (λ xs. xs ++ take width (drop (n * width) samples)) (rows_are size n picture samples whole (omega arith) is)
    ∙ sym (take-add (n * width) width samples) ∙ ap (λ k. take k samples) (one_more_row n width)
  where
    one_more_row : (n width : ℕ) → n * width + width ≡ suc n * width
    one_more_row n width = omega arith

-- samples that agree with a picture at each point are its raster
pub raster_is : (size : Size) (picture : Picture) (samples : List ℕ) → length samples ≡ area size → IsRaster size picture samples → raster size picture ≡ samples
unfolding raster
raster_is size picture samples whole is =
    let turned : length samples ≡ size.height * size.width = whole ∙ mul_comm size.width size.height in
    rows_are size size.height picture samples turned (omega arith) is ∙ take_all (size.height * size.width) samples (omega (arith, turned))

-- the raster by the number of its pixels
pub raster_by_number : (size : Size) (picture : Picture) → raster size picture ≡ map (λ k. unsigned_abs (picture (pos (k % size.width)) (pos (k / size.width)))) (range_with_len 0 (area size))
raster_by_number size picture =
    let sample = λ (k : ℕ). unsigned_abs (picture (pos (k % size.width)) (pos (k / size.width))) in
    raster_is size picture (map sample (range_with_len 0 (area size))) (length-map-range_with_len sample 0 (area size))
    (λ x y p q.
    let k = y * size.width + x in
    let below : k < area size = raster_number_below size x y p q in
    sym (get_or-map-range_with_len sample 0 (area size) k k 0 below (zero-add k) ∙
    ap (λ c. unsigned_abs (picture (pos c) (pos (k / size.width)))) (mod-mul-add y size.width x p) ∙
    ap (λ r. unsigned_abs (picture (pos x) (pos r))) (div-mul-add y size.width x p)))

pub length-raster : (size : Size) (picture : Picture) → length (raster size picture) ≡ area size
length-raster size picture = ap length (raster_by_number size picture) ∙ length-map-range_with_len (λ k. unsigned_abs (picture (pos (k % size.width)) (pos (k / size.width)))) 0 (area size)

-- samples are the raster of the picture that they make
pub picture_at : (size : Size) (samples : List ℕ) (x y : ℕ) → x < size.width → y < size.height → picture_of size samples (pos x) (pos y) ≡ pos (slice_index samples (raster_number size x y))
picture_at size samples x y p q = ap (λ b. if b then pos (slice_index samples (raster_number size x y)) else pos 0) (inside size x y p q)
