-- Values in raster order and the picture that they make.
use Rattle.std.proofs.Common.{◌≡◌, ℕ, ◌+◌, ◌-◌, ◌*◌, ◌/◌, ◌%◌, ◌<◌, ◌≤◌, Bool, true, false, List, [], ◌∷◌, ◌++◌, length, get_or, ℤ, pos, unsigned_abs, refl, ap, sym, ◌∙◌, arith, inl, inr, length-append, if◌then◌else◌}
use Rattle.std.specs.Prelude.{IsTrue}
use Rattle.std.proofs.Math.ListN.{get_or-append}
use Rattle.std.proofs.Math.Seq.{get_or-append_seam}
use Rattle.std.proofs.lemmas.List.{get_or-append_right}
use Rattle.std.proofs.lemmas.Nat.{mul-add-lt, div-mul-add, mod-mul-add}
use Rattle.std.proofs.lemmas.Bool.{cases_lt}
use Rattle.dk_base.specs.Frames.{Size, area, in_frame, Picture}
use Rattle.dk_base.proofs.Rasters.{below_is, inside_is}
use Rattle.dk_base.specs.Frames.{framed}
use Rattle.value_rows.specs.Rows.{IsRow}
use Rattle.pointwise_eval.specs.Planes.{shown}

-- values in raster order are those of a picture, as far as they go
abbrev pub AreSamples : Size → Picture → List ℤ → Type 0
AreSamples size picture values = (k : ℕ) → k < length values → get_or values k (pos 0) ≡ picture (pos (k % size.width)) (pos (k / size.width))

-- the next value in raster order
pub samples_more : (size : Size) (picture : Picture) (values : List ℤ) (x y : ℕ) (v : ℤ) → length values ≡ y * size.width + x → x < size.width → v ≡ picture (pos x) (pos y) →
    AreSamples size picture values → AreSamples size picture (values ++ v ∷ [])
samples_more size picture values x y v long lt is before k below = elim (cases_lt k (length values)) [
  | inl earlier ↦ get_or-append values (v ∷ []) (pos 0) k earlier ∙ before k earlier
  | inr last ↦
      let longer : length (values ++ v ∷ []) ≡ length values + 1 = length-append values (v ∷ []) in
      let here : k ≡ length values = omega (arith, last, below, longer) in
      let column : k % size.width ≡ x = ap (λ n. n % size.width) (here ∙ long) ∙ mod-mul-add y size.width x lt in
      let row : k / size.width ≡ y = ap (λ n. n / size.width) (here ∙ long) ∙ div-mul-add y size.width x lt in
      rw (column, row, here, get_or-append_seam values v [] (pos 0)) is
]

-- a row more
pub longer : (values row : List ℤ) (y width : ℕ) → length values ≡ y * width → length row ≡ width → length (values ++ row) ≡ (y + 1) * width
longer values row y width long whole =
    let sum : length (values ++ row) ≡ length values + length row = length-append values row in
    let product : (y + 1) * width ≡ y * width + width = omega arith in
    omega (arith, sum, product, long, whole)

-- the next row in raster order
pub row_more : (size : Size) (picture : Picture) (values row : List ℤ) (y : ℕ) → length values ≡ y * size.width → IsRow size picture (pos y) row → AreSamples size picture values → AreSamples size picture (values ++ row)
row_more size picture values row y long is before k below = elim (cases_lt k (length values)) [
  | inl earlier ↦ get_or-append values row (pos 0) k earlier ∙ before k earlier
  | inr last ↦
      let longer : length (values ++ row) ≡ length values + length row = length-append values row in
      let whole : length row ≡ size.width = is.whole in
      let x : ℕ = k - y * size.width in
      let here : k ≡ y * size.width + x = omega (arith, last, long) in
      let lt : x < size.width = omega (arith, last, below, long, longer, whole) in
      let column : k % size.width ≡ x = ap (λ n. n % size.width) here ∙ mod-mul-add y size.width x lt in
      let row_is : k / size.width ≡ y = ap (λ n. n / size.width) here ∙ div-mul-add y size.width x lt in
      let entered : get_or (values ++ row) k (pos 0) ≡ get_or row x (pos 0) = get_or-append_right values row (y * size.width) k (pos 0) long (let le : y * size.width ≤ k = omega (arith, last, long) in le) in
      rw (column, row_is) (entered ∙ is.values x lt)
]

same_inside : (b : Bool) (u v : ℤ) → (IsTrue b → u ≡ v) → ◌≡◌ {A = ℤ} (if b then u else pos 0) (if b then v else pos 0)
same_inside true u v h = h refl
same_inside false u v h = refl

-- a value for each pixel
value_at : (size : Size) (picture : Picture) (values : List ℤ) → length values ≡ area size → AreSamples size picture values → (x y : ℕ) → x < size.width → y < size.height →
    get_or values (y * size.width + x) (pos 0) ≡ picture (pos x) (pos y)
value_at size picture values whole samples x y p q =
    let there : y * size.width + x < length values = rw whole (mul-add-lt y size.width x size.height q p) in
    rw (mod-mul-add y size.width x p, div-mul-add y size.width x p) at (samples (y * size.width + x) there)

shown_at : (size : Size) (picture : Picture) (values : List ℤ) → length values ≡ area size → AreSamples size picture values → (x y : ℤ) → shown size values x y ≡ framed size picture x y
shown_at size picture values whole samples x y = same_inside (in_frame size x y) _ _ (λ inside.
    let both = inside_is size x y inside in
    let (n, across, p) = below_is x size.width both.0 in
    let (m, down, q) = below_is y size.height both.1 in
    ap (λ k. get_or values (unsigned_abs y * size.width + k) (pos 0)) (ap unsigned_abs across)
    ∙ ap (λ k. get_or values (k * size.width + n) (pos 0)) (ap unsigned_abs down)
    ∙ value_at size picture values whole samples n m p q
    ∙ sym (ap (λ c. picture c y) across ∙ ap (λ r. picture (pos n) r) down))

-- values of a picture at all pixels show that picture, framed
pub shown_is : (size : Size) (picture : Picture) (values : List ℤ) → length values ≡ area size → AreSamples size picture values → shown size values ≡ framed size picture
shown_is size picture values whole samples i x y = shown_at size picture values whole samples x y i
