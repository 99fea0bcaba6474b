-- The intervals of images, one after another.
use Rattle.std.proofs.Common.{◌≡◌, ℕ, zero, suc, ◌+◌, ◌<◌, ℤ, List, [], ◌∷◌, ◌++◌, length, map, take, Some, slice_get, refl, ap, sym, ◌∙◌, subst, arith, inl, inr}
use Rattle.std.specs.Option.{option_map}
use Rattle.std.proofs.lemmas.List.{map-append}
use Rattle.std.proofs.Math.Numerals.{add-one}
use Rattle.std.proofs.lemmas.List.Sums.{fold-append}
use Rattle.std.proofs.lemmas.Option.{slice_get-map, slice_get_within, get_or_from_slice_get}
use Rattle.dk_base.specs.declared.ty.Ty.{Ty}
use Rattle.dk_base.specs.declared.ty.Ty.TheVariants.{Unsigned, Signed}
use Rattle.dk_base.specs.Types.{IsType, IsPort, IsIn}
use Rattle.dk_base.specs.Frames.{Size, Picture, picture_at, framed}
use Rattle.pointwise_ir.specs.declared.program.Input.{Input}
use Rattle.pointwise_ir.specs.declared.program.Definition.{Definition}
use Rattle.pointwise_ir.specs.Trees.{tree_of}
use Rattle.pointwise_ir.specs.Programs.{Program, IsProgram, all_types, bodies_of}
use Rattle.pointwise_ir.specs.Meaning.{value, pictures}
use Rattle.pointwise_ir.proofs.Defined.{last_entry, types_are}
use Rattle.pointwise_ir.proofs.Pictured.{first_pictures, picture_of_body, values_in}
use Rattle.value_ranges.specs.declared.interval.Interval.{Interval}
use Rattle.value_ranges.specs.Intervals.{IsBetween}
use Rattle.value_ranges.specs.Parts.{AreBetween}
use Rattle.value_ranges.specs.Ranges.{type_range, interval_of, image_interval, intervals_from}
use Rattle.value_ranges.specs.Images.{AreRangesOf, HoldTypes}

pub port_type : (t : Ty) → IsPort t → IsType t
port_type (Unsigned n) port = record { some = port.0; most = let m = port.1 in omega (arith, m) }
port_type (Signed n) port = absurd port

same_entry : {A : Type 0} (xs : List A) (k : ℕ) (x y : A) → slice_get xs k ≡ Some x → slice_get xs k ≡ Some y → x ≡ y
same_entry xs k x y one other = sym (get_or_from_slice_get xs k x x one) ∙ get_or_from_slice_get xs k y x other

-- the inputs with one more
pub types_more : (inputs : List Input) (ranges : List Interval) (k : ℕ) (input : Input) (r : Interval) → length ranges ≡ k → slice_get inputs k ≡ Some input → ((v : ℤ) → IsIn input.ty v → IsBetween r v) → HoldTypes inputs ranges → HoldTypes inputs (ranges ++ r ∷ [])
types_more inputs ranges k input r long there holds before j other q found is v h = elim (last_entry ranges r q j is) [
  | inl earlier ↦ before j other q found earlier v h
  | inr last ↦
      let P : ℕ → Type 0 = λ n. slice_get inputs n ≡ Some other in
      let same : other ≡ input = same_entry inputs k other input (subst P (last.0 ∙ long) found) there in
      let Q : Interval → Type 0 = λ s. IsBetween s v in
      let R : Input → Type 0 = λ i. IsIn i.ty v in
      subst Q last.1 (holds v (subst R same h))
]

-- the inputs' pictures are those of the round
pub inputs_between : (p : Program) (ranges : List Interval) → length ranges ≡ length p.inputs → HoldTypes p.inputs ranges → AreRangesOf p ranges
inputs_between p ranges long holds round is g r there x y =
    let few : g < length p.inputs = (let w = slice_get_within ranges g r there in omega (arith, w, long)) in
    let here : g < length round = (let l = is.one_each in omega (arith, few, l)) in
    let (input, found) = there_is p.inputs g few in
    let P : Picture → Type 0 = λ q. IsBetween r (q x y) in
    subst P (sym (first_pictures p.size (bodies_of p) round g here)) (holds g input r found there _ ((is.pictures g input found).values x y))
  where
    there_is : {A : Type 0} (xs : List A) (k : ℕ) → k < length xs → (x : A) × (slice_get xs k ≡ Some x)
    there_is [] k lt = absurd (omega arith)
    there_is (x ∷ xs) zero lt = (x, refl)
    there_is (x ∷ xs) (suc k) lt = there_is xs k (omega (arith, lt))

types_at : (inputs : List Input) (images : List Definition) (k n : ℕ) (d : Definition) → n ≡ length inputs + k → slice_get images k ≡ Some d → slice_get (all_types inputs images) n ≡ Some d.ty
types_at [] images k n d e is =
    let P : ℕ → Type 0 = λ j. slice_get (all_types [] images) j ≡ Some d.ty in
    let here : slice_get (map (λ (d : Definition). d.ty) images) k ≡ Some d.ty = slice_get-map (λ (d : Definition). d.ty) images k ∙ ap (option_map (λ (d : Definition). d.ty)) is in
    subst P (let f : k ≡ n = omega (arith, e) in f) here
types_at (i ∷ inputs) images k zero d e is = absurd (omega (arith, e))
types_at (i ∷ inputs) images k (suc n) d e is = types_at inputs images k n d (omega (arith, e)) is

pub image_type : (p : Program) (k : ℕ) (d : Definition) → IsProgram p → slice_get p.images k ≡ Some d → IsType d.ty
image_type p k d is there = types_are p.inputs p.images is.inputs is.images (length p.inputs + k) d.ty (types_at p.inputs p.images k (length p.inputs + k) d refl there)

-- the images with one more
pub images_more : (p : Program) (ranges : List Interval) (k : ℕ) (d : Definition) (r : Interval) → IsProgram p → length ranges ≡ length p.inputs + k → slice_get p.images k ≡ Some d →
    ((size : Size) (known : List Picture) → AreBetween ranges known → (x y : ℤ) → IsIn d.ty (framed size (value size known (tree_of d.body)) x y) → IsBetween r (framed size (value size known (tree_of d.body)) x y)) →
    AreRangesOf p ranges → AreRangesOf p (ranges ++ r ∷ [])
images_more p ranges k d r ok long there made before round is g q found x y = elim (last_entry ranges r q g found) [
  | inl earlier ↦ before round is g q earlier x y
  | inr last ↦
      let f = length p.inputs + k in
      let known = pictures p round in
      let listed : slice_get (bodies_of p) k ≡ Some (tree_of d.body) = slice_get-map (λ (d : Definition). tree_of d.body) p.images k ∙ ap (option_map (λ (d : Definition). tree_of d.body)) there in
      let same : picture_at known f x y ≡ framed p.size (value p.size known (tree_of d.body)) x y = picture_of_body p ok round is.one_each f (tree_of d.body) (k, refl, listed) x y in
      let typed : IsIn d.ty (picture_at known f x y) = (values_in p ok round is f d.ty (types_at p.inputs p.images k (length p.inputs + k) d refl there)).values x y in
      let T : ℤ → Type 0 = λ v. IsIn d.ty v in
      let own : IsBetween r (framed p.size (value p.size known (tree_of d.body)) x y) = made p.size known (before round is) x y (subst T same typed) in
      let P : ℤ → Type 0 = λ v. IsBetween r v in
      let Q : ℕ → Type 0 = λ n. IsBetween r (picture_at known n x y) in
      let R : Interval → Type 0 = λ s. IsBetween s (picture_at known g x y) in
      subst R last.1 (subst Q (sym (last.0 ∙ long)) (subst P (sym same) own))
]

-- the first items of a list and one more
take_more : {A : Type 0} (xs : List A) (k : ℕ) (x : A) → slice_get xs k ≡ Some x → take (suc k) xs ≡ take k xs ++ x ∷ []
take_more [] k x at = absurd (let f : ⊥ = cc in f)
take_more (y ∷ ys) zero x at = let e : y ≡ x = cc in ap (λ z. z ∷ []) e
take_more (y ∷ ys) (suc k) x at = ap (λ zs. y ∷ zs) (take_more ys k x at)

take_step : {A : Type 0} (xs : List A) (k : ℕ) (x : A) → slice_get xs k ≡ Some x → take (k + 1) xs ≡ take k xs ++ x ∷ []
take_step xs k x at = ap (λ (n : ℕ). take n xs) (add-one k) ∙ take_more xs k x at

pub input_more : (inputs : List Input) (ranges new : List Interval) (k : ℕ) (input : Input) (r : Interval) → slice_get inputs k ≡ Some input → r ≡ type_range input.ty → ranges ≡ map (λ (i : Input). type_range i.ty) (take k inputs) → new ≡ ranges ++ r ∷ [] →
    new ≡ map (λ (i : Input). type_range i.ty) (take (k + 1) inputs)
input_more inputs ranges new k input r at is before more =
    let f : Input → Interval = λ (i : Input). type_range i.ty in
    more ∙ ap (λ (l : List Interval). l ++ r ∷ []) before ∙ ap (λ (q : Interval). map f (take k inputs) ++ q ∷ []) is ∙ sym (map-append f (take k inputs) (input ∷ [])) ∙ sym (ap (map f) (take_step inputs k input at))

pub image_more : (start : List Interval) (images : List Definition) (ranges new : List Interval) (k : ℕ) (d : Definition) (r : Interval) → slice_get images k ≡ Some d → r ≡ image_interval d.ty (interval_of ranges (tree_of d.body)) → ranges ≡ intervals_from start (take k images) → new ≡ ranges ++ r ∷ [] →
    new ≡ intervals_from start (take (k + 1) images)
image_more start images ranges new k d r at is before more =
    let one : List Interval → List Interval = λ l. l ++ image_interval d.ty (interval_of l (tree_of d.body)) ∷ [] in
    more ∙ ap (λ (q : Interval). ranges ++ q ∷ []) is ∙ ap one before
    ∙ sym (fold-append (λ (l : List Interval) (d : Definition). l ++ image_interval d.ty (interval_of l (tree_of d.body)) ∷ []) start (take k images) (d ∷ []))
    ∙ sym (ap (intervals_from start) (take_step images k d at))
