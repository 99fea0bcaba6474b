-- Planes that show the images' pictures, or nothing, and the intervals that their values are in.
use Rattle.std.proofs.Common.{◌≡◌, ℕ, zero, suc, ◌+◌, ◌<◌, ◌≤◌, Bool, true, false, List, [], ◌∷◌, ◌++◌, length, map, ℤ, pos, negsuc, Some, slice_get, refl, ap, sym, ◌∙◌, subst, arith, inl, inr, ◌⊎◌, length-append, if◌then◌else◌}
use Rattle.std.specs.Prelude.{IsTrue}
use Rattle.std.proofs.lemmas.Bool.{cases_lt, cases_eq}
use Rattle.std.proofs.lemmas.List.{length-map}
use Rattle.std.proofs.lemmas.Option.{slice_get_within}
use Rattle.dk_base.specs.declared.ty.Ty.{Ty}
use Rattle.dk_base.specs.Frames.{Size, Picture, picture_at, in_frame}
use Rattle.dk_frames.specs.declared.frame.Frame.{Frame}
use Rattle.pointwise_ir.specs.declared.program.Input.{Input}
use Rattle.pointwise_ir.specs.declared.program.Definition.{Definition}
use Rattle.pointwise_ir.specs.Trees.{Tree}
use Rattle.pointwise_ir.specs.Programs.{Program, IsProgram, types_of, bodies_of}
use Rattle.pointwise_ir.specs.Meaning.{pictures, IsRound}
use Rattle.pointwise_ir.proofs.Pictured.{first_pictures, values_in}
use Rattle.value_ranges.specs.declared.interval.Interval.{Interval}
use Rattle.value_ranges.specs.Intervals.{IsBetween}
use Rattle.value_ranges.specs.Parts.{AreBetween}
use Rattle.value_ranges.specs.Images.{AreRangesOf}
use Rattle.pointwise_eval.specs.declared.plane.Plane.{Plane}
use Rattle.pointwise_eval.specs.declared.plane.Plane.TheVariants.{Gone}
use Rattle.pointwise_eval.specs.Needs.{IsNeeded, image_count}
use Rattle.pointwise_eval.specs.Planes.{values_of, shown, all_shown, IsPlaneOf, AreSameOrGone, ShowsNeeded, AreKnownOrGone}
use Rattle.pointwise_eval.specs.Rounds.{round_of}
use Rattle.pointwise_eval.proofs.Rendered.{frames_shown, earlier_shown, last_shown, entry_shown, same_shown, there_is}

past : (known : List Picture) (g : ℕ) → length known ≤ g → (x y : ℤ) → picture_at known g x y ≡ pos 0
past [] g ge x y = refl
past (p ∷ known) zero ge x y = absurd (omega arith)
past (p ∷ known) (suc g) ge x y = past known g (omega (arith, ge)) x y

gone_zero : (size : Size) (x y : ℤ) → shown size [] x y ≡ pos 0
gone_zero size x y = either (in_frame size x y)
  where
    either : (b : Bool) → (if b then pos 0 else pos 0) ≡ pos 0
    either true = refl
    either false = refl

at_point : (p q : Picture) (x y : ℤ) → p ≡ q → p x y ≡ q x y
at_point p q x y e = ap (λ (r : Picture). r x y) e

-- the planes of the inputs
pub known_inputs : (p : Program) (frames : List Frame) (planes : List Plane) → map values_of planes ≡ map (λ f. map pos f.samples) frames → AreKnownOrGone p.size (pictures p (round_of p.size frames)) planes
known_inputs p frames planes same g =
    let round = round_of p.size frames in
    let shows : picture_at (all_shown p.size planes) g ≡ picture_at round g = ap (λ qs. picture_at qs g) (frames_shown p.size planes frames same) in
    elim (cases_lt g (length round)) [
      | inl few ↦ inl (shows ∙ sym (first_pictures p.size (bodies_of p) round g few))
      | inr many ↦ inr (λ x y. at_point _ _ x y shows ∙ past round g many x y)
    ]

known_last : (size : Size) (types : List Ty) (known : List Picture) (until : List ℕ) (n g : ℕ) (planes : List Plane) (e : Tree) (wanted : Bool) (q : Plane) → g ≡ length planes → (IsTrue wanted → IsNeeded until n g) →
    IsPlaneOf size planes e wanted q → ShowsNeeded size types known until n (planes ++ q ∷ []) →
    (picture_at (all_shown size (planes ++ q ∷ [])) g ≡ picture_at known g) ⊎ ((x y : ℤ) → picture_at (all_shown size (planes ++ q ∷ [])) g x y ≡ pos 0)
known_last size types known until n g planes e true q here needed is shows =
    let longer = length-append planes (q ∷ []) in
    inl (shows.pictures g (needed refl) (let lt : g < length (planes ++ q ∷ []) = omega (arith, here, longer) in lt))
known_last size types known until n g planes e false q here needed is shows = inr (λ x y.
    at_point _ _ x y (last_shown size planes q g here) ∙ ap (λ vs. shown size vs x y) (is.empty refl) ∙ gone_zero size x y)

-- the planes with one more
pub known_more : (size : Size) (types : List Ty) (known : List Picture) (until : List ℕ) (n m : ℕ) (planes : List Plane) (e : Tree) (wanted : Bool) (q : Plane) → length planes ≡ m → (IsTrue wanted → IsNeeded until n m) →
    IsPlaneOf size planes e wanted q → ShowsNeeded size types known until n (planes ++ q ∷ []) → AreKnownOrGone size known planes → AreKnownOrGone size known (planes ++ q ∷ [])
known_more size types known until n m planes e wanted q count needed is shows before g = elim (cases_lt g (length planes)) [
  | inl low ↦
      let same = earlier_shown size planes q g low in
      elim (before g) [
        | inl known ↦ inl (same ∙ known)
        | inr none ↦ inr (λ x y. at_point _ _ x y same ∙ none x y)
      ]
  | inr high ↦ elim (cases_eq g (length planes)) [
    | inl here ↦
        let P : ℕ → Type 0 = λ j. IsTrue wanted → IsNeeded until n j in
        known_last size types known until n g planes e wanted q here (subst P (sym (here ∙ count)) needed) is shows
    | inr beyond ↦
        let longer = length-append planes (q ∷ []) in
        let long : length (all_shown size (planes ++ q ∷ [])) ≡ length (planes ++ q ∷ []) = length-map (planes ++ q ∷ []) (λ (r : Plane). shown size (values_of r)) in
        inr (past (all_shown size (planes ++ q ∷ [])) g (omega (arith, high, beyond, longer, long)))
  ]
]

-- the planes after some that were let go of
pub known_after : (size : Size) (known : List Picture) (old new : List Plane) → ((g : ℕ) → AreSameOrGone (slice_get old g) (slice_get new g)) → AreKnownOrGone size known old → AreKnownOrGone size known new
known_after size known old new each before g = elim (each g) [
  | inl same ↦
      let shows = same_shown size old new g same in
      elim (before g) [
        | inl known ↦ inl (shows ∙ known)
        | inr none ↦ inr (λ x y. at_point _ _ x y shows ∙ none x y)
      ]
  | inr gone ↦ inr (λ x y. at_point _ _ x y (entry_shown size new g Gone gone) ∙ gone_zero size x y)
]

-- 0, which a picture is outside the frame, is in its interval
zero_between : (p : Program) (round : List Picture) (ranges : List Interval) → IsProgram p → IsRound p round → length ranges ≡ image_count p → AreRangesOf p ranges → (g : ℕ) (r : Interval) → slice_get ranges g ≡ Some r → IsBetween r (pos 0)
zero_between p round ranges ok is count are g r there =
    let a = length-append (map (λ (i : Input). i.ty) p.inputs) (map (λ (d : Definition). d.ty) p.images) in
    let b : length (map (λ (i : Input). i.ty) p.inputs) ≡ length p.inputs = length-map p.inputs (λ (i : Input). i.ty) in
    let c : length (map (λ (d : Definition). d.ty) p.images) ≡ length p.images = length-map p.images (λ (d : Definition). d.ty) in
    let w = slice_get_within ranges g r there in
    let many : length ranges ≡ length p.inputs + length p.images = count in
    let (t, found) = there_is (types_of p) g (let lt : g < length (types_of p) = omega (arith, a, b, c, w, many) in lt) in
    let P : ℤ → Type 0 = λ v. IsBetween r v in
    subst P ((values_in p ok round is g t found).outside (negsuc 0) (pos 0) refl) (are round is g r there (negsuc 0) (pos 0))

-- the values of such planes are in the images' intervals
pub planes_between : (p : Program) (round : List Picture) (ranges : List Interval) (planes : List Plane) → IsProgram p → IsRound p round → length ranges ≡ image_count p → AreRangesOf p ranges → AreKnownOrGone p.size (pictures p round) planes →
    AreBetween ranges (all_shown p.size planes)
planes_between p round ranges planes ok is count are known g r there x y = elim (known g) [
  | inl same ↦ (let P : Picture → Type 0 = λ q. IsBetween r (q x y) in subst P (sym same) (are round is g r there x y))
  | inr none ↦ (let P : ℤ → Type 0 = λ v. IsBetween r v in subst P (sym (none x y)) (zero_between p round ranges ok is count are g r there))
]
