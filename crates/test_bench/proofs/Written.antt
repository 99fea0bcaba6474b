-- Images, one after another.
use Rattle.std.proofs.Common.{◌≡◌, ℕ, suc, ◌+◌, ◌*◌, ◌-◌, ◌^◌, ◌<◌, ◌≤◌, List, [], ◌∷◌, ◌++◌, length, map, ap, sym, subst, ◌∙◌, arith, append_assoc, append-nil, Some, get_or, inl, inr}
use Rattle.std.specs.Prelude.{◌⊎◌, slice_get, slice_index}
use Rattle.std.proofs.lemmas.Option.{slice_get-get_or, get_or_from_slice_get}
use Rattle.std.proofs.Math.Pow.{pow_mono}
use Rattle.stimulus.specs.Showing.{IsEnough}
use Rattle.std.specs.List.{flat_map, range_with_len}
use Rattle.std.proofs.lemmas.Grind.{flat_map-append}
use Rattle.std.proofs.Math.Nat.{mul-le-mul_right, suc-mul}
use Rattle.std.proofs.lemmas.List.FromFn.{map-range_with_len_more}
use Rattle.dk_base.specs.Frames.{Size, area}
use Rattle.pgm_codec.specs.Images.{Image, header_of, raster_of, file_of}
use Rattle.test_bench.specs.declared.picture.Shown.{Shown}
use Rattle.test_bench.specs.Writing.{HasEnough, IsWhole, AreWhole, samples_at}
use Rattle.stimulus.proofs.Ranges.{flat_more}
use Rattle.stimulus.proofs.Streams.{map_at, read_at}
use Rattle.test_bench.proofs.Clocks.{there}
use Rattle.wiring.specs.Rules.{IsPortWidth}

abbrev bytes_of : Image → List ℕ
bytes_of q = header_of q.width q.height q.maxval ++ raster_of q.maxval q.samples

one_more : (qs : List Image) (q : Image) → file_of (qs ++ q ∷ []) ≡ file_of qs ++ bytes_of q
one_more qs q = flat_map-append (λ (x : Image). bytes_of x) qs (q ∷ []) ∙ ap (λ x. file_of qs ++ x) (append-nil (bytes_of q))

-- one image of a round more
pub image_added : (f : ℕ → Image) (k : ℕ) (file old new : List ℕ) → old ≡ file ++ file_of (map f (range_with_len 0 k)) → new ≡ old ++ bytes_of (f k) → new ≡ file ++ file_of (map f (range_with_len 0 (k + 1)))
image_added f k file old new before after =
    after ∙ ap (λ z. z ++ bytes_of (f k)) before ∙ append_assoc file (file_of (map f (range_with_len 0 k))) (bytes_of (f k))
    ∙ ap (λ z. file ++ z) (sym (one_more (map f (range_with_len 0 k)) (f k)) ∙ ap (λ z. file_of z) (sym (map-range_with_len_more f 0 k k (omega arith))))

-- one round more
pub round_added : (f : ℕ → List Image) (k : ℕ) (old new : List ℕ) → old ≡ file_of (flat_map f (range_with_len 0 k)) → new ≡ old ++ file_of (f k) → new ≡ file_of (flat_map f (range_with_len 0 (k + 1)))
round_added f k old new before after =
    after ∙ ap (λ z. z ++ file_of (f k)) before ∙ sym (flat_map-append (λ (x : Image). bytes_of x) (flat_map f (range_with_len 0 k)) (f k))
    ∙ ap (λ z. file_of z) (ap (λ n. flat_map f (range_with_len 0 k) ++ f n) (let e : k ≡ 0 + k = omega arith in e) ∙ sym (flat_more f 0 k))

-- the samples of a picture
pub kept_at : (pictures : List Shown) (k : ℕ) (kept : Shown) → slice_get pictures k ≡ Some kept → samples_at pictures k ≡ kept.samples.items
kept_at pictures k kept e = read_at (map (λ (p : Shown). p.samples.items) pictures) k kept.samples.items [] (map_at (λ (p : Shown). p.samples.items) pictures k kept e)

-- the samples of a round are there
pub round_there : (rounds round pixels count : ℕ) → round < rounds → rounds * pixels ≤ count → round * pixels + pixels ≤ count
round_there rounds round pixels count l h = let e : suc round * pixels ≤ rounds * pixels = mul-le-mul_right pixels (omega (arith, l)) in omega (arith, e, h, suc-mul round pixels)

pub whole_at : (size : Size) (ports : List ℕ) (rounds : ℕ) (pictures : List Shown) → AreWhole size ports rounds pictures → (k : ℕ) (d : Shown) → k < length pictures → IsWhole (rounds * area size) (slice_index ports (2 * k + 1)) (get_or pictures k d)
whole_at size ports rounds pictures w k d l = w.each k (get_or pictures k d) (slice_get-get_or pictures k d l)

pub enough_more : (pictures : List Shown) (asked k : ℕ) (d : Shown) → ((j : ℕ) → j < k → HasEnough pictures asked j) → k < length pictures → IsEnough (length pictures) asked (get_or pictures k d).count → (j : ℕ) → j < k + 1 → HasEnough pictures asked j
enough_more pictures asked k d h l e j less =
    elim (either j k less) as (λ _. HasEnough pictures asked j) [
      | inl before ↦ h j before
      | inr same ↦ λ kept at. subst (λ z. IsEnough (length pictures) asked z.count) (get_or_from_slice_get pictures k kept d (ap (λ z. slice_get pictures z) (sym same) ∙ at)) e
    ]
  where
    either : (j k : ℕ) → j < k + 1 → (j < k) ⊎ (j ≡ k)
    either j k less = grind (arith, less)

pub some_maxval : (m w : ℕ) → m ≡ 2 ^ w - 1 → 1 ≤ w → 0 < m
some_maxval m w e l = let one : 2 ^ 1 ≤ 2 ^ w = pow_mono l in omega (arith, one, e)

pub width_at : (size : Size) (ports : List ℕ) (rounds : ℕ) (pictures : List Shown) → AreWhole size ports rounds pictures → (k : ℕ) → k < length pictures → IsPortWidth (slice_index ports (2 * k + 1))
width_at size ports rounds pictures w k l = let x = there pictures k l in (w.each k x.0 x.1).width
