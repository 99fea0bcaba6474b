-- Samples of two bytes that are read, and samples that are written.
use Rattle.std.proofs.Common.{◌≡◌, ◌∙◌, sym, ap, refl, subst, [], ◌∷◌, List, ℕ, zero, suc, ◌+◌, ◌*◌, ◌%◌, ◌<◌, ◌≤◌, true, false, arith, length, map, take, drop, get_or, length-take}
use Rattle.std.specs.Simd.{first_chunks}
use Rattle.std.specs.Int.{w16, from_be_bytes}
use Rattle.std.specs.List.{All, flat_map}
use Rattle.std.proofs.lemmas.List.{get_or-take}
use Rattle.std.proofs.lemmas.List.Elements.{All-head, All-tail}
use Rattle.pgm_codec.specs.Images.{spelled, raster_of}
use Rattle.pgm_rounds.specs.Standing.{AreSamples}
use Rattle.pgm_rounds.proofs.Rasters.{narrow}

abbrev pub joined : List ℕ → ℕ
joined pair = from_be_bytes w16 pair

abbrev pub joined_all : ℕ → List ℕ → List ℕ
joined_all count bytes = map joined (first_chunks 2 count bytes)

joined_is : (high low : ℕ) → joined (high ∷ low ∷ []) ≡ 256 * high + low
joined_is high low = omega arith

length_joined : (count : ℕ) (bytes : List ℕ) → length (joined_all count bytes) ≡ count
length_joined zero bytes = refl
length_joined (suc count) bytes = ap suc (length_joined count (drop 2 bytes))

each_joined : (count : ℕ) (bytes : List ℕ) → 2 * count ≤ length bytes → (k : ℕ) → k < count → get_or (joined_all count bytes) k 0 ≡ 256 * get_or bytes (2 * k) 0 + get_or bytes (2 * k + 1) 0
each_joined zero bytes l k below = absurd (omega arith)
each_joined (suc count) [] l k below = absurd (omega arith)
each_joined (suc count) (a ∷ []) l k below = absurd (omega arith)
each_joined (suc count) (a ∷ b ∷ bytes) l zero below = joined_is a b
each_joined (suc count) (a ∷ b ∷ bytes) l (suc k) below =
    let high : suc (suc (2 * k)) ≡ 2 * suc k = omega arith in
    let low : suc (suc (2 * k + 1)) ≡ 2 * suc k + 1 = omega arith in
    each_joined count bytes (omega arith) k (omega arith) ∙ ap (λ n. 256 * get_or (a ∷ b ∷ bytes) n 0 + get_or bytes (2 * k + 1) 0) high ∙ ap (λ n. 256 * get_or (a ∷ b ∷ bytes) (2 * suc k) 0 + get_or (a ∷ b ∷ bytes) n 0) low

pub are_pairs : (raster front : List ℕ) (count half : ℕ) → 2 * count ≤ length raster → front ≡ take (2 * count) raster → half ≡ count → AreSamples false raster count (joined_all half front)
are_pairs raster front count half l f h = subst (λ n. AreSamples false raster count (joined_all n front)) (sym h) record {
  count_is = length_joined count front;
  each = λ k below.
      let long : length front ≡ 2 * count = omega (arith, l, ap length f, length-take (2 * count) raster) in
      let same : (j : ℕ) → j < 2 * count → get_or front j 0 ≡ get_or raster j 0 = λ j i. ap (λ x. get_or x j 0) f ∙ get_or-take (2 * count) raster j 0 i in
      each_joined count front (omega (arith, long)) k below ∙ ap (λ x. 256 * x + get_or front (2 * k + 1) 0) (same (2 * k) (omega arith)) ∙ ap (λ x. 256 * get_or raster (2 * k) 0 + x) (same (2 * k + 1) (omega arith));
}

all_narrow : (maxval : ℕ) (samples : List ℕ) → maxval < 256 → All (λ s. s ≤ maxval) samples → map (λ s. s % 256) samples ≡ flat_map (spelled true) samples
all_narrow maxval [] below all = refl
all_narrow maxval (s ∷ samples) below all =
    let least : s ≤ maxval = All-head (λ x. x ≤ maxval) s samples all in
    let same : s % 256 ≡ s = omega (arith, least, below) in
    ap (λ x. x ∷ map (λ s. s % 256) samples) same ∙ ap (λ x. s ∷ x) (all_narrow maxval samples below (All-tail (λ x. x ≤ maxval) s samples all))

-- samples of one byte are their own bytes
pub narrow_raster : (maxval : ℕ) (samples : List ℕ) → maxval < 256 → All (λ s. s ≤ maxval) samples → map (λ s. s % 256) samples ≡ raster_of maxval samples
narrow_raster maxval samples below all = all_narrow maxval samples below all ∙ ap (λ b. flat_map (spelled b) samples) (sym (narrow maxval below))

each_byte : (samples : List ℕ) → samples ≡ flat_map (spelled true) samples
each_byte [] = refl
each_byte (s ∷ samples) = ap (λ x. s ∷ x) (each_byte samples)

-- bytes are the raster of the samples that they are
pub bytes_raster : (maxval : ℕ) (samples : List ℕ) → maxval < 256 → samples ≡ raster_of maxval samples
bytes_raster maxval samples below = each_byte samples ∙ ap (λ b. flat_map (spelled b) samples) (sym (narrow maxval below))
