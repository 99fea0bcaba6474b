-- Rows and rasters.
use Rattle.std.proofs.Common.{◌≡◌, ◌∙◌, sym, ap, refl, subst, [], ◌∷◌, ◌++◌, List, ℕ, ◌+◌, ◌*◌, ◌<◌, ◌≤◌, arith, length, get_or, length-append, Ok}
use Rattle.std.specs.List.{flat_map, AllByRecursion}
use Rattle.std.proofs.lemmas.List.{take_all}
use Rattle.std.proofs.lemmas.List.Concat.{flat_map-append}
use Rattle.pgm_codec.specs.declared.header.Header.{Header}
use Rattle.pgm_codec.specs.Images.{is_narrow, size_of, sample_bytes, IsRaster}
use Rattle.pgm_codec.specs.Rasters.{sample_at, JudgesRow}
use Rattle.pgm_codec.proofs.Decoding.{AreBytes, decoded}
use Rattle.pgm_codec.proofs.Judged.{is_raster, raster_holds, of_image}

one_row : (width size : ℕ) → width * 1 * size ≡ width * size
one_row width size = omega arith

pub row_is_raster : (read : List ℕ) (h : Header) (row : ℕ) → AreBytes read → JudgesRow read h row (Ok tt) → (samples : List ℕ) × IsRaster read h.width 1 h.maxval samples
row_is_raster read h row are j =
    let b = is_narrow h.maxval in
    let n = h.width * 1 in
    let whole : n * size_of b ≡ length read = one_row h.width (size_of b) ∙ sym j.0 in
    let i = is_raster b read h.width 1 h.maxval refl are (omega (arith, whole)) (λ k l. j.1 k (omega (arith, of_image b k n l, whole))) in
    (decoded b n read, subst (λ x. IsRaster x h.width 1 h.maxval (decoded b n read)) (take_all (n * size_of b) read (omega (arith, whole))) i)

both_bounded : (most : ℕ) (xs ys : List ℕ) → AllByRecursion (λ s. s ≤ most) xs → AllByRecursion (λ s. s ≤ most) ys → AllByRecursion (λ s. s ≤ most) (xs ++ ys)
both_bounded most [] ys a b = b
both_bounded most (x ∷ xs) ys a b = (a.0, both_bounded most xs ys a.1 b)

areas : (width first second : ℕ) → width * first + width * second ≡ width * (first + second)
areas width first second = omega arith

pub rasters_joined : (front back xs ys : List ℕ) (width first second maxval : ℕ) → IsRaster front width first maxval xs → IsRaster back width second maxval ys
    → IsRaster (front ++ back) width (first + second) maxval (xs ++ ys)
rasters_joined front back xs ys width first second maxval i j = record {
  count = length-append xs ys ∙ ap (λ n. n + length ys) i.count ∙ ap (λ n. width * first + n) j.count ∙ areas width first second;
  bounded = both_bounded maxval xs ys i.bounded j.bounded;
  bytes_are = ap (λ x. x ++ back) i.bytes_are ∙ ap (λ x. flat_map (sample_bytes maxval) xs ++ x) j.bytes_are ∙ sym (flat_map-append (sample_bytes maxval) xs ys);
}

pub samples_placed : (bytes rest samples : List ℕ) (width height maxval : ℕ) → IsRaster bytes width height maxval samples
    → (k : ℕ) → k < width * height → get_or samples k 0 ≡ sample_at maxval (bytes ++ rest) k
samples_placed bytes rest samples width height maxval i k l = sym ((raster_holds (is_narrow maxval) bytes rest width height maxval samples refl i).same k l)
