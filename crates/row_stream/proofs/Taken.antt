-- A header and all its lines are an image.
use Rattle.std.proofs.Common.{◌≡◌, ℕ, ◌+◌, ◌*◌, ◌<◌, ◌≤◌, List, [], ◌∷◌, ◌++◌, length, refl, ap, sym, subst, ◌∙◌, arith, append-nil}
use Rattle.std.specs.Prelude.{slice_index}
use Rattle.std.proofs.lemmas.List.{take_all}
use Rattle.pgm_codec.specs.declared.header.Header.{Header}
use Rattle.pgm_codec.specs.Images.{is_narrow, sample_size, IsRaster, IsImage}
use Rattle.pgm_codec.specs.Rasters.{sample_at}
use Rattle.pgm_codec.specs.Answers.{Reads}
use Rattle.pgm_codec.proofs.Decoding.{decoded, length_decoded, decoded_at, spelled_again, all_bounded}
use Rattle.row_stream.specs.RowReading.{AreRows}
use Rattle.row_stream.proofs.Rasters.{row_bytes, times}

pub turned : (w h s : ℕ) → h * w * s ≡ w * h * s
turned w h s = ap (λ z. z * s) (let e : h * w ≡ w * h = grind arith in e)

module _ (header : Header) (raster : List ℕ) (are : AreRows header header.height raster) where
  abbrev pub samples : List ℕ
  samples = decoded (is_narrow header.maxval) (header.width * header.height) raster

  count : length raster ≡ header.width * header.height * sample_size header.maxval
  count = are.length_is ∙ row_bytes header.height header ∙ turned header.width header.height (sample_size header.maxval)

  pub sample_is : (k : ℕ) → k < header.width * header.height → slice_index samples k ≡ sample_at header.maxval raster k
  sample_is k l = decoded_at (is_narrow header.maxval) (header.width * header.height) raster k l

  pub is_raster : IsRaster raster header.width header.height header.maxval samples
  is_raster = record {
    count = length_decoded (is_narrow header.maxval) (header.width * header.height) raster;
    bounded = all_bounded header.maxval samples (λ k l.
        let inside : k < header.width * header.height = subst (λ z. k < z) (length_decoded (is_narrow header.maxval) (header.width * header.height) raster) l in
        subst (λ z. z ≤ header.maxval) (sym (sample_is k inside)) (are.fit k (subst (λ z. (k + 1) * sample_size header.maxval ≤ z) (sym count) (times k (header.width * header.height) (sample_size header.maxval) inside))));
    bytes_are = sym (spelled_again (is_narrow header.maxval) (header.width * header.height) raster are.bytes (omega (arith, count))
        ∙ take_all (header.width * header.height * sample_size header.maxval) raster (omega (arith, count)));
  }

nothing_behind : (front rest : List ℕ) → length (front ++ rest) ≡ length front → rest ≡ []
nothing_behind [] [] e = refl
nothing_behind [] (x ∷ rest) e = absurd (omega (arith, e))
nothing_behind (x ∷ front) rest e = nothing_behind front rest (omega (arith, e))

-- the bytes of the header and of the lines are one image
pub is_image : (header : Header) (head raster : List ℕ) → Reads head header → length head ≡ header.length → (are : AreRows header header.height raster) → IsImage (head ++ raster) header.width header.height header.maxval (samples header raster are)
is_image header head raster reads exact are =
    let none : reads.rest ≡ [] = nothing_behind reads.front reads.rest (ap length (sym reads.parts) ∙ exact ∙ reads.length_is) in
    let whole : head ≡ reads.front = reads.parts ∙ ap (λ z. reads.front ++ z) none ∙ append-nil reads.front in
    record {
      header = reads.front;
      raster = raster;
      place = reads.place;
      parts = ap (λ z. z ++ raster) whole;
      heads = reads.heads;
      positive = reads.positive;
      small = reads.small;
      holds = is_raster header raster are;
    }
