-- The image file is one picture, as it is written and read.
use Rattle.std.proofs.Common.{◌≡◌, ℕ, ◌*◌, ◌<◌, ◌≤◌, List, [], ◌∷◌, ◌++◌, length, append-nil, map, arith, refl, sym, ap, ◌∙◌, lit≤, lit<, decimal, codes}
use Rattle.std.specs.List.{range_with_len, AllByRecursion}
use Rattle.std.proofs.lemmas.List.FromFn.{length-map-range_with_len}
use Rattle.std.proofs.lemmas.Fmt.{length-decimal-le}
use Rattle.std.proofs.lemmas.Grind.{common_steps}
use Rattle.pgm_codec.specs.Images.{raster_of, header_of, file_of, CanBeWritten}
use Rattle.pgm_codec.specs.Rounds.{Fits}
use Rattle.made_program.specs.Draws.{drawn, after}
use Rattle.made_program.specs.Programs.{width_of, height_of, count_of, seed_of}
use Rattle.made_program.specs.Images.{samples_from, samples_of, picture_of, image_of}

-- samples of one byte are their own raster
raster_is : (samples : List ℕ) → raster_of 255 samples ≡ samples
raster_is [] = refl
raster_is (sample ∷ samples) = ap (λ l. sample ∷ l) (raster_is samples)

pub image_written : (n : ℕ) → image_of n ≡ file_of (picture_of n ∷ [])
image_written n =
    let header = header_of (width_of n) (height_of n) 255 in
    sym (append-nil (header ++ raster_of 255 (samples_of n)) ∙ ap (λ l. header ++ l) (raster_is (samples_of n)))

bounded_by : (s : ℕ) (places : List ℕ) → AllByRecursion (λ sample. sample ≤ 255) (map (λ place. drawn 256 (after place s)) places)
bounded_by s [] = tt
bounded_by s (place ∷ places) = (omega arith, bounded_by s places)

sample_count : (count s : ℕ) → length (samples_from count s) ≡ count
sample_count count s = length-map-range_with_len (λ place. drawn 256 (after place s)) 0 count

pub can_be_written : (n : ℕ) → CanBeWritten (picture_of n)
can_be_written n = record {
  width = omega arith;
  height = omega arith;
  positive = lit< tt;
  small = lit≤ tt;
  count = sample_count (width_of n * height_of n) (after (7 * count_of n) (seed_of n));
  bounded = bounded_by (after (7 * count_of n) (seed_of n)) (range_with_len 0 (width_of n * height_of n));
}

pub one_round : (n : ℕ) → Fits (width_of n) (height_of n) (8 ∷ []) (picture_of n ∷ []) ((picture_of n ∷ []) ∷ [])
one_round n = record { joined = refl; fit = ((refl, refl, lit≤ tt, tt), tt) }

number : (n : ℕ) → n < 1000 → length (decimal n) ≤ 3
number n l = length-decimal-le 3 n (omega arith) (omega (arith, l)) (omega (arith, l))

area_bound : (w h : ℕ) → w ≤ 256 → h ≤ 256 → w * h ≤ 65536
area_bound w h k l = grind arith

pub image_length : (n : ℕ) → length (image_of n) ≤ 65600
image_length n =
    by (decimal (width_of n)) (decimal (height_of n)) (decimal 255) (samples_of n) (number (width_of n) (omega arith)) (number (height_of n) (omega arith)) (number 255 (lit< tt))
    (omega (arith, sample_count (width_of n * height_of n) (after (7 * count_of n) (seed_of n)), area_bound (width_of n) (height_of n) (omega arith) (omega arith)))
  where
    by : (a b c d : List ℕ) → length a ≤ 3 → length b ≤ 3 → length c ≤ 3 → length d ≤ 65536 → length ((codes "P5\n" ++ (a ++ (codes " " ++ (b ++ (codes "\n" ++ (c ++ codes "\n")))))) ++ d) ≤ 65600
    by a b c d h k l m = grind (arith, common_steps)
