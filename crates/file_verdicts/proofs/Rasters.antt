-- The bytes after a header are judged as its raster, and those of a row as a row.
use Rattle.std.proofs.Common.{◌≡◌, refl, subst, sym, List, ℕ, zero, suc, ◌+◌, ◌*◌, ◌/◌, ◌^◌, ◌<◌, ◌≤◌, ◌⊎◌, inl, inr, Bool, true, false, arith, length, take, get_or, Result, Ok, Err}
use Rattle.std.specs.List.{All}
use Rattle.std.proofs.lemmas.Bool.{cases_lt}
use Rattle.std.proofs.lemmas.List.{get_or_past}
use Rattle.pgm_codec.specs.declared.header.Header.{Header}
use Rattle.pgm_codec.specs.declared.raster.RasterFault.{RasterFault}
use Rattle.pgm_codec.specs.declared.raster.RasterFault.TheVariants.{SampleTooGreat, Short}
use Rattle.pgm_codec.specs.Answers.{Reads}
use Rattle.pgm_codec.specs.Images.{is_narrow, size_of}
use Rattle.pgm_codec.specs.Rasters.{sample_at, AllFit, FirstGreat, behind, raster_length, row_length, JudgesRaster, JudgesRow}
use Rattle.pgm_codec.proofs.Decoding.{AreBytes}
use Rattle.pgm_codec.proofs.Judged.{too_great, too_short, begins_image}

-- the first place below n at which a number is above a bound
record First (f : ℕ → ℕ) (most n : ℕ) : Type 0 where
  place : ℕ
  inside : place < n
  great : most < f place
  before : (k : ℕ) → k < place → f k ≤ most

abbrev AllBelow : (ℕ → ℕ) → (most n : ℕ) → Type 0
AllBelow f most n = (k : ℕ) → k < n → f k ≤ most

one_more : (f : ℕ → ℕ) (most n : ℕ) → AllBelow f most n → f n ≤ most → AllBelow f most (suc n)
one_more f most n all l k below = by (cases_lt k n)
  where
    by : (k < n) ⊎ (n ≤ k) → f k ≤ most
    by (inl b) = all k b
    by (inr b) = let same : n ≡ k = omega arith in subst (λ j. f j ≤ most) same l

first_above : (f : ℕ → ℕ) (most n : ℕ) → AllBelow f most n ⊎ First f most n
first_above f most zero = inl (λ k l. absurd (omega arith))
first_above f most (suc n) = by (first_above f most n) (cases_lt most (f n))
  where
    by : AllBelow f most n ⊎ First f most n → (most < f n) ⊎ (f n ≤ most) → AllBelow f most (suc n) ⊎ First f most (suc n)
    by (inr x) l = inr (record { place = x.place; inside = omega (arith, x.inside); great = x.great; before = x.before })
    by (inl all) (inl l) = inr (record { place = n; inside = omega arith; great = l; before = all })
    by (inl all) (inr l) = inl (one_more f most n all l)

-- the number of whole samples in bytes
abbrev whole_samples : Bool → ℕ → ℕ
whole_samples true bytes = bytes
whole_samples false bytes = bytes / 2

inside_whole : (b : Bool) (k bytes : ℕ) → k < whole_samples b bytes → (k + 1) * size_of b ≤ bytes
inside_whole true k bytes l = omega arith
inside_whole false k bytes l = omega arith

whole_inside : (b : Bool) (k bytes : ℕ) → (k + 1) * size_of b ≤ bytes → k < whole_samples b bytes
whole_inside true k bytes l = omega arith
whole_inside false k bytes l = omega arith

first_great : (maxval : ℕ) (bytes : List ℕ) → AllFit maxval bytes ⊎ ((index : ℕ) × FirstGreat maxval bytes index)
first_great maxval bytes = by (first_above (sample_at maxval bytes) maxval (whole_samples (is_narrow maxval) (length bytes)))
  where
    by : AllBelow (sample_at maxval bytes) maxval (whole_samples (is_narrow maxval) (length bytes)) ⊎ First (sample_at maxval bytes) maxval (whole_samples (is_narrow maxval) (length bytes)) → AllFit maxval bytes ⊎ ((index : ℕ) × FirstGreat maxval bytes index)
    by (inl all) = inl (λ k l. all k (whole_inside (is_narrow maxval) k (length bytes) l))
    by (inr x) = inr (x.place, record { held = inside_whole (is_narrow maxval) x.place (length bytes) x.inside; great = x.great; before = x.before })

abbrev IsJudged : List ℕ → Header → Type 0
IsJudged bytes header = (answer : Result Unit RasterFault) × JudgesRaster bytes header answer

pub raster_judged : (bytes : List ℕ) (header : Header) → AreBytes bytes → Reads bytes header → IsJudged bytes header
raster_judged bytes header are r = by (first_great header.maxval seen) (cases_lt (length seen) (raster_length header))
  where
    seen : List ℕ
    seen = take (raster_length header) (behind header bytes)

    by : AllFit header.maxval seen ⊎ ((index : ℕ) × FirstGreat header.maxval seen index) → (length seen < raster_length header) ⊎ (raster_length header ≤ length seen) → IsJudged bytes header
    by (inr x) l = (Err (SampleTooGreat x.0), too_great bytes header seen x.0 refl x.1)
    by (inl fit) (inl l) = (Err (Short (length seen) (raster_length header)), too_short bytes header seen (length seen) (raster_length header) refl refl refl l fit)
    by (inl fit) (inr l) = (Ok tt, begins_image bytes header seen are r refl l fit)

pub row_judged : (read : List ℕ) (header : Header) (row : ℕ) → length read ≤ row_length header → (answer : Result Unit RasterFault) × JudgesRow read header row answer
row_judged read header row most = by (first_great header.maxval read) (cases_lt (length read) (row_length header))
  where
    by : AllFit header.maxval read ⊎ ((column : ℕ) × FirstGreat header.maxval read column) → (length read < row_length header) ⊎ (row_length header ≤ length read) → (answer : Result Unit RasterFault) × JudgesRow read header row answer
    by (inr x) l = (Err (SampleTooGreat (row * header.width + x.0)), (x.0, x.1, refl))
    by (inl fit) (inl l) = (Err (Short (row * row_length header + length read) (raster_length header)), (l, fit, refl, refl))
    by (inl fit) (inr l) = (Ok tt, (omega arith, fit))

-- numbers below 256 are bytes, and past the end there is 0
pub are_bytes : (bytes : List ℕ) → All (λ byte. byte < 2 ^ 8) bytes → AreBytes bytes
are_bytes bytes all k = by (cases_lt k (length bytes))
  where
    by : (k < length bytes) ⊎ (length bytes ≤ k) → get_or bytes k 0 < 256
    by (inl l) = all k 0 l
    by (inr l) = subst (λ x. x < 256) (sym (get_or_past bytes k 0 l)) (omega arith)
