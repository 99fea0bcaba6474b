-- The first fault of a file, after images that were streamed.
use Rattle.std.proofs.Common.{◌≡◌, ℕ, ◌+◌, ◌*◌, ◌<◌, ◌≤◌, ◌⊎◌, inl, inr, List, [], ◌∷◌, ◌++◌, length, map, drop, Option, Some, None, Err, refl, ap, sym, subst, ◌∙◌, arith, append-nil, length-append}
use Rattle.dk_base.specs.declared.TheConstants.{MAX_FILE_IMAGES}
use Rattle.std.specs.List.{AllByRecursion}
use Rattle.std.specs.Io.KnownBytes.{prepend_known}
use Rattle.std.proofs.Math.Seq.{drop-append_seam}
use Rattle.dk_base.specs.Frames.{Size}
use Rattle.pgm_codec.specs.declared.header.Header.{Header}
use Rattle.pgm_codec.specs.declared.raster.RasterFault.{RasterFault}
use Rattle.pgm_codec.specs.declared.raster.RasterFault.TheVariants.{SampleTooGreat, Short}
use Rattle.std.specs.Prelude.{Bool, true, false}
use Rattle.pgm_codec.specs.Images.{Image, AreImages, sample_size, size_of, is_narrow}
use Rattle.pgm_codec.specs.Rasters.{JudgesRaster, JudgesRow, AllFit, FirstGreat, sample_at, row_length, behind}
use Rattle.pgm_codec.specs.Rounds.{FitsInputs}
use Rattle.pgm_rounds.specs.declared.fault.FileFault.{FileFault}
use Rattle.pgm_rounds.specs.declared.fault.FileFault.TheVariants as image
use Rattle.pgm_rounds.specs.Files.{joined, Taken, Refused, IsRefused, IsFault, FitsFile}
use Rattle.row_stream.specs.RowReading.{AreRows}
use Rattle.row_stream.specs.Images.{FitsImage}
use Rattle.row_stream.specs.Ends.{one_port, greatest}
use Rattle.row_stream.proofs.Rasters.{side, placed_front, placed_back, fit_both, times, row_bytes}
use Rattle.row_stream.proofs.Taken.{turned}

-- each image is a round
abbrev rounds_of : List Image → List (List Image)
rounds_of images = map (λ (i : Image). i ∷ []) images

joined_is : (images : List Image) → joined (rounds_of images) ++ [] ≡ images
joined_is [] = refl
joined_is (i ∷ images) = ap (λ z. i ∷ z) (joined_is images)

count_is : (images : List Image) → length (joined (rounds_of images) ++ []) ≡ length images
count_is images = ap length (joined_is images)

whole_is : (size : Size) (bits : ℕ) (images : List Image) → AllByRecursion (FitsImage size (greatest bits)) images → AllByRecursion (FitsInputs size.width size.height (bits ∷ [])) (rounds_of images)
whole_is size bits [] f = tt
whole_is size bits (i ∷ images) f = ((f.0.width, f.0.height, f.0.maxval, tt), whole_is size bits images f.1)

taken_is : (size : Size) (bits : ℕ) (images : List Image) (bytes rest : List ℕ) → AreImages bytes images → AllByRecursion (FitsImage size (greatest bits)) images → Taken (one_port size bits) (bytes ++ rest) (rounds_of images) [] bytes rest
taken_is size bits images bytes rest are fit = record {
  parts = refl;
  images = subst (λ z. AreImages bytes z) (sym (joined_is images)) are;
  whole = whole_is size bits images fit;
  begun = tt;
  room = (let l : 0 < 1 = omega arith in l);
}

-- images that are all of a file
pub fits_file : (size : Size) (bits : ℕ) (images : List Image) (bytes file : List ℕ) → file ≡ bytes → AreImages bytes images → AllByRecursion (FitsImage size (greatest bits)) images → 0 < length images → length images ≤ MAX_FILE_IMAGES
    → FitsFile (one_port size bits) file (map (λ (i : Image). i ∷ []) images)
fits_file size bits images bytes file is are fit some few = record {
  images = images;
  file = (some, few, subst (λ z. AreImages z images) (sym is) are);
  fits = record { joined = sym (sym (append-nil (joined (rounds_of images))) ∙ joined_is images); fit = whole_is size bits images fit };
}

as_fault : (size : Size) (bits number offset : ℕ) (bytes rest : List ℕ) (f : FileFault) → IsRefused (one_port size bits) bytes f → Refused size bits number offset rest f → IsFault (one_port size bits) bytes f
as_fault size bits number offset bytes rest (image.Magic at) i r = i
as_fault size bits number offset bytes rest image.LongHeader i r = i
as_fault size bits number offset bytes rest (image.Number at) i r = i
as_fault size bits number offset bytes rest (image.Range at) i r = i
as_fault size bits number offset bytes rest (image.Size width height) i r = i
as_fault size bits number offset bytes rest (image.Maxval maxval) i r = i
as_fault size bits number offset bytes rest (image.SampleTooGreat index) i r = i
as_fault size bits number offset bytes rest (image.Short held need) i r = i
as_fault size bits number offset bytes rest image.Count i r = absurd r
as_fault size bits number offset bytes rest (image.Round held need) i r = absurd r

-- an image after these is refused
pub first_refused : (size : Size) (bits count : ℕ) (images : List Image) (bytes rest file : List ℕ) (f : FileFault) → file ≡ bytes ++ rest → AreImages bytes images → AllByRecursion (FitsImage size (greatest bits)) images → length images ≡ count
    → count < MAX_FILE_IMAGES → (0 < count → 0 < length rest) → Refused size bits count (length bytes) rest f → IsFault (one_port size bits) file f
first_refused size bits count images bytes rest file f parts are fit number few some r =
    let is : length (joined (rounds_of images) ++ []) ≡ count = count_is images ∙ number in
    subst (λ z. IsFault (one_port size bits) z f) (sym parts)
    (as_fault size bits count (length bytes) (bytes ++ rest) rest f (record {
      rounds = rounds_of images;
      further = [];
      front = bytes;
      rest = rest;
      bits = bits;
      taken = taken_is size bits images bytes rest are fit;
      some = λ l. some (subst (λ z. 0 < z) is l);
      few = subst (λ z. z < MAX_FILE_IMAGES) (sym is) few;
      input = refl;
      refused = subst (λ z. Refused size bits z (length bytes) rest f) (sym is) r;
    }) r)

-- a byte after as many images as a file may have
pub first_too_many : (size : Size) (bits : ℕ) (images : List Image) (bytes rest file : List ℕ) → file ≡ bytes ++ rest → AreImages bytes images → AllByRecursion (FitsImage size (greatest bits)) images → length images ≡ MAX_FILE_IMAGES → 0 < length rest
    → IsFault (one_port size bits) file image.Count
first_too_many size bits images bytes rest file parts are fit number some =
    subst (λ z. IsFault (one_port size bits) z image.Count) (sym parts) (record {
      rounds = rounds_of images;
      further = [];
      front = bytes;
      rest = rest;
      taken = taken_is size bits images bytes rest are fit;
      full = count_is images ∙ number;
      more = some;
    })

-- what is specified of the front and of what is left
pub told_parts : (xs : List ℕ) (known : Option (List ℕ)) (file : List ℕ) → prepend_known xs known ≡ Some file → (more : List ℕ) × (known ≡ Some more) × (file ≡ xs ++ more)
told_parts xs None file e = absurd (let z : ⊥ = cc in z)
told_parts xs (Some more) file e = (more, refl, sym (taken (xs ++ more) file e))
  where
    taken : (p q : List ℕ) → ◌≡◌ {A = Option (List ℕ)} (Some p) (Some q) → p ≡ q
    taken p q e = cc

-- ---- a line that is refused is the raster's fault

pub some_size : (b : Bool) → 0 < size_of b
some_size true = omega arith
some_size false = omega arith

pub columns : (width column s n : ℕ) → 0 < s → (column + 1) * s ≤ n → n ≤ width * s → column < width
columns width column s n some a b = by (side column width)
  where
    over : (j : ℕ) → column ≡ width + j → ⊥
    over j e = let d : (column + 1) * s ≡ width * s + (j * s + s) = ap (λ z. (z + 1) * s) e ∙ spread width j s in omega (arith, d, a, b, some)
      where
        spread : (w j s : ℕ) → (w + j + 1) * s ≡ w * s + (j * s + s)
        spread w j s = grind arith

    by : (column < width) ⊎ ((j : ℕ) × (column ≡ width + j)) → column < width
    by (inl l) = l
    by (inr p) = absurd (over p.0 p.1)

whole_all : (n c s a b d i : ℕ) → a ≡ n * s → (c + 1) * s ≤ b → i ≡ n + c → (i + 1) * s ≤ a + (b + d)
whole_all n c s a b d i e l f = let g : (i + 1) * s ≡ n * s + (c + 1) * s = ap (λ z. (z + 1) * s) f ∙ spread n c s in omega (arith, e, l, g)
  where
    spread : (n c s : ℕ) → (n + c + 1) * s ≡ n * s + (c + 1) * s
    spread n c s = grind arith

within_read : (s j c n : ℕ) → (j + 1) * s ≤ c * s → (c + 1) * s ≤ n → (j + 1) * s ≤ n
within_read s j c n a b = let e : (c + 1) * s ≡ c * s + s = grind arith in omega (arith, a, b, e)

pub behind_is : (header : Header) (head rest : List ℕ) → length head ≡ header.length → behind header (head ++ rest) ≡ rest
behind_is header head rest exact = ap (λ n. drop n (head ++ rest)) (sym exact) ∙ drop-append_seam head rest

module _ (header : Header) (row : ℕ) (raster : List ℕ) (are : AreRows header row raster) (below : row < header.height) where
  count : length raster ≡ row * header.width * sample_size header.maxval
  count = are.length_is ∙ row_bytes row header

  within_rows : (column : ℕ) → column < header.width → row * header.width + column < header.width * header.height
  within_rows column l = let e : (row + 1) * header.width ≤ header.height * header.width = times row header.height header.width below in
      let f : header.height * header.width ≡ header.width * header.height = grind arith in omega (arith, e, f, l)

  pub great_index : (read : List ℕ) (index : ℕ) → length read ≤ row_length header → JudgesRow read header row (Err (SampleTooGreat index)) → index < header.width * header.height
  great_index read index within j =
      subst (λ z. z < header.width * header.height) (sym j.2) (within_rows j.0 (columns header.width j.0 (sample_size header.maxval) (length read) (some_size (is_narrow header.maxval)) j.1.held within))

  placed : (read more : List ℕ) (j : ℕ) → (j + 1) * sample_size header.maxval ≤ length read → sample_at header.maxval (raster ++ (read ++ more)) (row * header.width + j) ≡ sample_at header.maxval read j
  placed read more j l = placed_back (is_narrow header.maxval) raster (read ++ more) (row * header.width) j count ∙ placed_front (is_narrow header.maxval) read more j l

  pub first_great : (read more : List ℕ) (index : ℕ) → JudgesRow read header row (Err (SampleTooGreat index)) → FirstGreat header.maxval (raster ++ (read ++ more)) index
  first_great read more index j = record {
    held = subst (λ z. (index + 1) * sample_size header.maxval ≤ z) (sym (length-append raster (read ++ more) ∙ ap (λ z. length raster + z) (length-append read more)))
        (whole_all (row * header.width) j.0 (sample_size header.maxval) (length raster) (length read) (length more) index count j.1.held j.2);
    great = subst (λ z. header.maxval < z) (sym (ap (λ z. sample_at header.maxval (raster ++ (read ++ more)) z) j.2 ∙ placed read more j.0 j.1.held)) j.1.great;
    before = λ k l. before_it k (subst (λ z. k < z) j.2 l) (side k (row * header.width));
  }
    where
      before_it : (k : ℕ) → k < row * header.width + j.0 → (k < row * header.width) ⊎ ((i : ℕ) × (k ≡ row * header.width + i)) → sample_at header.maxval (raster ++ (read ++ more)) k ≤ header.maxval
      before_it k l (inl b) =
          let here : (k + 1) * sample_size header.maxval ≤ length raster = subst (λ z. (k + 1) * sample_size header.maxval ≤ z) (sym count) (times k (row * header.width) (sample_size header.maxval) b) in
          subst (λ z. z ≤ header.maxval) (sym (placed_front (is_narrow header.maxval) raster (read ++ more) k here)) (are.fit k here)
      before_it k l (inr p) =
          let below : p.0 < j.0 = omega (arith, l, p.1) in
          let here : (p.0 + 1) * sample_size header.maxval ≤ length read = within_read (sample_size header.maxval) p.0 j.0 (length read) (times p.0 j.0 (sample_size header.maxval) below) j.1.held in
          subst (λ z. z ≤ header.maxval) (sym (ap (λ z. sample_at header.maxval (raster ++ (read ++ more)) z) p.1 ∙ placed read more p.0 here)) (j.1.before p.0 below)

  -- the raster's fault, with all that is left
  pub judged_raster : (head read more : List ℕ) (f : RasterFault) → length head ≡ header.length → length read ≤ row_length header → (length read < row_length header → more ≡ []) → JudgesRow read header row (Err f)
      → JudgesRaster (head ++ (raster ++ (read ++ more))) header (Err f)
  judged_raster head read more (SampleTooGreat index) exact within end j = record {
    inside = great_index read index within j;
    first = subst (λ z. FirstGreat header.maxval z index) (sym (behind_is header head (raster ++ (read ++ more)) exact)) (first_great read more index j);
  }
  judged_raster head read more (Short held need) exact within end j =
      let none : more ≡ [] = end j.0 in
      let all : length (behind header (head ++ (raster ++ (read ++ more)))) ≡ length raster + length read =
      ap length (behind_is header head (raster ++ (read ++ more)) exact) ∙ (let e : length (raster ++ (read ++ more)) ≡ length raster + length read = omega (arith, length-append raster (read ++ more), length-append read more, ap length none) in e) in
      record {
        held_is = j.2 ∙ ap (λ z. z + length read) (sym are.length_is) ∙ sym all;
        need_is = j.3;
        short = subst (λ z. held < z) (sym (j.3 ∙ sym (row_bytes header.height header ∙ turned header.width header.height (sample_size header.maxval))))
            (let e : (row + 1) * row_length header ≤ header.height * row_length header = times row header.height (row_length header) below in
            let d : (row + 1) * row_length header ≡ row * row_length header + row_length header = omega arith in omega (arith, j.2, j.0, e, d));
        fit = subst (λ z. AllFit header.maxval z) (sym (behind_is header head (raster ++ (read ++ more)) exact)) (fit_both header.maxval (row * header.width) raster (read ++ more) count are.fit
            (subst (λ z. AllFit header.maxval z) (sym (ap (λ z. read ++ z) none ∙ append-nil read)) j.1));
      }
