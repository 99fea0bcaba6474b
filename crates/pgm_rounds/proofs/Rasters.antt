-- The bytes of an image, and its samples.
use Rattle.std.proofs.Common.{◌≡◌, ◌∙◌, sym, ap, refl, subst, [], ◌∷◌, ◌++◌, List, ℕ, suc, ◌+◌, ◌*◌, ◌<◌, ◌≤◌, Bool, true, false, arith, length, take, drop, get_or, append_assoc, length-append, length-take, Result, Ok}
use Rattle.std.specs.List.{flat_map}
use Rattle.std.proofs.Math.Seq.{drop-append_seam}
use Rattle.std.proofs.lemmas.List.{get_or-take}
use Rattle.std.proofs.lemmas.Bool.Decides.{nat_tests}
use Rattle.pgm_codec.specs.declared.header.Header.{Header}
use Rattle.pgm_codec.specs.declared.header.HeaderFault.{HeaderFault}
use Rattle.pgm_codec.specs.Answers.{Reads}
use Rattle.pgm_codec.specs.Images.{is_narrow, size_of, sample_size, spelled}
use Rattle.pgm_codec.specs.Rasters.{sample_by, sample_at, raster_length, BeginsImage}
use Rattle.dk_base.specs.Frames.{Size}
use Rattle.dk_frames.specs.declared.frame.Frame.{Frame}
use Rattle.pgm_rounds.specs.Standing.{IsAccepted, AreSamples, IsNext}
use Rattle.pgm_rounds.proofs.Readings.{OneHeader, SamplesPlaced}

length_spelled : (b : Bool) (s : ℕ) → length (spelled b s) ≡ size_of b
length_spelled true s = refl
length_spelled false s = refl

length_raster : (b : Bool) (samples : List ℕ) → length (flat_map (spelled b) samples) ≡ length samples * size_of b
length_raster b [] = omega arith
length_raster b (s ∷ samples) =
    length-append (spelled b s) (flat_map (spelled b) samples) ∙ grown (size_of b) (length samples) (length (spelled b s)) (length (flat_map (spelled b) samples)) (length_spelled b s) (length_raster b samples)
  where
    grown : (z n a r : ℕ) → a ≡ z → r ≡ n * z → a + r ≡ suc n * z
    grown z n a r d e = omega (arith, d, e)

-- the header as the image has it
abbrev told_by : (bytes : List ℕ) (h : Header) (samples : List ℕ) → BeginsImage bytes h samples → Header
told_by bytes h samples b = record { width = h.width; height = h.height; maxval = h.maxval; length = length b.is_image.header }

-- the length that a header states is that of the image's header
length_of_header : OneHeader → (bytes : List ℕ) (h : Header) (samples : List ℕ) → Reads bytes h → (b : BeginsImage bytes h samples) → h.length ≡ length b.is_image.header
length_of_header one bytes h samples r b = ap (λ x. x.length) (taken_out h (told_by bytes h samples b) (one bytes (Ok h) (Ok (told_by bytes h samples b)) r reads))
  where
    reads : Reads bytes (told_by bytes h samples b)
    reads = record {
      front = b.is_image.header;
      rest = b.is_image.raster ++ b.rest;
      place = b.is_image.place;
      parts = b.parts ∙ ap (λ x. x ++ b.rest) b.is_image.parts ∙ append_assoc b.is_image.header b.is_image.raster b.rest;
      heads = b.is_image.heads;
      positive = b.is_image.positive;
      small = b.is_image.small;
      length_is = refl;
    }

    taken_out : (g h : Header) → ◌≡◌ {A = Result Header HeaderFault} (Ok g) (Ok h) → g ≡ h
    taken_out g h e = cc

-- where the raster is
rest_is : OneHeader → (bytes : List ℕ) (h : Header) (samples : List ℕ) → Reads bytes h → (b : BeginsImage bytes h samples) → drop h.length bytes ≡ b.is_image.raster ++ b.rest
rest_is one bytes h samples r b =
    let i = b.is_image in
    ap (λ n. drop n bytes) (length_of_header one bytes h samples r b) ∙ ap (λ x. drop (length i.header) x) (b.parts ∙ ap (λ x. x ++ b.rest) i.parts ∙ append_assoc i.header i.raster b.rest)
    ∙ drop-append_seam i.header (i.raster ++ b.rest)

raster_bytes : (bytes : List ℕ) (h : Header) (samples : List ℕ) → (b : BeginsImage bytes h samples) → length b.is_image.raster ≡ raster_length h
raster_bytes bytes h samples b = ap length b.is_image.holds.bytes_are ∙ length_raster (is_narrow h.maxval) samples ∙ ap (λ n. n * sample_size h.maxval) b.is_image.holds.count

-- the number of bytes of the image
pub length_of_image : OneHeader → (bytes : List ℕ) (h : Header) (samples : List ℕ) → Reads bytes h → (b : BeginsImage bytes h samples) → h.length + raster_length h ≡ length b.image
length_of_image one bytes h samples r b =
    omega (arith, length_of_header one bytes h samples r b, raster_bytes bytes h samples b, ap length b.is_image.parts, length-append b.is_image.header b.is_image.raster)

-- the raster's bytes are there
pub enough : OneHeader → (bytes : List ℕ) (h : Header) (samples : List ℕ) (raster : List ℕ) → Reads bytes h → BeginsImage bytes h samples → raster ≡ drop h.length bytes → raster_length h ≤ length raster
enough one bytes h samples raster r b e =
    omega (arith, ap length e, ap length (rest_is one bytes h samples r b), length-append b.is_image.raster b.rest, raster_bytes bytes h samples b)

pub enough_of : OneHeader → (narrow : Bool) (bytes : List ℕ) (h : Header) (samples : List ℕ) (raster : List ℕ) → is_narrow h.maxval ≡ narrow → Reads bytes h → BeginsImage bytes h samples → raster ≡ drop h.length bytes
    → h.width * h.height * size_of narrow ≤ length raster
enough_of one narrow bytes h samples raster n r b e = subst (λ x. h.width * h.height * size_of x ≤ length raster) n (enough one bytes h samples raster r b e)

-- lists of one length that agree by place
same_list : (xs ys : List ℕ) → length xs ≡ length ys → ((k : ℕ) → k < length xs → get_or xs k 0 ≡ get_or ys k 0) → xs ≡ ys
same_list [] [] l f = refl
same_list [] (y ∷ ys) l f = absurd (omega arith)
same_list (x ∷ xs) [] l f = absurd (omega arith)
same_list (x ∷ xs) (y ∷ ys) l f = ap (λ a. a ∷ xs) (f 0 (omega arith)) ∙ ap (λ s. y ∷ s) (same_list xs ys (omega arith) (λ k b. f (suc k) (omega arith)))

pub samples_are : OneHeader → SamplesPlaced → (narrow : Bool) (bytes : List ℕ) (h : Header) (samples raster read : List ℕ) → is_narrow h.maxval ≡ narrow → Reads bytes h → BeginsImage bytes h samples → raster ≡ drop h.length bytes
    → AreSamples narrow raster (h.width * h.height) read → read ≡ samples
samples_are one placed narrow bytes h samples raster read n r b e are =
    let i = b.is_image in
    let place : raster ≡ i.raster ++ b.rest = e ∙ rest_is one bytes h samples r b in
    same_list read samples (are.count_is ∙ sym i.holds.count) (λ k l.
    let below : k < h.width * h.height = omega (arith, l, are.count_is) in
    are.each k below ∙ ap (λ x. sample_by x raster k) (sym n) ∙ ap (λ x. sample_at h.maxval x k) place ∙ sym (placed i.raster b.rest samples h.width h.height h.maxval i.holds k below))

pub are_bytes : (raster : List ℕ) (count : ℕ) → count ≤ length raster → AreSamples true raster count (take count raster)
are_bytes raster count l = record {
  count_is = omega (arith, l, length-take count raster);
  each = λ k below. get_or-take count raster k 0 below;
}

-- samples of one byte, and of two
pub narrow : (m : ℕ) → m < 256 → is_narrow m ≡ true
narrow m l = grind (arith, nat_tests)

pub wide : (m : ℕ) → 256 ≤ m → is_narrow m ≡ false
wide m l = grind (arith, nat_tests)

abbrev framed : (h : Header) → List ℕ → Frame
framed h samples = record { width = h.width; height = h.height; samples = samples }

-- the image that was read
pub next_is : OneHeader → (size : Size) (bits : ℕ) (bytes : List ℕ) (h : Header) (len : ℕ) (read : List ℕ) → (a : IsAccepted size bits bytes h) → len ≡ raster_length h → read ≡ a.samples
    → IsNext size bits bytes (h.length + len) (record { width = h.width; height = h.height; samples = read })
next_is one size bits bytes h len read a l e = record {
  image = record { width = h.width; height = h.height; maxval = h.maxval; samples = a.samples };
  first = a.begins.image;
  rest = a.begins.rest;
  parts = a.begins.parts;
  length_is = ap (λ n. h.length + n) l ∙ length_of_image one bytes h a.samples a.headed.reads a.begins;
  is = a.begins.is_image;
  width = a.headed.sized.width;
  height = a.headed.sized.height;
  maxval = a.headed.maxval;
  frame_is = ap (λ x. framed h x) e;
}
