-- What a raster is specified to be is what it is.
use Rattle.std.proofs.Common.{◌≡◌, ◌∙◌, sym, ap, refl, subst, ◌++◌, List, ℕ, ◌+◌, ◌*◌, ◌<◌, ◌≤◌, Bool, true, false, arith, length, take, drop, get_or, append_assoc, length-append, Result, Ok, Err}
use Rattle.std.specs.List.{flat_map}
use Rattle.std.proofs.lemmas.List.{get_or-take, get_or-drop, take-append-drop, take_all, length-take}
use Rattle.std.proofs.Math.Seq.{drop-append_seam}
use Rattle.pgm_codec.specs.declared.header.Header.{Header}
use Rattle.pgm_codec.specs.declared.raster.RasterFault.{RasterFault}
use Rattle.pgm_codec.specs.declared.raster.RasterFault.TheVariants.{SampleTooGreat, Short}
use Rattle.pgm_codec.specs.Answers.{Reads}
use Rattle.pgm_codec.specs.Images.{is_narrow, size_of, sample_size, spelled, IsRaster}
use Rattle.pgm_codec.specs.Rasters.{sample_by, sample_at, AllFit, FirstGreat, behind, raster_length, BeginsImage, TooGreat, TooShort, JudgesRaster}
use Rattle.pgm_codec.proofs.Decoding.{AreBytes, decoded, length_decoded, spelled_again, sample_again, length_spelled, decoded_at, all_bounded, bounded_at}
use Rattle.pgm_codec.proofs.Unique.{one_front, is_whole, reads_whole}

pub sample_taken : (b : Bool) (bytes : List ℕ) (n k : ℕ) → (k + 1) * size_of b ≤ n → sample_by b (take n bytes) k ≡ sample_by b bytes k
sample_taken true bytes n k l = get_or-take n bytes k 0 (omega arith)
sample_taken false bytes n k l =
    ap (λ x. 256 * x + get_or (take n bytes) (2 * k + 1) 0) (get_or-take n bytes (2 * k) 0 (omega arith))
    ∙ ap (λ x. 256 * get_or bytes (2 * k) 0 + x) (get_or-take n bytes (2 * k + 1) 0 (omega arith))

-- a whole sample of a raster is one of the image
in_image : (b : Bool) (k p n : ℕ) → (k + 1) * size_of b ≤ n → n ≤ p * size_of b → k < p
in_image true k p n l m = omega arith
in_image false k p n l m = omega arith

pub of_image : (b : Bool) (k p : ℕ) → k < p → (k + 1) * size_of b ≤ p * size_of b
of_image true k p l = omega arith
of_image false k p l = omega arith

earlier : (b : Bool) (j k n : ℕ) → j < k → (k + 1) * size_of b ≤ n → (j + 1) * size_of b ≤ n
earlier true j k n l m = omega arith
earlier false j k n l m = omega arith

taken_length : (n : ℕ) (bytes : List ℕ) → (length (take n bytes) ≤ n) × (length (take n bytes) ≤ length bytes)
taken_length n bytes = (omega (arith, length-take n bytes), omega (arith, length-take n bytes))

pub great_whole : (maxval : ℕ) (bytes : List ℕ) (n k : ℕ) → FirstGreat maxval (take n bytes) k → FirstGreat maxval bytes k
great_whole maxval bytes n k f =
    let b = is_narrow maxval in
    let l = taken_length n bytes in
    let within : (k + 1) * size_of b ≤ n = omega (arith, f.held, l.0) in
    record {
      held = omega (arith, f.held, l.1);
      great = subst (λ x. maxval < x) (sample_taken b bytes n k within) f.great;
      before = λ j e. subst (λ x. x ≤ maxval) (sample_taken b bytes n j (earlier b j k n e within)) (f.before j e);
    }

pub too_great : (bytes : List ℕ) (h : Header) (seen : List ℕ) (k : ℕ) → seen ≡ take (raster_length h) (behind h bytes) → FirstGreat h.maxval seen k → TooGreat bytes h k
too_great bytes h seen k e f =
    let g : FirstGreat h.maxval (take (raster_length h) (behind h bytes)) k = subst (λ x. FirstGreat h.maxval x k) e f in
    record {
      inside = in_image (is_narrow h.maxval) k (h.width * h.height) (length (take (raster_length h) (behind h bytes))) g.held (taken_length (raster_length h) (behind h bytes)).0;
      first = great_whole h.maxval (behind h bytes) (raster_length h) k g;
    }

all_taken : (n : ℕ) (bytes : List ℕ) → length (take n bytes) < n → take n bytes ≡ bytes
all_taken n bytes l = take_all n bytes (omega (arith, length-take n bytes))

pub too_short : (bytes : List ℕ) (h : Header) (seen : List ℕ) (held need : ℕ) → seen ≡ take (raster_length h) (behind h bytes) → held ≡ length seen → need ≡ raster_length h → held < need → AllFit h.maxval seen
    → TooShort bytes h held need
too_short bytes h seen held need e a n l f =
    let all : take (raster_length h) (behind h bytes) ≡ behind h bytes = all_taken (raster_length h) (behind h bytes) (omega (arith, ap length e)) in
    let same : seen ≡ behind h bytes = e ∙ all in
    record { held_is = a ∙ ap length same; need_is = n; short = l; fit = subst (λ x. AllFit h.maxval x) same f }

-- what follows the header
rest_is : (bytes : List ℕ) (h : Header) (r : Reads bytes h) → behind h bytes ≡ r.rest
rest_is bytes h r = ap (λ n. drop n bytes) r.length_is ∙ ap (λ x. drop (length r.front) x) r.parts ∙ drop-append_seam r.front r.rest

bytes_of_rest : (bytes : List ℕ) (n : ℕ) → AreBytes bytes → AreBytes (drop n bytes)
bytes_of_rest bytes n are k = subst (λ x. x < 256) (sym (get_or-drop n bytes k 0)) (are (n + k))

pub is_raster : (b : Bool) (raster : List ℕ) (width height maxval : ℕ) → is_narrow maxval ≡ b → AreBytes raster → width * height * size_of b ≤ length raster
    → ((k : ℕ) → k < width * height → sample_by b raster k ≤ maxval) → IsRaster (take (width * height * size_of b) raster) width height maxval (decoded b (width * height) raster)
is_raster b raster width height maxval e are enough fit =
    let n = width * height in
    record {
      count = length_decoded b n raster;
      bounded = all_bounded maxval (decoded b n raster) (λ k l. let below : k < n = omega (arith, length_decoded b n raster) in subst (λ x. x ≤ maxval) (sym (decoded_at b n raster k below)) (fit k below));
      bytes_are = sym (spelled_again b n raster are enough) ∙ ap (λ x. flat_map (spelled x) (decoded b n raster)) (sym e);
    }

pub begins_image : (bytes : List ℕ) (h : Header) (seen : List ℕ) → AreBytes bytes → Reads bytes h → seen ≡ take (raster_length h) (behind h bytes) → raster_length h ≤ length seen → AllFit h.maxval seen
    → (samples : List ℕ) × BeginsImage bytes h samples
begins_image bytes h seen are r e enough fit =
    let b = is_narrow h.maxval in
    let n = h.width * h.height in
    let raster = behind h bytes in
    let need = raster_length h in
    let l = taken_length need raster in
    let whole : need ≤ length raster = omega (arith, enough, ap length e, l.1) in
    let bounds : (k : ℕ) → k < n → sample_by b raster k ≤ h.maxval =
    λ k below. subst (λ x. x ≤ h.maxval) (ap (λ x. sample_by b x k) e ∙ sample_taken b raster need k (of_image b k n below)) (fit k (omega (arith, enough, of_image b k n below))) in (
      decoded b n raster,
      record {
        image = r.front ++ take need raster;
        rest = drop need raster;
        parts = r.parts ∙ ap (λ x. r.front ++ x) (sym (rest_is bytes h r) ∙ sym (take-append-drop need raster)) ∙ sym (append_assoc r.front (take need raster) (drop need raster));
        is_image = record {
          header = r.front;
          raster = take need raster;
          place = r.place;
          parts = refl;
          heads = r.heads;
          positive = r.positive;
          small = r.small;
          holds = is_raster b raster h.width h.height h.maxval refl (bytes_of_rest bytes h.length are) whole bounds;
        };
      },
    )

-- what an image says of the bytes after its header
pub record Holds (raster : List ℕ) (width height maxval : ℕ) (samples : List ℕ) : Type 0 where
  pub enough : width * height * sample_size maxval ≤ length raster
  pub same : (k : ℕ) → k < width * height → sample_at maxval raster k ≡ get_or samples k 0
  pub fit : (k : ℕ) → k < width * height → sample_at maxval raster k ≤ maxval

pub raster_holds : (b : Bool) (raster rest : List ℕ) (width height maxval : ℕ) (samples : List ℕ) → is_narrow maxval ≡ b → IsRaster raster width height maxval samples → Holds (raster ++ rest) width height maxval samples
raster_holds b raster rest width height maxval samples e i =
    let s = is_narrow maxval in
    let same : (k : ℕ) → k < width * height → sample_at maxval (raster ++ rest) k ≡ get_or samples k 0 =
    λ k l. ap (λ x. sample_by s (x ++ rest) k) i.bytes_are ∙ sample_again s samples rest k (omega (arith, i.count)) in
    record {
      enough = omega (arith, ap length i.bytes_are, length_spelled s samples, ap (λ x. x * size_of s) i.count, length-append raster rest);
      same = same;
      fit = λ k l. subst (λ x. x ≤ maxval) (sym (same k l)) (bounded_at maxval samples i.bounded k);
    }

pub image_holds : (bytes : List ℕ) (h : Header) (samples : List ℕ) → Reads bytes h → BeginsImage bytes h samples → Holds (behind h bytes) h.width h.height h.maxval samples
image_holds bytes h samples r x =
    let i = x.is_image in
    let parts : bytes ≡ i.header ++ (i.raster ++ x.rest) = x.parts ∙ ap (λ y. y ++ x.rest) i.parts ∙ append_assoc i.header i.raster x.rest in
    let f : r.front ≡ i.header = one_front r.front i.header r.rest (i.raster ++ x.rest) (reads_whole bytes h r) (is_whole i.header h.width h.height h.maxval i.place i.heads) (sym r.parts ∙ parts) in
    let is : behind h bytes ≡ i.raster ++ x.rest = ap (λ n. drop n bytes) (r.length_is ∙ ap length f) ∙ ap (λ y. drop (length i.header) y) parts ∙ drop-append_seam i.header (i.raster ++ x.rest) in
    subst (λ y. Holds y h.width h.height h.maxval samples) (sym is) (raster_holds (is_narrow h.maxval) i.raster x.rest h.width h.height h.maxval samples refl i.holds)

-- one answer
ordered : (i j : ℕ) → (i < j → ⊥) → (j < i → ⊥) → i ≡ j
ordered i j f g = grind arith

pub one_great : (maxval : ℕ) (bytes : List ℕ) (i j : ℕ) → FirstGreat maxval bytes i → FirstGreat maxval bytes j → i ≡ j
one_great maxval bytes i j a b = ordered i j (λ l. omega (arith, a.great, b.before i l)) (λ l. omega (arith, b.great, a.before j l))

pub great_not_fit : (maxval : ℕ) (bytes : List ℕ) (i : ℕ) → FirstGreat maxval bytes i → AllFit maxval bytes → ⊥
great_not_fit maxval bytes i a f = omega (arith, a.great, f i a.held)

image_not_great : (bytes : List ℕ) (h : Header) (samples : List ℕ) (i : ℕ) → Reads bytes h → BeginsImage bytes h samples → TooGreat bytes h i → ⊥
image_not_great bytes h samples i r x g = omega (arith, g.first.great, (image_holds bytes h samples r x).fit i g.inside)

image_not_short : (bytes : List ℕ) (h : Header) (samples : List ℕ) (held need : ℕ) → Reads bytes h → BeginsImage bytes h samples → TooShort bytes h held need → ⊥
image_not_short bytes h samples held need r x s = omega (arith, s.held_is, s.need_is, s.short, (image_holds bytes h samples r x).enough)

same_short : (a b c d : ℕ) → a ≡ b → c ≡ d → Short a c ≡ Short b d
same_short a b c d e f = ap (λ x. Short x c) e ∙ ap (λ x. Short b x) f

fault_answer : (bytes : List ℕ) (h : Header) (x y : RasterFault) → JudgesRaster bytes h (Err x) → JudgesRaster bytes h (Err y) → x ≡ y
fault_answer bytes h (SampleTooGreat i) (SampleTooGreat j) a b = ap (λ n. SampleTooGreat n) (one_great h.maxval (behind h bytes) i j a.first b.first)
fault_answer bytes h (SampleTooGreat i) (Short held need) a b = absurd (great_not_fit h.maxval (behind h bytes) i a.first b.fit)
fault_answer bytes h (Short held need) (SampleTooGreat j) a b = absurd (great_not_fit h.maxval (behind h bytes) j b.first a.fit)
fault_answer bytes h (Short held need) (Short held' need') a b = same_short held held' need need' (a.held_is ∙ sym b.held_is) (a.need_is ∙ sym b.need_is)

pub one_raster_answer : (bytes : List ℕ) (h : Header) → Reads bytes h → (x y : Result Unit RasterFault) → JudgesRaster bytes h x → JudgesRaster bytes h y → x ≡ y
one_raster_answer bytes h r (Ok a) (Ok b) x y = refl
one_raster_answer bytes h r (Ok a) (Err (SampleTooGreat i)) x y = absurd (image_not_great bytes h x.0 i r x.1 y)
one_raster_answer bytes h r (Ok a) (Err (Short held need)) x y = absurd (image_not_short bytes h x.0 held need r x.1 y)
one_raster_answer bytes h r (Err (SampleTooGreat i)) (Ok b) x y = absurd (image_not_great bytes h y.0 i r y.1 x)
one_raster_answer bytes h r (Err (Short held need)) (Ok b) x y = absurd (image_not_short bytes h y.0 held need r y.1 x)
one_raster_answer bytes h r (Err f) (Err g) x y = ap (λ n. Err n) (fault_answer bytes h f g x y)

-- the bytes that are looked at
pub seen_is : (bytes : List ℕ) (h : Header) (seen raster : List ℕ) (need : ℕ) → seen ≡ take need raster → need ≡ raster_length h → raster ≡ behind h bytes → seen ≡ take (raster_length h) (behind h bytes)
seen_is bytes h seen raster need a b c = a ∙ ap (λ n. take n raster) b ∙ ap (λ x. take (raster_length h) x) c

-- a sample of the image
narrow_within : (b : Bool) (raster : List ℕ) (width height maxval index : ℕ) → is_narrow maxval ≡ b → width * height * sample_size maxval ≤ length raster → index < width * height → (index + 1) * size_of b ≤ length raster
narrow_within b raster width height maxval index e l i =
    let m : width * height * size_of b ≤ length raster = subst (λ x. width * height * size_of x ≤ length raster) e l in
    omega (arith, of_image b index (width * height) i, m)

pub sample_within : (b : Bool) (bytes : List ℕ) (h : Header) (raster : List ℕ) (index : ℕ) → is_narrow h.maxval ≡ b → Reads bytes h → ((samples : List ℕ) × BeginsImage bytes h samples) → raster ≡ behind h bytes → index < h.width * h.height
    → (index + 1) * size_of b ≤ length raster
sample_within b bytes h raster index e r x same i =
    let holds = image_holds bytes h x.0 r x.1 in
    subst (λ y. (index + 1) * size_of b ≤ length y) (sym same) (narrow_within b (behind h bytes) h.width h.height h.maxval index e holds.enough i)

pub sample_is : (b : Bool) (bytes : List ℕ) (h : Header) (raster : List ℕ) (index value : ℕ) → is_narrow h.maxval ≡ b → Reads bytes h → raster ≡ behind h bytes → index < h.width * h.height → value ≡ sample_by b raster index
    → (samples : List ℕ) → BeginsImage bytes h samples → value ≡ get_or samples index 0
sample_is b bytes h raster index value e r same i v samples x =
    v ∙ ap (λ y. sample_by b y index) same ∙ ap (λ c. sample_by c (behind h bytes) index) (sym e) ∙ (image_holds bytes h samples r x).same index i
