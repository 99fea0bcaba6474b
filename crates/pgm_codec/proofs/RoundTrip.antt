-- One reading, and the round trip.
use Rattle.std.proofs.Common.{◌≡◌, ◌∙◌, sym, ap, refl, [], ◌∷◌, ◌++◌, List, ℕ, suc, ◌+◌, ◌*◌, ◌^◌, ◌<◌, ◌≤◌, Bool, arith, length, get_or, append_assoc, length-append, decimal}
use Rattle.std.specs.List.{flat_map, AllByRecursion}
use Rattle.std.proofs.lemmas.List.{append_cancel_left}
use Rattle.std.proofs.lemmas.Fmt.{digits_decimal, digits_value-decimal, decimal_nonempty, length-decimal-le}
use Rattle.std.proofs.lemmas.Str.Parse.{IsNumeralModel, numerals_by_fold}
use Rattle.std.proofs.Common.{rules}
use Rattle.dk_base.specs.Ascii.{value_after}
use Rattle.pgm_codec.specs.Headers.{Field, Fields, last, field, HeaderText, IsHeader, AreDigits, IsNumeral, IsGap, none, capped}
use Rattle.pgm_codec.specs.Images.{is_narrow, spelled, raster_of, Image, IsImageOf, AreImages, IsFile, CanBeWritten, header_of, file_of}
use Rattle.pgm_codec.specs.Rasters.{sample_by}
use Rattle.pgm_codec.specs.Answers.{Whole}
use Rattle.pgm_codec.proofs.Decoding.{sample_again}
use Rattle.pgm_codec.proofs.Unique.{one_front, one_header, is_whole, same_small}

abbrev made : ℕ → ℕ → ℕ → List ℕ → Image
made w h m s = record { width = w; height = h; maxval = m; samples = s }

same_picture : (w w' h h' m m' : ℕ) (s s' : List ℕ) → w ≡ w' → h ≡ h' → m ≡ m' → s ≡ s' → made w h m s ≡ made w' h' m' s'
same_picture w w' h h' m m' s s' a b c d = ap (λ x. made x h m s) a ∙ ap (λ x. made w' x m s) b ∙ ap (λ x. made w' h' x s) c ∙ ap (λ x. made w' h' m' x) d

-- lists of one length that agree by place
same_list : (xs ys : List ℕ) → length xs ≡ length ys → ((k : ℕ) → k < length xs → get_or xs k 0 ≡ get_or ys k 0) → xs ≡ ys
same_list [] [] l f = refl
same_list [] (y ∷ ys) l f = absurd (omega arith)
same_list (x ∷ xs) [] l f = absurd (omega arith)
same_list (x ∷ xs) (y ∷ ys) l f = ap (λ a. a ∷ xs) (f 0 (omega arith)) ∙ ap (λ s. y ∷ s) (same_list xs ys (omega arith) (λ k b. f (suc k) (omega arith)))

-- samples from their bytes, whatever follows
same_samples : (b : Bool) (xs ys rest more : List ℕ) → length xs ≡ length ys → flat_map (spelled b) xs ++ rest ≡ flat_map (spelled b) ys ++ more → xs ≡ ys
same_samples b xs ys rest more l e =
    same_list xs ys l (λ k below. sym (sample_again b xs rest k below) ∙ ap (λ s. sample_by b s k) e ∙ sample_again b ys more k (omega arith))

image_whole : (bytes : List ℕ) (p : Image) → (i : IsImageOf bytes p) → Whole i.header
image_whole bytes p i = is_whole i.header p.width p.height p.maxval i.place i.heads

image_parts : (bytes rest : List ℕ) (p : Image) → (i : IsImageOf bytes p) → bytes ++ rest ≡ i.header ++ (i.raster ++ rest)
image_parts bytes rest p i = ap (λ x. x ++ rest) i.parts ∙ append_assoc i.header i.raster rest

pub one_image : (first second rest more : List ℕ) (p q : Image) → IsImageOf first p → IsImageOf second q → first ++ rest ≡ second ++ more → (first ≡ second) × (p ≡ q)
one_image first second rest more p q i j e =
    let parts : i.header ++ (i.raster ++ rest) ≡ j.header ++ (j.raster ++ more) = sym (image_parts first rest p i) ∙ e ∙ image_parts second more q j in
    let f : i.header ≡ j.header = one_front i.header j.header (i.raster ++ rest) (j.raster ++ more) (image_whole first p i) (image_whole second q j) parts in
    let n = one_header i.header j.header p.width p.height p.maxval i.place q.width q.height q.maxval j.place f i.heads j.heads in
    let m : p.maxval ≡ q.maxval = same_small p.maxval q.maxval i.small j.small n.maxval in
    let behind : i.raster ++ rest ≡ j.raster ++ more = append_cancel_left i.header (i.raster ++ rest) (j.raster ++ more) (parts ∙ ap (λ x. x ++ (j.raster ++ more)) (sym f)) in
    let b = is_narrow q.maxval in
    let left : i.raster ≡ flat_map (spelled b) p.samples = i.holds.bytes_are ∙ ap (λ x. flat_map (spelled (is_narrow x)) p.samples) m in
    let count : length p.samples ≡ length q.samples = i.holds.count ∙ ap (λ x. x * p.height) n.width ∙ ap (λ x. q.width * x) n.height ∙ sym j.holds.count in
    let samples : p.samples ≡ q.samples = same_samples b p.samples q.samples rest more count (ap (λ x. x ++ rest) (sym left) ∙ behind ∙ ap (λ x. x ++ more) j.holds.bytes_are) in (
      i.parts ∙ ap (λ x. x ++ i.raster) f ∙ ap (λ x. j.header ++ x) (left ∙ ap (λ x. flat_map (spelled b) x) samples ∙ sym j.holds.bytes_are) ∙ sym j.parts,
      same_picture p.width q.width p.height q.height p.maxval q.maxval p.samples q.samples n.width n.height m samples,
    )

-- an image has bytes
image_bytes : (bytes : List ℕ) (p : Image) → IsImageOf bytes p → 0 < length bytes
image_bytes bytes p i = omega (arith, ap length i.parts, ap length i.heads.text.magic, length-append i.header i.raster)

no_image : (first rest : List ℕ) (p : Image) → IsImageOf first p → [] ≡ first ++ rest → ⊥
no_image first rest p i e = omega (arith, image_bytes first p i, ap length e, length-append first rest)

pub one_list : (ps qs : List Image) (bytes other : List ℕ) → bytes ≡ other → AreImages bytes ps → AreImages other qs → ps ≡ qs
one_list [] [] bytes other e a b = refl
one_list [] (q ∷ qs) bytes other e a b = absurd (no_image b.0 b.1 q b.3 (sym a ∙ e ∙ b.2))
one_list (p ∷ ps) [] bytes other e a b = absurd (no_image a.0 a.1 p a.3 (sym (sym a.2 ∙ e ∙ b)))
one_list (p ∷ ps) (q ∷ qs) bytes other e a b =
    let i = one_image a.0 b.0 a.1 b.1 p q a.3 b.3 (sym a.2 ∙ e ∙ b.2) in
    let rest : a.1 ≡ b.1 = append_cancel_left a.0 a.1 b.1 (sym a.2 ∙ e ∙ b.2 ∙ ap (λ x. x ++ b.1) (sym i.0)) in
    ap (λ x. x ∷ ps) i.1 ∙ ap (λ xs. q ∷ xs) (one_list ps qs a.1 b.1 rest a.4 b.4)

pub one_file : (bytes : List ℕ) (ps qs : List Image) → IsFile bytes ps → IsFile bytes qs → ps ≡ qs
one_file bytes ps qs a b = one_list ps qs bytes bytes refl a.2 b.2

-- decimal numbers are digits
own : IsNumeralModel AreDigits (value_after 0)
own = numerals_by_fold _ (search rules) value_after (search rules)

numeral : (ds : List ℕ) → AreDigits ds → 0 < length ds → IsNumeral ds
numeral [] a l = absurd (omega arith)
numeral (d ∷ ds) a l = a

decimal_numeral : (n : ℕ) → n < 2 ^ 64 → IsNumeral (decimal n)
decimal_numeral n l = numeral (decimal n) (digits_decimal own n l) (decimal_nonempty n l)

not_capped : (n : ℕ) → n < 2 ^ 32 → n ≡ capped n
unfolding capped
not_capped n l = omega arith

-- one number after a gap of one byte
abbrev at_place : ℕ → ℕ → Field
at_place n at = record { value = n; place = at }

number_field : (n gap at : ℕ) (rest : List ℕ) (more : List Field) → n < 2 ^ 64 → IsGap (gap ∷ []) → Fields (at + 1 + length (decimal n)) rest more
    → Fields at (gap ∷ (decimal n ++ rest)) (at_place n (at + 1) ∷ more)
number_field n gap at rest more l g f = field (gap ∷ []) (decimal n) g (decimal_numeral n l) (sym (digits_value-decimal own n l)) refl refl f refl

header_text : (w h m : ℕ) → w < 2 ^ 64 → h < 2 ^ 64 → m < 2 ^ 64
    → HeaderText (header_of w h m) (at_place w (2 + 1)) (at_place h (2 + 1 + length (decimal w) + 1)) (at_place m (2 + 1 + length (decimal w) + 1 + length (decimal h) + 1))
header_text w h m a b c = record {
  rest = 10 ∷ (decimal w ++ 32 ∷ (decimal h ++ 10 ∷ (decimal m ++ 10 ∷ [])));
  magic = refl;
  numbers = number_field w 10 2 _ _ a (refl, none) (number_field h 32 _ _ _ b (refl, none) (number_field m 10 _ _ _ c (refl, none) (last refl)));
}

is_header : (w h m : ℕ) → w < 2 ^ 32 → h < 2 ^ 32 → m ≤ 65535 → IsHeader (header_of w h m) w h m (2 + 1 + length (decimal w) + 1 + length (decimal h) + 1)
is_header w h m a b c = record {
  across = at_place w (2 + 1);
  down = at_place h (2 + 1 + length (decimal w) + 1);
  text = header_text w h m (omega arith) (omega arith) (omega arith);
  width_is = not_capped w a;
  height_is = not_capped h b;
  limit = short w h m a b c;
}
  where
    short : (w h m : ℕ) → w < 2 ^ 32 → h < 2 ^ 32 → m ≤ 65535 → length (header_of w h m) ≤ 65536
    short w h m a b c = omega (
      arith,
      length-append (decimal w) (32 ∷ (decimal h ++ 10 ∷ (decimal m ++ 10 ∷ []))),
      length-append (decimal h) (10 ∷ (decimal m ++ 10 ∷ [])),
      length-append (decimal m) (10 ∷ []),
      length-decimal-le 10 w (omega arith) (omega arith) (omega arith),
      length-decimal-le 10 h (omega arith) (omega arith) (omega arith),
      length-decimal-le 5 m (omega arith) (omega arith) (omega arith),
    )

written : (p : Image) → CanBeWritten p → IsImageOf (header_of p.width p.height p.maxval ++ raster_of p.maxval p.samples) p
written p c = record {
  header = header_of p.width p.height p.maxval;
  raster = raster_of p.maxval p.samples;
  place = 2 + 1 + length (decimal p.width) + 1 + length (decimal p.height) + 1;
  parts = refl;
  heads = is_header p.width p.height p.maxval c.width c.height c.small;
  positive = c.positive;
  small = c.small;
  holds = record { count = c.count; bounded = c.bounded; bytes_are = refl };
}

pub all_written : (ps : List Image) → AllByRecursion CanBeWritten ps → AreImages (file_of ps) ps
all_written [] a = refl
all_written (p ∷ ps) a = (header_of p.width p.height p.maxval ++ raster_of p.maxval p.samples, file_of ps, refl, written p a.0, all_written ps a.1)
