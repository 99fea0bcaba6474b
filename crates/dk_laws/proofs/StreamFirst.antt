-- A failed read comes before more was read than the first fault of the file needs.
use Rattle.std.proofs.Common.{◌≡◌, ℕ, suc, ◌+◌, ◌-◌, ◌*◌, ◌<◌, ◌≤◌, ◌⊎◌, inl, inr, List, [], ◌∷◌, ◌++◌, length, take, drop, Option, Some, refl, sym, ap, ◌∙◌, subst, arith, suc-mul, append-nil, append_assoc, length-append}
use Rattle.std.proofs.lemmas.List.{take-append-drop, take-append-le, take_all, length-take}
use Rattle.std.proofs.lemmas.Bool.{cases_lt}
use Rattle.std.proofs.Math.Nat.{mul-le-mul_right, mul_comm}
use Rattle.dk_base.specs.Frames.{Size}
use Rattle.dk_types.specs.Typed.{Typing}
use Rattle.pgm_codec.specs.declared.header.Header.{Header}
use Rattle.pgm_codec.specs.Answers.{Whole, Reads, Undecided}
use Rattle.pgm_codec.specs.Images.{Image, AreImages, IsImageOf, IsRaster, sample_size}
use Rattle.pgm_codec.specs.Rasters.{row_length}
use Rattle.pgm_codec.proofs.Unique.{one_front}
use Rattle.pgm_codec.proofs.Stays.{undecided_front}
use Rattle.pgm_rounds.specs.Files.{IsHeaded}
use Rattle.row_stream.proofs.HeadEnds.{exact_whole, one_header}
use Rattle.dk_top.specs.Streaming.{first_bits, OpenLines, between, opened, LinesTaken, ReadsHeader, to_fault, further_byte, BeginsHeader, in_header, no_byte, ReadsNext, BeginsNext, ReadsToFault, ReadsToFailure}
use Rattle.dk_top.proofs.StreamTaken.{headed_line}
use Rattle.dk_laws.proofs.StreamOnce.{OneImage, same_rest, raster_length}

-- a front of bytes that begin a header and hold none whole
front_undecided : (xs ys rest more : List ℕ) → xs ++ rest ≡ ys ++ more → length xs ≤ length ys → Undecided ys → Undecided xs
front_undecided xs ys rest more e within u =
    let front : take (length xs) ys ≡ xs =
    sym (take-append-le (length xs) ys more within) ∙ (ap (λ z. take (length xs) z) (sym e) ∙ (take-append-le (length xs) xs rest (omega arith) ∙ take_all (length xs) xs (omega arith))) in
    undecided_front xs (drop (length xs) ys) (subst Undecided (sym (ap (λ z. z ++ drop (length xs) ys) (sym front) ∙ take-append-drop (length xs) ys)) u)

-- it is shorter than a header that comes there
header_longer : (xs head rest more : List ℕ) → xs ++ rest ≡ head ++ more → Undecided xs → Whole head → length xs < length head
header_longer xs head rest more e u whole = by (cases_lt (length xs) (length head))
  where
    by : (length xs < length head) ⊎ (length head ≤ length xs) → length xs < length head
    by (inl lt) = lt
    by (inr le) = absurd ((front_undecided head xs more rest (sym e) le u).inside.open_yet whole)

-- it is no longer than what is read of a header with a fault
header_within : (xs ys rest more : List ℕ) → xs ++ rest ≡ ys ++ more → Undecided ys → (Undecided xs → rest ≡ []) → length ys ≤ length xs
header_within xs ys rest more e u shown = by (cases_lt (length xs) (length ys))
  where
    by : (length xs < length ys) ⊎ (length ys ≤ length xs) → length ys ≤ length xs
    by (inl lt) =
        let none : rest ≡ [] = shown (front_undecided xs ys rest more e (omega (arith, lt)) u) in
        omega (arith, ap length e, length-append xs rest, length-append ys more, ap length none)
    by (inr le) = le

turned : (w n s : ℕ) → w * n * s ≡ n * (w * s)
turned w n s = ap (λ k. k * s) (mul_comm w n) ∙ Rattle.std.proofs.Common.mul_assoc n w s

raster_rows : (raster samples : List ℕ) (header : Header) (rows : ℕ) → IsRaster raster header.width rows header.maxval samples → length raster ≡ rows * row_length header
raster_rows raster samples header rows is = raster_length raster samples header.width rows header.maxval is ∙ turned header.width rows (sample_size header.maxval)

-- less than a row more
row_within : (R u o final : ℕ) → u < o → final < R → u * R + final ≤ o * R
row_within R u o final less few =
    let step : suc u * R ≤ o * R = mul-le-mul_right R (let l : suc u ≤ o = omega (arith, less) in l) in
    omega (arith, step, suc-mul u R, few)

-- the header of an image
image_head : (bytes : List ℕ) (p : Image) → (is : IsImageOf bytes p) → Reads is.header (record { width = p.width; height = p.height; maxval = p.maxval; length = length is.header })
image_head bytes p is = record { front = is.header; rest = []; place = is.place; parts = sym (append-nil is.header); heads = is.heads; positive = is.positive; small = is.small; length_is = refl }

module _ (size : Size) (bits : ℕ) where
  -- inside the first image that the fault is after
  inside_image : {c u : ℕ} {ys piece : List ℕ} (first final rest more : List ℕ) (p : Image) → IsImageOf first p → (k : OpenLines size bits c u ys piece) → BeginsNext k final → first ++ more ≡ piece ++ (final ++ rest) → length piece + length final ≤ length first
  inside_image {c = c} {piece = piece} first final rest more p is (between a b d) begins e = by begins
    where
      long : length first ≡ length is.header + length is.raster
      long = ap length is.parts ∙ length-append is.header is.raster

      by : BeginsHeader c final → length piece + length final ≤ length first
      by (no_byte full none) = omega (arith, ap length d, ap length none)
      by (in_header few u) =
          let lt = header_longer final is.header rest (is.raster ++ more) (sym (ap (λ z. z ++ (final ++ rest)) d) ∙ (sym e ∙ (ap (λ z. z ++ more) is.parts ∙ append_assoc is.header is.raster more))) u (exact_whole is.header _ (image_head first p is) refl) in
          omega (arith, ap length d, lt, long)
  inside_image {u = u} {ys = ys} {piece = piece} first final rest more p is (opened header head raster few fits reads exact within is_raster part_is) begins e =
      let there : Header = record { width = p.width; height = p.height; maxval = p.maxval; length = length is.header } in
      let whole : is.header ++ (is.raster ++ more) ≡ head ++ (raster ++ (final ++ rest)) = sym (ap (λ z. z ++ more) is.parts ∙ append_assoc is.header is.raster more) ∙ (e ∙ (ap (λ z. z ++ (final ++ rest)) part_is ∙ append_assoc head raster (final ++ rest))) in
      let heads : is.header ≡ head = one_front is.header head (is.raster ++ more) (raster ++ (final ++ rest)) (exact_whole is.header there (image_head first p is) refl) (exact_whole head header reads exact) whole in
      let headers : there ≡ header = one_header head there header (subst (λ z. Reads z there) heads (image_head first p is)) reads in
      let tall : p.height ≡ header.height = ap (λ (h : Header). h.height) headers in
      let rows : length is.raster ≡ p.height * row_length header = raster_rows is.raster p.samples there p.height is.holds ∙ ap (λ (h : Header). p.height * row_length h) headers in
      let low = row_within (row_length header) u p.height (length final) (let i = begins.inside in omega (arith, i, tall)) begins.fewer in
      omega (arith, low, rows, raster_rows raster ys header u is_raster, ap length part_is, length-append head raster, ap length is.parts, length-append is.header is.raster, ap length heads)

  -- after as many images
  same_image : {n c o u : ℕ} {xs ys part piece : List ℕ} (last final after rest : List ℕ) → n ≡ c → (l : OpenLines size bits n o xs part) → (k : OpenLines size bits c u ys piece) → ReadsNext l last after → BeginsNext k final → part ++ (last ++ after) ≡ piece ++ (final ++ rest) → u ≤ o
      → length piece + length final ≤ length part + length last
  same_image {n = n} {c = c} {part = part} {piece = piece} last final after rest count (between a b d) (between a' b' d') next begins e rows = by next begins
    where
      same : last ++ after ≡ final ++ rest
      same = sym (ap (λ z. z ++ (last ++ after)) d) ∙ (e ∙ ap (λ z. z ++ (final ++ rest)) d')

      by : ReadsHeader size bits n last after → BeginsHeader c final → length piece + length final ≤ length part + length last
      by (to_fault few r) (in_header less u) = let w = header_within last final after rest same u r.shown in omega (arith, w, ap length d')
      by (further_byte full one) (in_header less u) = absurd (let f : ⊥ = omega (arith, full, less, count) in f)
      by next (no_byte full none) = omega (arith, ap length d', ap length none)
  same_image {n = n} {c = c} {part = part} {piece = piece} last final after rest count (between a b d) (opened header head raster few fits reads exact within is piece_is) next begins e rows = absurd (by next)
    where
      headed : IsHeaded size bits (last ++ after) header
      headed = subst (λ z. IsHeaded size bits z header) (sym (sym (ap (λ z. z ++ (last ++ after)) d) ∙ (e ∙ (ap (λ z. z ++ (final ++ rest)) piece_is ∙ append_assoc head raster (final ++ rest))))) (headed_line size bits head (raster ++ (final ++ rest)) header reads fits)

      by : ReadsHeader size bits n last after → ⊥
      by (to_fault less r) = r.none header headed
      by (further_byte full one) = let f : ⊥ = omega (arith, full, few, count) in f
  same_image {n = n} {c = c} {part = part} {piece = piece} last final after rest count (opened header head raster few fits reads exact within is part_is) (between a b d) next begins e rows = by begins
    where
      long : length part ≡ length head + length raster
      long = ap length part_is ∙ length-append head raster

      by : BeginsHeader c final → length piece + length final ≤ length part + length last
      by (no_byte full none) = omega (arith, ap length d, ap length none)
      by (in_header less u) =
          let lt = header_longer final head rest (raster ++ (last ++ after)) (sym (ap (λ z. z ++ (final ++ rest)) d) ∙ (sym e ∙ (ap (λ z. z ++ (last ++ after)) part_is ∙ append_assoc head raster (last ++ after)))) u (exact_whole head header reads exact) in
          omega (arith, ap length d, lt, long)
  same_image {n = n} {c = c} {o = o} {u = u} {xs = xs} {ys = ys} {part = part} {piece = piece} last final after rest count (opened header head raster few fits reads exact within is part_is) (opened other crown grid less suits tells precise inner es piece_is) next begins e rows = by (cases_lt u o)
    where
      whole : head ++ (raster ++ (last ++ after)) ≡ crown ++ (grid ++ (final ++ rest))
      whole = sym (ap (λ z. z ++ (last ++ after)) part_is ∙ append_assoc head raster (last ++ after)) ∙ (e ∙ (ap (λ z. z ++ (final ++ rest)) piece_is ∙ append_assoc crown grid (final ++ rest)))

      heads : head ≡ crown
      heads = one_front head crown (raster ++ (last ++ after)) (grid ++ (final ++ rest)) (exact_whole head header reads exact) (exact_whole crown other tells precise) whole

      headers : header ≡ other
      headers = one_header crown header other (subst (λ z. Reads z header) heads reads) tells

      R : ℕ
      R = row_length other

      long : length part ≡ length crown + o * R
      long = ap length part_is ∙ (length-append head raster ∙ (ap (λ n. n + length raster) (ap length heads) ∙ ap (λ n. length crown + n) (raster_rows raster xs header o is ∙ ap (λ (h : Header). o * row_length h) headers)))

      short : length piece ≡ length crown + u * R
      short = ap length piece_is ∙ (length-append crown grid ∙ ap (λ n. length crown + n) (raster_rows grid ys other u es))

      by : (u < o) ⊎ (o ≤ u) → length piece + length final ≤ length part + length last
      by (inl lt) = let low = row_within R u o (length final) lt begins.fewer in omega (arith, low, long, short)
      by (inr le) =
          let equal : u ≡ o = omega (arith, le, rows) in
          let behind : raster ++ (last ++ after) ≡ grid ++ (final ++ rest) = same_rest head crown (raster ++ (last ++ after)) (grid ++ (final ++ rest)) (ap length heads) whole in
          let grids : length raster ≡ length grid = raster_rows raster xs header o is ∙ (ap (λ (h : Header). o * row_length h) headers ∙ (ap (λ n. n * R) (sym equal) ∙ sym (raster_rows grid ys other u es))) in
          let tail : last ++ after ≡ final ++ rest = same_rest raster grid (last ++ after) (final ++ rest) grids behind in
          let all : length last ≡ length (take R (final ++ rest)) = ap length (next.all ∙ (ap (λ z. take (row_length header) z) tail ∙ ap (λ (h : Header). take (row_length h) (final ++ rest)) headers)) in
          let some = length-take R (final ++ rest) in
          let low = begins.fewer in
          omega (arith, all, some, length-append final rest, low, long, short, ap (λ n. n * R) equal)

  module _ (one : OneImage) (tall : 0 < size.height) where
    behind_images : (ps qs : List Image) {n c o u : ℕ} {xs ys part piece : List ℕ} (before earlier last final after rest : List ℕ) → AreImages before ps → AreImages earlier qs → n + length qs ≡ c + length ps
        → (l : OpenLines size bits n o xs part) → (k : OpenLines size bits c u ys piece) → ReadsNext l last after → BeginsNext k final
        → before ++ (part ++ (last ++ after)) ≡ earlier ++ (piece ++ (final ++ rest)) → length qs * size.height + u ≤ length ps * size.height + o → length earlier + (length piece + length final) ≤ length before + (length part + length last)
    behind_images [] [] {part = part} {piece = piece} before earlier last final after rest are be count l k next begins e rows =
        let w = same_image last final after rest (omega (arith, count)) l k next begins (sym (ap (λ z. z ++ (part ++ (last ++ after))) are) ∙ (e ∙ ap (λ z. z ++ (piece ++ (final ++ rest))) be)) (omega (arith, rows)) in
        omega (arith, w, ap length are, ap length be)
    behind_images [] (q ∷ qs) before earlier last final after rest are be count (between a b d) k next begins e rows = absurd (let f : ⊥ = omega (arith, rows, a, tall, suc-mul (length qs) size.height) in f)
    behind_images [] (q ∷ qs) before earlier last final after rest are be count (opened header head raster few fits reads exact within is part_is) k next begins e rows =
        absurd (let i = next.inside in let h = fits.sized.height in let f : ⊥ = omega (arith, rows, i, h, suc-mul (length qs) size.height) in f)
    behind_images (p ∷ ps) [] {part = part} {piece = piece} before earlier last final after rest are be count l k next begins e rows =
        let whole : are.0 ++ (are.1 ++ (part ++ (last ++ after))) ≡ piece ++ (final ++ rest) = sym (ap (λ z. z ++ (part ++ (last ++ after))) are.2 ∙ append_assoc are.0 are.1 (part ++ (last ++ after))) ∙ (e ∙ ap (λ z. z ++ (piece ++ (final ++ rest))) be) in
        let w = inside_image are.0 final rest (are.1 ++ (part ++ (last ++ after))) p are.3 k begins whole in
        omega (arith, w, ap length be, ap length are.2, length-append are.0 are.1)
    behind_images (p ∷ ps) (q ∷ qs) {part = part} {piece = piece} before earlier last final after rest are be count l k next begins e rows =
        let P = part ++ (last ++ after) in
        let Q = piece ++ (final ++ rest) in
        let whole : are.0 ++ (are.1 ++ P) ≡ be.0 ++ (be.1 ++ Q) = sym (ap (λ z. z ++ P) are.2 ∙ append_assoc are.0 are.1 P) ∙ (e ∙ (ap (λ z. z ++ Q) be.2 ∙ append_assoc be.0 be.1 Q)) in
        let first : are.0 ≡ be.0 = (one are.0 be.0 (are.1 ++ P) (be.1 ++ Q) p q are.3 be.3 whole).0 in
        let others = same_rest are.0 be.0 (are.1 ++ P) (be.1 ++ Q) (ap length first) whole in
        let w = behind_images ps qs are.1 be.1 last final after rest are.4 be.4 (omega (arith, count)) l k next begins others (omega (arith, rows, suc-mul (length qs) size.height, suc-mul (length ps) size.height)) in
        omega (arith, w, ap length first, ap length are.2, length-append are.0 are.1, ap length be.2, length-append be.0 be.1)

-- the lines of a front are lines of the whole
longer_lines : (size : Size) (bits : ℕ) (bytes more : List ℕ) (rows : ℕ) (samples front rest : List ℕ) → LinesTaken size bits bytes rows samples front rest → LinesTaken size bits (bytes ++ more) rows samples front (rest ++ more)
longer_lines size bits bytes more rows samples front rest t = record {
  images = t.images;
  before = t.before;
  are = t.are;
  fit = t.fit;
  few = t.few;
  open_rows = t.open_rows;
  open_samples = t.open_samples;
  part = t.part;
  open_lines = t.open_lines;
  rows_are = t.rows_are;
  samples_are = t.samples_are;
  front_is = t.front_is;
  bytes_are = ap (λ z. z ++ more) t.bytes_are ∙ append_assoc front rest more;
}

pub reads_first : OneImage → (p : Typing) (file after rest xs ys : List ℕ) → 0 < p.size.height → ReadsToFault p file (Some after) xs → ReadsToFailure p file (Some rest) ys → length after ≤ length rest
reads_first one p file after rest xs ys tall r f =
    let t = r.taken in
    let u = f.taken in
    let left : after ≡ r.after = let e = r.is_left in some_same e in
    let behind : rest ≡ f.rest = let e = f.is_left in some_same e in
    let rows : f.rows ≤ r.rows = r.most f.rows ys f.front (f.last ++ f.rest) (subst (λ z. LinesTaken p.size (first_bits p) z f.rows ys f.front (f.last ++ f.rest)) (sym f.parts) (longer_lines p.size (first_bits p) f.read f.rest f.rows ys f.front f.last f.taken)) in
    let whole_r : file ≡ t.before ++ (t.part ++ (r.last ++ r.after)) = t.bytes_are ∙ (ap (λ z. z ++ (r.last ++ r.after)) t.front_is ∙ append_assoc t.before t.part (r.last ++ r.after)) in
    let read_is : f.read ≡ u.before ++ (u.part ++ f.last) = u.bytes_are ∙ (ap (λ z. z ++ f.last) u.front_is ∙ append_assoc u.before u.part f.last) in
    let whole_f : file ≡ u.before ++ (u.part ++ (f.last ++ f.rest)) = f.parts ∙ (ap (λ z. z ++ f.rest) read_is ∙ (append_assoc u.before (u.part ++ f.last) f.rest ∙ ap (λ z. u.before ++ z) (append_assoc u.part f.last f.rest))) in
    let w = behind_images p.size (first_bits p) one tall t.images u.images t.before u.before r.last f.last r.after f.rest t.are u.are (omega arith) t.open_lines u.open_lines r.next f.next (sym whole_r ∙ whole_f)
    (let a = t.rows_are in let b = u.rows_are in omega (arith, rows, a, b)) in
    let count_r : length file ≡ length t.before + (length t.part + (length r.last + length r.after)) =
    ap length whole_r ∙ (length-append t.before (t.part ++ (r.last ++ r.after)) ∙ ap (λ n. length t.before + n) (length-append t.part (r.last ++ r.after) ∙ ap (λ n. length t.part + n) (length-append r.last r.after))) in
    let count_f : length file ≡ length u.before + (length u.part + (length f.last + length f.rest)) =
    ap length whole_f ∙ (length-append u.before (u.part ++ (f.last ++ f.rest)) ∙ ap (λ n. length u.before + n) (length-append u.part (f.last ++ f.rest) ∙ ap (λ n. length u.part + n) (length-append f.last f.rest))) in
    omega (arith, w, count_r, count_f, ap length left, ap length behind)
  where
    some_same : {a b : List ℕ} → ◌≡◌ {A = Option (List ℕ)} (Some a) (Some b) → a ≡ b
    some_same e = cc
