-- The lines of a file that a stream has taken.
use Rattle.std.proofs.Common.{◌≡◌, ℕ, suc, ◌+◌, ◌*◌, ◌<◌, ◌≤◌, List, [], ◌∷◌, ◌++◌, length, Some, refl, sym, ap, ◌∙◌, subst, arith, suc-mul, append-nil, append_assoc}
use Rattle.std.specs.List.{AllByRecursion}
use Rattle.std.proofs.Math.Nat.{mul-le-mul_right}
use Rattle.dk_base.specs.declared.TheConstants.{MAX_FILE_IMAGES}
use Rattle.dk_base.specs.Frames.{Size}
use Rattle.dk_desk.specs.Outside.{Outside}
use Rattle.wiring.specs.Netlist.{Netlist}
use Rattle.wiring.specs.Snapshot.{Contents}
use Rattle.pgm_codec.specs.declared.header.Header.{Header}
use Rattle.pgm_codec.specs.Answers.{Reads}
use Rattle.pgm_codec.proofs.Stays.{reads_more}
use Rattle.pgm_codec.specs.Images.{Image, AreImages, IsRaster}
use Rattle.pgm_rounds.specs.Files.{IsHeaded}
use Rattle.row_stream.specs.Lines.{Kind}
use Rattle.row_stream.specs.Heads.{FitsHeader}
use Rattle.row_stream.specs.Images.{FitsImage, samples_of}
use Rattle.row_stream.specs.Ends.{greatest}
use Rattle.row_stream.specs.Whole.{ShowsImages, ShowsLines}
use Rattle.row_stream.specs.Most.{BeginsLines, EndsLines, nothing, lines, image}
use Rattle.row_stream.proofs.FirstFault.{told_parts}
use Rattle.dk_top.specs.Streaming.{OpenLines, between, opened, LinesTaken, AreMost}

-- bytes that begin with a header that fits
pub headed_line : (size : Size) (bits : ℕ) (head rest : List ℕ) (header : Header) → Reads head header → FitsHeader size bits header → IsHeaded size bits (head ++ rest) header
headed_line size bits head rest header reads fits = record { reads = reads_more head rest header reads; sized = fits.sized; maxval = fits.maxval }

pub headed_images : (size : Size) (bits : ℕ) (images : List Image) (bytes rest : List ℕ) → AreImages bytes images → AllByRecursion (FitsImage size (greatest bits)) images → 0 < length images → (header : Header) × IsHeaded size bits (bytes ++ rest) header
headed_images size bits [] bytes rest are fit some = absurd (let e : ⊥ = omega (arith, some) in e)
headed_images size bits (p ∷ images) bytes rest are fit some =
    let header : Header = record { width = p.width; height = p.height; maxval = p.maxval; length = length (are.3).header } in
    let whole : bytes ++ rest ≡ are.0 ++ (are.1 ++ rest) = ap (λ z. z ++ rest) are.2 ∙ append_assoc are.0 are.1 rest in (
      header,
      record {
        reads = record {
          front = (are.3).header;
          rest = (are.3).raster ++ (are.1 ++ rest);
          place = (are.3).place;
          parts = whole ∙ (ap (λ x. x ++ (are.1 ++ rest)) (are.3).parts ∙ append_assoc (are.3).header (are.3).raster (are.1 ++ rest));
          heads = (are.3).heads;
          positive = (are.3).positive;
          small = (are.3).small;
          length_is = refl;
        };
        sized = record { width = fit.0.width; height = fit.0.height };
        maxval = fit.0.maxval;
      },
    )

-- whole images at the front of bytes
begin_images : (size : Size) (bits : ℕ) (images : List Image) (bytes rest : List ℕ) (rows : ℕ) → AreImages bytes images → AllByRecursion (FitsImage size (greatest bits)) images → BeginsLines size bits rest rows → BeginsLines size bits (bytes ++ rest) (length images * size.height + rows)
begin_images size bits [] bytes rest rows are fit b = subst (λ z. BeginsLines size bits (z ++ rest) (0 * size.height + rows)) (sym are) (subst (λ z. BeginsLines size bits rest z) (let e : rows ≡ 0 * size.height + rows = omega arith in e) b)
begin_images size bits (p ∷ images) bytes rest rows are fit b =
    image p are.0 (are.1 ++ rest) (length images * size.height + rows) are.3 fit.0 (ap (λ z. z ++ rest) are.2 ∙ append_assoc are.0 are.1 rest) (begin_images size bits images are.1 rest rows are.4 fit.1 b)
    (let e : suc (length images) * size.height + rows ≡ size.height + (length images * size.height + rows) = omega arith in e)

begins_of : (size : Size) (bits : ℕ) (bytes : List ℕ) (rows : ℕ) (samples front rest : List ℕ) → LinesTaken size bits bytes rows samples front rest → BeginsLines size bits bytes rows
begins_of size bits bytes rows samples front rest t =
    let parts : bytes ≡ t.before ++ (t.part ++ rest) = t.bytes_are ∙ (ap (λ z. z ++ rest) t.front_is ∙ append_assoc t.before t.part rest) in
    subst (λ z. BeginsLines size bits z rows) (sym parts) (subst (λ n. BeginsLines size bits (t.before ++ (t.part ++ rest)) n) (sym t.rows_are) (begin_images size bits t.images t.before (t.part ++ rest) t.open_rows t.are t.fit (lines_open t.open_lines)))
  where
    lines_open : {n : ℕ} {open_rows : ℕ} {open_samples part : List ℕ} → OpenLines size bits n open_rows open_samples part → BeginsLines size bits (part ++ rest) open_rows
    lines_open (between rows samples part) = nothing rows
    lines_open (opened header head raster few fits reads exact within is part) = lines header head raster _ rest fits reads exact within is (ap (λ z. z ++ rest) part ∙ append_assoc head raster rest)

-- lines with which bytes end are the most
pub most_of : (size : Size) (bits : ℕ) (bytes : List ℕ) (rows : ℕ) → EndsLines size bits bytes rows → AreMost size bits bytes rows
most_of size bits bytes rows ends more samples front rest t = ends.most more (begins_of size bits bytes more samples front rest t)

-- as many images as a file may have are the most
pub most_full : (size : Size) (bits : ℕ) (bytes : List ℕ) (rows : ℕ) → rows ≡ MAX_FILE_IMAGES * size.height → AreMost size bits bytes rows
most_full size bits bytes rows full more samples front rest t = by (length t.images) t.few t.open_lines t.rows_are
  where
    by : (n : ℕ) {open_rows : ℕ} {open_samples part : List ℕ} → n ≤ MAX_FILE_IMAGES → OpenLines size bits n open_rows open_samples part → more ≡ n * size.height + open_rows → more ≤ rows
    by n few (between none s p) is = let low : n * size.height ≤ MAX_FILE_IMAGES * size.height = mul-le-mul_right size.height few in omega (arith, low, full, none, is)
    by n few (opened header head raster under fits reads exact within r p) is =
        let e : suc n ≤ MAX_FILE_IMAGES = omega (arith, under) in
        let low : suc n * size.height ≤ MAX_FILE_IMAGES * size.height = mul-le-mul_right size.height e in
        let next = suc-mul n size.height in
        let h : header.height ≡ size.height = fits.sized.height in
        omega (arith, low, full, within, is, next, h)

-- the lines of whole images
abbrev pub all_images : (size : Size) (bits count : ℕ) (file : List ℕ) (images : List Image) (bytes rest : List ℕ) → AreImages bytes images → AllByRecursion (FitsImage size (greatest bits)) images → length images ≡ count → count ≤ MAX_FILE_IMAGES → file ≡ bytes ++ rest
    → LinesTaken size bits file (count * size.height) (samples_of images) bytes rest
all_images size bits count file images bytes rest are fit many few parts = record {
  images = images;
  before = bytes;
  are = are;
  fit = fit;
  few = omega (arith, many, few);
  open_rows = 0;
  open_samples = [];
  part = [];
  open_lines = between refl refl refl;
  rows_are = ap (λ n. n * size.height) (sym many) ∙ (let e : length images * size.height ≡ length images * size.height + 0 = omega arith in e);
  samples_are = sym (append-nil (samples_of images));
  front_is = sym (append-nil bytes);
  bytes_are = parts;
}

-- the images that were streamed
pub record TakesImages (kind : Kind) (m : Netlist) (bits count : ℕ) (file : List ℕ) (from : Contents) (created half : Outside) (e : ShowsImages kind m bits count (Some file) from created half) : Type 0 where
  pub rest : List ℕ
  pub left : half.image.rest ≡ Some rest
  pub parts : file ≡ e.bytes ++ rest
  pub taken : LinesTaken kind.size bits file (count * kind.size.height) (samples_of e.images) e.bytes rest

pub takes_images : (kind : Kind) (m : Netlist) (bits count : ℕ) (file : List ℕ) (from : Contents) (created half : Outside) → (e : ShowsImages kind m bits count (Some file) from created half) → count ≤ MAX_FILE_IMAGES → TakesImages kind m bits count file from created half e
takes_images kind m bits count file from created half e few =
    let (rest, left, parts) = told_parts e.bytes half.image.rest file (sym e.given) in
    record { rest = rest; left = left; parts = parts; taken = all_images kind.size bits count file e.images e.bytes rest e.are e.fit e.count_is few parts }

-- the lines of whole images and of one more
abbrev pub all_lines : (size : Size) (bits count rows : ℕ) (header : Header) (file : List ℕ) (images : List Image) (bytes head raster samples rest : List ℕ) → AreImages bytes images → AllByRecursion (FitsImage size (greatest bits)) images → length images ≡ count → count < MAX_FILE_IMAGES
    → FitsHeader size bits header → Reads head header → length head ≡ header.length → rows ≤ header.height → IsRaster raster header.width rows header.maxval samples → file ≡ (bytes ++ (head ++ raster)) ++ rest
    → LinesTaken size bits file (count * size.height + rows) (samples_of images ++ samples) (bytes ++ (head ++ raster)) rest
all_lines size bits count rows header file images bytes head raster samples rest are fit many few fits reads exact within is parts = record {
  images = images;
  before = bytes;
  are = are;
  fit = fit;
  few = omega (arith, many, few);
  open_rows = rows;
  open_samples = samples;
  part = head ++ raster;
  open_lines = opened header head raster (omega (arith, many, few)) fits reads exact within is refl;
  rows_are = ap (λ n. n * size.height + rows) (sym many);
  samples_are = refl;
  front_is = refl;
  bytes_are = parts;
}

-- the images and the lines that were streamed
pub record TakesLines (kind : Kind) (m : Netlist) (bits count : ℕ) (header : Header) (rows : ℕ) (file : List ℕ) (from : Contents) (created half : Outside) (e : ShowsLines kind m bits count header rows (Some file) from created half) : Type 0 where
  pub rest : List ℕ
  pub left : half.image.rest ≡ Some rest
  pub parts : file ≡ (e.bytes ++ (e.head ++ e.raster)) ++ rest
  pub taken : LinesTaken kind.size bits file (count * kind.size.height + rows) (samples_of e.images ++ e.samples) (e.bytes ++ (e.head ++ e.raster)) rest

pub takes_lines : (kind : Kind) (m : Netlist) (bits count : ℕ) (header : Header) (rows : ℕ) (file : List ℕ) (from : Contents) (created half : Outside) → (e : ShowsLines kind m bits count header rows (Some file) from created half)
    → count < MAX_FILE_IMAGES → FitsHeader kind.size bits header → rows ≤ header.height → TakesLines kind m bits count header rows file from created half e
takes_lines kind m bits count header rows file from created half e few fits within =
    let (rest, left, parts) = told_parts (e.bytes ++ (e.head ++ e.raster)) half.image.rest file (sym e.given) in
    record { rest = rest; left = left; parts = parts; taken = all_lines kind.size bits count rows header file e.images e.bytes e.head e.raster e.samples rest e.are e.fit e.count_is few fits e.reads e.exact within e.is_raster parts }

-- the file begins with a header that fits
pub headed_taken : (size : Size) (bits : ℕ) (images : List Image) (bytes head raster rest : List ℕ) (header : Header) → AreImages bytes images → AllByRecursion (FitsImage size (greatest bits)) images → Reads head header → FitsHeader size bits header
    → (h : Header) × IsHeaded size bits ((bytes ++ (head ++ raster)) ++ rest) h
headed_taken size bits [] bytes head raster rest header are fit reads fits =
    let e : (bytes ++ (head ++ raster)) ++ rest ≡ head ++ (raster ++ rest) = ap (λ z. (z ++ (head ++ raster)) ++ rest) are ∙ append_assoc head raster rest in
    (header, subst (λ z. IsHeaded size bits z header) (sym e) (headed_line size bits head (raster ++ rest) header reads fits))
headed_taken size bits (p ∷ images) bytes head raster rest header are fit reads fits =
    let h = headed_images size bits (p ∷ images) bytes ((head ++ raster) ++ rest) are fit (omega arith) in
    (h.0, subst (λ z. IsHeaded size bits z h.0) (sym (append_assoc bytes (head ++ raster) rest)) h.1)
