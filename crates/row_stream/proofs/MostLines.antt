-- No more lines are there than were streamed.
use Rattle.std.proofs.Common.{◌≡◌, ℕ, suc, ◌+◌, ◌*◌, ◌<◌, ◌≤◌, List, [], ◌∷◌, ◌++◌, length, drop, Option, Some, Err, inl, inr, ◌⊎◌, refl, ap, sym, subst, ◌∙◌, arith, append_assoc, append-nil, length-append}
use Rattle.dk_base.specs.declared.TheConstants.{MAX_FILE_IMAGES}
use Rattle.std.specs.List.{AllByRecursion}
use Rattle.std.specs.Io.KnownBytes.{prepend_known}
use Rattle.std.proofs.lemmas.Bool.{cases_lt}
use Rattle.std.proofs.lemmas.List.{append_cancel_left}
use Rattle.dk_base.specs.Frames.{Size}
use Rattle.dk_desk.specs.Outside.{Outside}
use Rattle.dk_desk.proofs.DeskLemmas.{prepend_known-more}
use Rattle.wiring.specs.Netlist.{Netlist}
use Rattle.wiring.specs.Snapshot.{Contents}
use Rattle.pgm_codec.specs.declared.header.Header.{Header}
use Rattle.pgm_codec.specs.declared.raster.RasterFault.{RasterFault}
use Rattle.pgm_codec.specs.declared.raster.RasterFault.TheVariants.{SampleTooGreat, Short}
use Rattle.pgm_codec.specs.Answers.{Reads, Undecided, Whole}
use Rattle.pgm_codec.specs.Images.{Image, IsImageOf, IsRaster, AreImages, sample_size, is_narrow}
use Rattle.pgm_codec.specs.Rasters.{JudgesRow, sample_at, row_length}
use Rattle.pgm_codec.proofs.Stays.{reads_more}
use Rattle.pgm_codec.proofs.Judged.{raster_holds}
use Rattle.pgm_rounds.proofs.Readings.{OneImage}
use Rattle.pgm_rounds.specs.Files.{IsHeaded}
use Rattle.row_stream.specs.Heads.{FitsHeader}
use Rattle.row_stream.specs.declared.faults.StreamFault.TheVariants.{Image as ImageFails, Read}
use Rattle.row_stream.specs.Lines.{Kind}
use Rattle.row_stream.specs.Whole.{LeavesBehind, LeavesInside}
use Rattle.row_stream.specs.Images.{FitsImage}
use Rattle.row_stream.specs.Ends.{greatest, EndsNext, in_header, at_byte}
use Rattle.row_stream.specs.Most.{BeginsLines, nothing, lines, image, EndsLines}
use Rattle.row_stream.proofs.Rasters.{placed_front, placed_back, times, row_bytes}
use Rattle.row_stream.proofs.HeadLemmas.{nothing as none_behind, first_nothing}
use Rattle.pgm_codec.proofs.Decoding.{length_spelled}
use Rattle.pgm_codec.proofs.Unique.{one_front, reads_whole}
use Rattle.pgm_rounds.specs.declared.fault.FileFault.{FileFault}
use Rattle.row_stream.proofs.Adds.{times_turned}
use Rattle.row_stream.proofs.HeadEnds.{one_header, at_end}
use Rattle.row_stream.proofs.FirstFault.{behind_is, columns, some_size, told_parts}

abbrev AreMost : Size → ℕ → List ℕ → ℕ → Type 0
AreMost size bits bytes rows = (more : ℕ) → BeginsLines size bits bytes more → more ≤ rows

-- this many lines in order at the front of bytes
record HasRows (header : Header) (rows : ℕ) (bytes : List ℕ) : Type 0 where
  enough : rows * header.width * sample_size header.maxval ≤ length bytes
  fit : (k : ℕ) → k < rows * header.width → sample_at header.maxval bytes k ≤ header.maxval

raster_has : (header : Header) (rows : ℕ) (raster rest samples : List ℕ) → IsRaster raster header.width rows header.maxval samples → HasRows header rows (raster ++ rest)
raster_has header rows raster rest samples is =
    let h = raster_holds (is_narrow header.maxval) raster rest header.width rows header.maxval samples refl is in
    let e : rows * header.width ≡ header.width * rows = times_turned header.width rows in
    record {
      enough = subst (λ z. z * sample_size header.maxval ≤ length (raster ++ rest)) (sym e) h.enough;
      fit = λ k l. h.fit k (subst (λ z. k < z) e l);
    }

raster_count : (header : Header) (rows : ℕ) (raster samples : List ℕ) → IsRaster raster header.width rows header.maxval samples → length raster ≡ rows * header.width * sample_size header.maxval
raster_count header rows raster samples is =
    ap length is.bytes_are ∙ length_spelled (is_narrow header.maxval) samples ∙ ap (λ z. z * sample_size header.maxval) (is.count ∙ sym (times_turned header.width rows))

-- what is where the next line would be, and is none
pub data Obstacle (header : Header) (rows : ℕ) (bytes : List ℕ) : Type 0 where
  short : length bytes < (rows + 1) * row_length header → Obstacle header rows bytes
  great : (k : ℕ) → k < (rows + 1) * header.width → header.maxval < sample_at header.maxval bytes k → Obstacle header rows bytes

above : (a b : ℕ) → a ≤ b → b < a → ⊥
above a b l g = omega (arith, l, g)

no_more : (header : Header) (rows more : ℕ) (bytes : List ℕ) → Obstacle header rows bytes → HasRows header more bytes → more ≤ rows
no_more header rows more bytes o h = by (cases_lt rows more) o
  where
    by : (rows < more) ⊎ (more ≤ rows) → Obstacle header rows bytes → more ≤ rows
    by (inr l) o = l
    by (inl l) (short s) = absurd (let e : (rows + 1) * row_length header ≤ more * row_length header = times rows more (row_length header) l in omega (arith, s, e, row_bytes more header, h.enough))
    by (inl l) (great k b g) = absurd (let e : (rows + 1) * header.width ≤ more * header.width = times rows more header.width l in above (sample_at header.maxval bytes k) header.maxval (h.fit k (omega (arith, b, e))) g)

picture_reads : (first rest : List ℕ) (p : Image) → (i : IsImageOf first p) → Reads (first ++ rest) (record { width = p.width; height = p.height; maxval = p.maxval; length = length i.header })
picture_reads first rest p i = record {
  front = i.header;
  rest = i.raster ++ rest;
  place = i.place;
  parts = ap (λ x. x ++ rest) i.parts ∙ append_assoc i.header i.raster rest;
  heads = i.heads;
  positive = i.positive;
  small = i.small;
  length_is = refl;
}

-- after a header and lines in order comes an obstacle
most_inside : (size : Size) (bits : ℕ) (header : Header) (head bytes : List ℕ) (rows : ℕ) → Reads head header → length head ≡ header.length → rows < header.height → Obstacle header rows bytes → AreMost size bits (head ++ bytes) rows
most_inside size bits header head bytes rows reads exact below o more (nothing e) = omega (arith, e)
most_inside size bits header head bytes rows reads exact below o more (lines other front raster samples rest fits others length_is within are e) =
    let same : other ≡ header = one_header (head ++ bytes) other header (subst (λ z. Reads z other) (sym e) (reads_more front (raster ++ rest) other others)) (reads_more head bytes header reads) in
    let behind : raster ++ rest ≡ bytes =
    sym (behind_is other front (raster ++ rest) length_is) ∙ ap (λ z. drop other.length z) (sym e) ∙ ap (λ z. drop z.length (head ++ bytes)) same ∙ behind_is header head bytes exact in
    no_more header rows more bytes o (subst (λ z. HasRows header more z) behind (subst (λ z. HasRows z more (raster ++ rest)) same (raster_has other more raster rest samples are)))
most_inside size bits header head bytes rows reads exact below o more (image p first rest k pic fit e b f) =
    let other : Header = record { width = p.width; height = p.height; maxval = p.maxval; length = length pic.header } in
    let same : other ≡ header = one_header (head ++ bytes) other header (subst (λ z. Reads z other) (sym e) (picture_reads first rest p pic)) (reads_more head bytes header reads) in
    let behind : pic.raster ++ rest ≡ bytes =
    sym (behind_is other pic.header (pic.raster ++ rest) refl) ∙ ap (λ z. drop (length pic.header) z) (sym (append_assoc pic.header pic.raster rest) ∙ ap (λ x. x ++ rest) (sym pic.parts) ∙ sym e)
    ∙ ap (λ z. drop z.length (head ++ bytes)) same ∙ behind_is header head bytes exact in
    let has : HasRows header header.height bytes = subst (λ z. HasRows header header.height z) behind (subst (λ z. HasRows z z.height (pic.raster ++ rest)) same (raster_has other p.height pic.raster rest p.samples pic.holds)) in
    absurd (above header.height rows (no_more header rows header.height bytes o has) below)

-- no header of an image that fits is there
most_behind : (size : Size) (bits : ℕ) (bytes : List ℕ) → ((h : Header) → IsHeaded size bits bytes h → ⊥) → AreMost size bits bytes 0
most_behind size bits bytes none more (nothing e) = omega (arith, e)
most_behind size bits bytes none more (lines other front raster samples rest fits others length_is within are e) =
    absurd (none other (record { reads = subst (λ z. Reads z other) (sym e) (reads_more front (raster ++ rest) other others); sized = fits.sized; maxval = fits.maxval }))
most_behind size bits bytes none more (image p first rest k pic fit e b f) =
    absurd (none (record { width = p.width; height = p.height; maxval = p.maxval; length = length pic.header })
    (record { reads = subst (λ z. Reads z (record { width = p.width; height = p.height; maxval = p.maxval; length = length pic.header })) (sym e) (picture_reads first rest p pic); sized = record { width = fit.width; height = fit.height }; maxval = fit.maxval }))

-- images before
module _ (one : OneImage) (size : Size) (bits : ℕ) where
  most_images : (images : List Image) (bytes rest : List ℕ) (rows : ℕ) → AreImages bytes images → AreMost size bits rest rows → AreMost size bits (bytes ++ rest) (length images * size.height + rows)
  most_images [] bytes rest rows are most more b = let l : more ≤ rows = most more (subst (λ z. BeginsLines size bits (z ++ rest) more) are b) in omega (arith, l)
  most_images (p ∷ images) bytes rest rows are most more b = step more b (λ k c. most_images images are.1 rest rows are.4 most k c)
    where
      step : (more : ℕ) → BeginsLines size bits (bytes ++ rest) more → AreMost size bits (are.1 ++ rest) (length images * size.height + rows) → more ≤ suc (length images) * size.height + rows
      step more (nothing e) next = omega (arith, e)
      step more (lines other front raster samples behind fits others length_is within rows_are e) next = let h : other.height ≡ size.height = fits.sized.height in
          let d : suc (length images) * size.height ≡ size.height + length images * size.height = omega arith in omega (arith, within, h, d)
      step more (image q first behind k pic fit e c f) next =
          let parts : are.0 ++ (are.1 ++ rest) ≡ first ++ behind = sym (append_assoc are.0 are.1 rest) ∙ ap (λ z. z ++ rest) (sym are.2) ∙ e in
          let same : are.0 ≡ first = (one are.0 first (are.1 ++ rest) behind p q are.3 pic parts).0 in
          let tail : behind ≡ are.1 ++ rest = append_cancel_left first behind (are.1 ++ rest) (sym parts ∙ ap (λ z. z ++ (are.1 ++ rest)) same) in
          let l : k ≤ length images * size.height + rows = next k (subst (λ z. BeginsLines size bits z k) tail c) in
          let d : suc (length images) * size.height ≡ size.height + length images * size.height = omega arith in omega (arith, f, l, d)

begin_images : (size : Size) (bits : ℕ) (images : List Image) (bytes rest : List ℕ) (rows : ℕ) → AreImages bytes images → AllByRecursion (FitsImage size (greatest bits)) images → BeginsLines size bits rest rows → BeginsLines size bits (bytes ++ rest) (length images * size.height + rows)
begin_images size bits [] bytes rest rows are fit b = subst (λ z. BeginsLines size bits (z ++ rest) (0 * size.height + rows)) (sym are) (subst (λ z. BeginsLines size bits rest z) (let e : rows ≡ 0 * size.height + rows = omega arith in e) b)
begin_images size bits (p ∷ images) bytes rest rows are fit b =
    image p are.0 (are.1 ++ rest) (length images * size.height + rows) are.3 fit.0 (ap (λ z. z ++ rest) are.2 ∙ append_assoc are.0 are.1 rest) (begin_images size bits images are.1 rest rows are.4 fit.1 b)
    (let e : suc (length images) * size.height + rows ≡ size.height + (length images * size.height + rows) = omega arith in e)

pub ends_behind : OneImage → (size : Size) (bits count : ℕ) (images : List Image) (bytes rest file : List ℕ) → AreImages bytes images → AllByRecursion (FitsImage size (greatest bits)) images → length images ≡ count → file ≡ bytes ++ rest
    → ((h : Header) → IsHeaded size bits rest h → ⊥) → EndsLines size bits file (count * size.height)
ends_behind one size bits count images bytes rest file are fit count_is parts none =
    subst (λ z. EndsLines size bits z (count * size.height)) (sym parts)
    (subst (λ z. EndsLines size bits (bytes ++ rest) z) (let e : length images * size.height + 0 ≡ length images * size.height = omega arith in e ∙ ap (λ z. z * size.height) count_is)
    (record { begins = begin_images size bits images bytes rest 0 are fit (nothing refl); most = most_images one size bits images bytes rest 0 are (most_behind size bits rest none) }))

pub ends_inside : OneImage → (size : Size) (bits count : ℕ) (images : List Image) (bytes head raster samples tail file : List ℕ) (header : Header) (rows : ℕ) → AreImages bytes images → AllByRecursion (FitsImage size (greatest bits)) images → length images ≡ count
    → FitsHeader size bits header → Reads head header → length head ≡ header.length → rows < header.height → IsRaster raster header.width rows header.maxval samples → file ≡ bytes ++ (head ++ (raster ++ tail)) → Obstacle header rows (raster ++ tail) → EndsLines size bits file (count * size.height + rows)
ends_inside one size bits count images bytes head raster samples tail file header rows are fit count_is fits reads exact below lines_are parts o =
    subst (λ z. EndsLines size bits z (count * size.height + rows)) (sym parts)
    (subst (λ z. EndsLines size bits (bytes ++ (head ++ (raster ++ tail))) (z * size.height + rows)) count_is
    (record {
      begins = begin_images size bits images bytes (head ++ (raster ++ tail)) rows are fit (lines header head raster samples tail fits reads exact (omega (arith, below)) lines_are refl);
      most = most_images one size bits images bytes (head ++ (raster ++ tail)) rows are (most_inside size bits header head (raster ++ tail) rows reads exact below o);
    }))

-- ---- what follows the lines that were streamed

short_of : (header : Header) (rows : ℕ) (raster samples tail : List ℕ) → IsRaster raster header.width rows header.maxval samples → length tail < row_length header → Obstacle header rows (raster ++ tail)
short_of header rows raster samples tail is l = short (let e : (rows + 1) * row_length header ≡ rows * row_length header + row_length header = omega arith in
    omega (arith, e, l, raster_count header rows raster samples is, row_bytes rows header, length-append raster tail))

obstacle_of : (header : Header) (rows : ℕ) (raster samples read more : List ℕ) (f : RasterFault) → IsRaster raster header.width rows header.maxval samples → length read ≤ row_length header → (length read < row_length header → more ≡ []) → JudgesRow read header rows (Err f)
    → Obstacle header rows (raster ++ (read ++ more))
obstacle_of header rows raster samples read more (SampleTooGreat index) is within end j =
    let count = raster_count header rows raster samples is in
    let below : j.0 < header.width = columns header.width j.0 (sample_size header.maxval) (length read) (some_size (is_narrow header.maxval)) j.1.held within in
    let placed : sample_at header.maxval (raster ++ (read ++ more)) (rows * header.width + j.0) ≡ sample_at header.maxval read j.0 =
    placed_back (is_narrow header.maxval) raster (read ++ more) (rows * header.width) j.0 count ∙ placed_front (is_narrow header.maxval) read more j.0 j.1.held in
    great (rows * header.width + j.0) (let e : (rows + 1) * header.width ≡ rows * header.width + header.width = omega arith in omega (arith, e, below)) (subst (λ z. header.maxval < z) (sym placed) j.1.great)
obstacle_of header rows raster samples read more (Short held need) is within end j =
    short_of header rows raster samples (read ++ more) is (omega (arith, j.0, ap length (end j.0), length-append read more))

-- bytes inside a header have none whole
open_header : (bytes : List ℕ) (h : Header) → Reads bytes h → Undecided bytes → ⊥
open_header bytes h r u =
    let more = u.inside.begins.0 in
    let joined : bytes ++ more ≡ r.front ++ (r.rest ++ more) = ap (λ z. z ++ more) r.parts ∙ append_assoc r.front r.rest more in
    let header : Whole r.front = reads_whole bytes h r in
    let same : r.front ≡ r.front ++ (r.rest ++ more) = one_front r.front (r.front ++ (r.rest ++ more)) (r.rest ++ more) [] header (subst (λ z. Whole z) joined u.inside.begins.1) (sym (append-nil (r.front ++ (r.rest ++ more)))) in
    let none : r.rest ≡ [] = first_nothing r.rest more (none_behind r.front (r.rest ++ more) same) in
    let all : bytes ≡ r.front = r.parts ∙ ap (λ z. r.front ++ z) none ∙ append-nil r.front in
    u.inside.open_yet (subst (λ z. Whole z) (sym all) header)

regrouped : (a b c d : List ℕ) → (a ++ (b ++ c)) ++ d ≡ a ++ (b ++ (c ++ d))
regrouped a b c d = append_assoc a (b ++ c) d ∙ ap (λ z. a ++ z) (append_assoc b c d)

module _ (one : OneImage) (kind : Kind) (m : Netlist) (bits : ℕ) (from : Contents) (created now : Outside) where
  pub fault_behind : (f : FileFault) (file : List ℕ) → (e : LeavesBehind kind m bits (ImageFails f) (Some file) from created now) → e.count < MAX_FILE_IMAGES → EndsLines kind.size bits file (e.count * kind.size.height)
  fault_behind f file e few = by e.why
    where
      by : EndsNext kind.size bits e.count (length e.taken.bytes) (ImageFails f) e.half.image now.image → EndsLines kind.size bits file (e.count * kind.size.height)
      by (at_byte full w) = absurd (omega (arith, full, few))
      by (in_header l r) =
          let p = told_parts e.taken.bytes e.half.image.rest file (sym e.taken.given) in
          let q = told_parts r.read now.image.rest p.0 (sym r.given ∙ p.1) in
          ends_behind one kind.size bits e.count e.taken.images e.taken.bytes p.0 file e.taken.are e.taken.fit e.taken.count_is p.2 (λ h i. r.none q.0 q.1 h (subst (λ z. IsHeaded kind.size bits z h) q.2 i))

  pub fault_inside : (f : FileFault) (file : List ℕ) → (e : LeavesInside kind m bits (ImageFails f) (Some file) from created now) → EndsLines kind.size bits file (e.count * kind.size.height + e.rows)
  fault_inside f file e =
      let t = e.taken in
      let w = e.why.1 in
      let p = told_parts (t.bytes ++ (t.head ++ t.raster)) e.half.image.rest file (sym t.given) in
      let q = told_parts w.read now.image.rest p.0 (sym w.given ∙ p.1) in
      ends_inside one kind.size bits e.count t.images t.bytes t.head t.raster t.samples (w.read ++ q.0) file e.header e.rows t.are t.fit t.count_is e.fits t.reads t.exact e.inside t.is_raster
      (p.2 ∙ ap (λ z. (t.bytes ++ (t.head ++ t.raster)) ++ z) q.2 ∙ regrouped t.bytes t.head t.raster (w.read ++ q.0))
      (obstacle_of e.header e.rows t.raster t.samples w.read q.0 e.why.0 t.is_raster w.within (λ l. at_end now.image.rest q.0 (w.end l) q.1) w.judged)

  pub read_behind : (all : Option (List ℕ)) → (e : LeavesBehind kind m bits Read all from created now) → e.count < MAX_FILE_IMAGES → (read : List ℕ) × (all ≡ prepend_known read now.image.rest) × EndsLines kind.size bits read (e.count * kind.size.height)
  read_behind all e few = by e.why
    where
      by : EndsNext kind.size bits e.count (length e.taken.bytes) Read e.half.image now.image → (read : List ℕ) × (all ≡ prepend_known read now.image.rest) × EndsLines kind.size bits read (e.count * kind.size.height)
      by (at_byte full given) = absurd (omega (arith, full, few))
      by (in_header l r) = (
        e.taken.bytes ++ r.read,
        e.taken.given ∙ ap (λ z. prepend_known e.taken.bytes z) r.given ∙ prepend_known-more e.taken.bytes r.read now.image.rest,
        ends_behind one kind.size bits e.count e.taken.images e.taken.bytes r.read (e.taken.bytes ++ r.read) e.taken.are e.taken.fit e.taken.count_is refl (λ h i. open_header r.read h i.reads r.inside),
      )

  pub read_inside : (all : Option (List ℕ)) → (e : LeavesInside kind m bits Read all from created now) → (read : List ℕ) × (all ≡ prepend_known read now.image.rest) × EndsLines kind.size bits read (e.count * kind.size.height + e.rows)
  read_inside all e =
      let t = e.taken in
      let lost = e.why.0 in
      let seen = t.bytes ++ (t.head ++ t.raster) in (
        seen ++ lost,
        t.given ∙ ap (λ z. prepend_known seen z) e.why.2 ∙ prepend_known-more seen lost now.image.rest,
        ends_inside one kind.size bits e.count t.images t.bytes t.head t.raster t.samples lost (seen ++ lost) e.header e.rows t.are t.fit t.count_is e.fits t.reads t.exact e.inside t.is_raster
            (regrouped t.bytes t.head t.raster lost) (short_of e.header e.rows t.raster t.samples lost t.is_raster e.why.1),
      )
