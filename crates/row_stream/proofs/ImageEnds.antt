-- How the images of a file go on, and how they end.
use Rattle.std.proofs.Common.{◌≡◌, ℕ, ◌+◌, ◌*◌, ◌^◌, ◌<◌, ◌≤◌, List, [], ◌∷◌, ◌++◌, length, Option, Some, Err, refl, ap, sym, subst, ◌∙◌, arith, length-append}
use Rattle.dk_base.specs.declared.TheConstants.{MAX_FILE_IMAGES, MAX_SIDE}
use Rattle.std.specs.Io.KnownBytes.{IsAtEnd}
use Rattle.dk_desk.specs.declared.InSlot.TheVariants.{Image as ImageSlot}
use Rattle.dk_desk.specs.Outside.{Outside, Input}
use Rattle.dk_desk.specs.Calls.{ReadsOnly}
use Rattle.wiring.specs.Netlist.{Netlist}
use Rattle.wiring.specs.Snapshot.{Contents}
use Rattle.pgm_codec.specs.declared.header.Header.{Header}
use Rattle.pgm_codec.specs.declared.raster.RasterFault.{RasterFault}
use Rattle.pgm_codec.specs.declared.raster.RasterFault.TheVariants.{SampleTooGreat}
use Rattle.pgm_codec.specs.Rasters.{JudgesRow, row_length}
use Rattle.pgm_codec.proofs.Stays.{reads_more}
use Rattle.pgm_rounds.specs.declared.fault.FileFault.{FileFault}
use Rattle.pgm_rounds.specs.Files.{IsFault, IsHeaded}
use Rattle.row_stream.specs.declared.line.Line.{Line}
use Rattle.row_stream.specs.declared.rows.RowsFault.TheVariants.{Raster}
use Rattle.row_stream.specs.declared.faults.StreamFault.{StreamFault}
use Rattle.row_stream.specs.declared.faults.StreamFault.TheVariants.{Image}
use Rattle.row_stream.specs.Lines.{Kind}
use Rattle.row_stream.specs.Heads.{TakesHead, FitsHeader}
use Rattle.row_stream.specs.RowReading.{Streams, EndsReading}
use Rattle.row_stream.specs.ImageReading.{Images, EndsImage, Stands, StreamsAll, EndsBehind, EndsInside, EndsImages, found_behind, found_inside, unread}
use Rattle.row_stream.specs.Ends.{one_port, greatest, EndsNext, in_header, at_byte}
use Rattle.row_stream.proofs.Clocks.{goes_none}
use Rattle.row_stream.proofs.RowLemmas.{read_only}
use Rattle.row_stream.proofs.Rasters.{times}
use Rattle.row_stream.proofs.HeadEnds.{prepend_none, at_end, reads_some}
use Rattle.row_stream.proofs.Adds.{image_more, bytes_more}
use Rattle.row_stream.proofs.FirstFault.{first_refused, first_too_many, told_parts, great_index, judged_raster}

small_area : (w h i : ℕ) → w ≤ MAX_SIDE → h ≤ MAX_SIDE → i < w * h → i < 2 ^ 40
small_area w h i a b l = let e : (w + 1) * h ≤ (MAX_SIDE + 1) * h = times w (MAX_SIDE + 1) h (omega (arith, a)) in let d : (w + 1) * h ≡ w * h + h = omega arith in omega (arith, e, d, b, l)

pub raster_index : (kind : Kind) (m : Netlist) (header : Header) (f : RasterFault) (from : Contents) (old : Line) (before now : Outside) → EndsReading kind m header (Raster f) from old before now → header.width ≤ MAX_SIDE → header.height ≤ MAX_SIDE
    → (index : ℕ) → f ≡ SampleTooGreat index → index < 2 ^ 40
raster_index kind m header f from old before now e w h index is =
    small_area header.width header.height index w h (great_index header e.rows e.streams.raster e.streams.are e.inside e.fault.read index e.fault.within (subst (λ z. JudgesRow e.fault.read header e.rows (Err z)) is e.fault.judged))

-- the first header was taken
pub stands_none : (kind : Kind) (m : Netlist) (bits : ℕ) (header : Header) (at : Contents) (line : Line) (before : Input) (o : Outside) → TakesHead header before o.image → Stands kind m bits 0 0 header before.rest at at line line (unread before o) o
stands_none kind m bits header at line before o t = record {
  at = record {
    half = unread before o;
    images = record {
      images = [];
      bytes = [];
      are = refl;
      fit = tt;
      count_is = refl;
      given = sym (prepend_none before.rest);
      goes = goes_none kind m at line (unread before o);
    };
    head = t.read;
    reads = t.reads;
    exact = t.exact;
    given = t.given;
    only = refl;
  };
  offset_is = refl;
}

module _ (kind : Kind) (m : Netlist) (bits count offset : ℕ) (header : Header) (all : Option (List ℕ)) (from mid : Contents) (old between : Line) (before half now : Outside) (fits : FitsHeader kind.size bits header)
    (stands : Stands kind m bits count offset header all from mid old between before half) where
  -- its lines were streamed
  module _ (to : Contents) (new : Line) (streams : Streams kind m header header.height mid to between new half now) where
    abbrev pub images : Images kind m (greatest bits) (count + 1) all from to old new before now
    images = image_more kind m (greatest bits) count header all from mid to old between new before half now fits.sized.width fits.sized.height fits.maxval stands.at streams

    module _ (next_offset : ℕ) (moved : next_offset ≡ offset + (header.length + header.height * row_length header)) where
      offset_more : next_offset ≡ length images.bytes
      offset_more = moved ∙ ap (λ z. z + (header.length + header.height * row_length header)) stands.offset_is
          ∙ sym (bytes_more kind m (greatest bits) count header all from mid to old between new before half now fits.sized.width fits.sized.height fits.maxval stands.at streams)

      pub stands_more : (next : Header) (later : Outside) → TakesHead next now.image later.image → ReadsOnly ImageSlot now later → later.input_failures ≡ now.input_failures → Stands kind m bits (count + 1) next_offset next all from to old new before later
      stands_more next later t only same = record {
        at = record { half = now; images = images; head = t.read; reads = t.reads; exact = t.exact; given = t.given; only = read_only now later only same };
        offset_is = offset_more;
      }

      pub ends_behind : (f : StreamFault) (later : Outside) → ReadsOnly ImageSlot now later → EndsNext kind.size bits (count + 1) next_offset f now.image later.image → EndsBehind kind m bits f all from old before later
      ends_behind f later only why = record {
        count = count + 1;
        some = omega arith;
        to = to;
        new = new;
        half = now;
        images = images;
        why = subst (λ z. EndsNext kind.size bits (count + 1) z f now.image later.image) offset_more why;
        only = only;
      }

    pub streams_all : count < MAX_FILE_IMAGES → (later : Outside) → later ≡ now → IsAtEnd later.image.rest → StreamsAll kind m bits all from to old new before later
    streams_all few later same end = subst (λ z. StreamsAll kind m bits all from to old new before z) (sym same) (record {
      count = count + 1;
      some = omega arith;
      few = omega (arith, few);
      images = images;
      end = subst (λ (z : Outside). IsAtEnd z.image.rest) same end;
    })

-- what was refused after images is the file's first fault
module _ (kind : Kind) (m : Netlist) (bits : ℕ) (f : FileFault) (all : Option (List ℕ)) (from : Contents) (old : Line) (before now : Outside) where
  first_behind : (e : EndsBehind kind m bits (Image f) all from old before now) → EndsNext kind.size bits e.count (length e.images.bytes) (Image f) e.half.image now.image → (file : List ℕ) → all ≡ Some file → IsFault (one_port kind.size bits) file f
  first_behind e (in_header few r) file told =
      let p = told_parts e.images.bytes e.half.image.rest file (sym e.images.given ∙ told) in
      let q = told_parts r.read now.image.rest p.0 (sym r.given ∙ p.1) in
      first_refused kind.size bits e.count e.images.images e.images.bytes (r.read ++ q.0) file f (p.2 ∙ ap (λ z. e.images.bytes ++ z) q.2) e.images.are e.images.fit e.images.count_is few
      (λ _. let l : 0 < length r.read = r.some refl in omega (arith, l, length-append r.read q.0)) (r.refused e.count q.0 q.1)
  first_behind e (at_byte full w) file told =
      let byte = w.0 in
      let p = told_parts e.images.bytes e.half.image.rest file (sym e.images.given ∙ told) in
      let q = told_parts (byte ∷ []) now.image.rest p.0 (sym w.2 ∙ p.1) in
      subst (λ z. IsFault (one_port kind.size bits) file z) (sym w.1)
      (first_too_many kind.size bits e.images.images e.images.bytes (byte ∷ q.0) file (p.2 ∙ ap (λ z. e.images.bytes ++ z) q.2) e.images.are e.images.fit (e.images.count_is ∙ full) (omega arith))

  first_inside : EndsInside kind m bits (Image f) all from old before now → (file : List ℕ) → all ≡ Some file → IsFault (one_port kind.size bits) file f
  first_inside e file told =
      let at = e.at in
      let g = e.why.0 in
      let w = e.why.1 in
      let p = told_parts at.images.bytes at.half.image.rest file (sym at.images.given ∙ told) in
      let q = told_parts at.head e.half.image.rest p.0 (sym at.given ∙ p.1) in
      let r = told_parts w.streams.raster w.half.image.rest q.0 (sym w.streams.given ∙ q.1) in
      let s = told_parts w.fault.read now.image.rest r.0 (sym w.fault.given ∙ r.1) in
      let rest = at.head ++ (w.streams.raster ++ (w.fault.read ++ s.0)) in
      let parts : file ≡ at.images.bytes ++ rest = p.2 ∙ ap (λ z. at.images.bytes ++ z) (q.2 ∙ ap (λ z. at.head ++ z) (r.2 ∙ ap (λ z. w.streams.raster ++ z) s.2)) in
      let headed : IsHeaded kind.size bits rest e.header = record { reads = reads_more at.head (w.streams.raster ++ (w.fault.read ++ s.0)) e.header at.reads; sized = e.fits.sized; maxval = e.fits.maxval } in
      first_refused kind.size bits e.count at.images.images at.images.bytes rest file f parts at.images.are at.images.fit at.images.count_is e.few
      (λ _. let l : 0 < length at.head = reads_some at.head e.header at.reads in omega (arith, l, length-append at.head (w.streams.raster ++ (w.fault.read ++ s.0))))
      (e.why.2 (length at.images.bytes) rest headed (judged_raster e.header w.rows w.streams.raster w.streams.are w.inside at.head w.fault.read s.0 g at.exact w.fault.within (λ l. at_end now.image.rest s.0 (w.fault.end l) s.1) w.fault.judged))

  pub first_fault : EndsImages kind m bits (Image f) all from old before now → (file : List ℕ) → all ≡ Some file → IsFault (one_port kind.size bits) file f
  first_fault (found_behind e) = first_behind e e.why
  first_fault (found_inside e) = first_inside e

pub ends_image : (kind : Kind) (m : Netlist) (bits count offset : ℕ) (f : StreamFault) (header : Header) (all : Option (List ℕ)) (from mid : Contents) (old between : Line) (before half now : Outside) → FitsHeader kind.size bits header → count < MAX_FILE_IMAGES
    → Stands kind m bits count offset header all from mid old between before half → EndsImage kind m header bits count f mid between half now → EndsImages kind m bits f all from old before now
ends_image kind m bits count offset f header all from mid old between before half now fits few s e =
    found_inside (record { count = count; few = few; header = header; fits = fits; to = mid; new = between; half = half; at = s.at; why = e })
