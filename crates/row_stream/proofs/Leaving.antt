-- What a stream leaves, of what was clocked since File was created.
use Rattle.std.proofs.Common.{◌≡◌, ◌≢◌, ℕ, zero, suc, ◌+◌, ◌*◌, ◌<◌, ◌≤◌, Bool, false, List, [], ◌∷◌, ◌++◌, length, take, drop, map, replicate, Option, Some, None, Err, Result, inl, inr, ◌⊎◌, refl, ap, sym, subst, ◌∙◌, arith, append-nil}
use Rattle.dk_base.specs.declared.TheConstants.{MAX_FILE_IMAGES}
use Rattle.std.specs.Option.{option_map}
use Rattle.std.specs.List.{range_with_len}
use Rattle.std.specs.Io.KnownBytes.{prepend_known, IsAtEnd}
use Rattle.std.proofs.lemmas.Bool.{cases_lt}
use Rattle.std.proofs.lemmas.List.{map-append}
use Rattle.dk_desk.specs.declared.InSlot.TheVariants.{Image as ImageSlot}
use Rattle.dk_desk.specs.declared.Stage.TheVariants.{Open}
use Rattle.dk_desk.specs.Outside.{Outside, Input}
use Rattle.dk_desk.specs.Calls.{IsIfTold, AddsToFile, CreatesOnly, ReadsOnly, grow_created, with_created}
use Rattle.dk_desk.proofs.DeskLemmas.{grown-nothing, grow_created-nothing, told-itself, told-grown, told-grow_created, prepend_known-more}
use Rattle.wiring.specs.Netlist.{Netlist}
use Rattle.wiring.specs.Snapshot.{Contents}
use Rattle.wiring.specs.Clock.{Clock}
use Rattle.wiring.specs.Runs.{picture}
use Rattle.pgm_codec.specs.declared.header.Header.{Header}
use Rattle.pgm_codec.specs.Images.{IsRaster, raster_of}
use Rattle.pgm_rounds.specs.declared.fault.FileFault.{FileFault}
use Rattle.row_stream.specs.declared.line.Line.{Line}
use Rattle.row_stream.specs.declared.rows.RowsFault.{RowsFault}
use Rattle.row_stream.specs.declared.rows.RowsFault.TheVariants.{Raster, Read as RowsRead}
use Rattle.row_stream.specs.declared.faults.StreamFault.{StreamFault}
use Rattle.row_stream.specs.declared.faults.StreamFault.TheVariants.{Image, Read, Write}
use Rattle.row_stream.specs.Lines.{Kind, head, lines, line_at}
use Rattle.row_stream.specs.Moving.{Gains, GainsBut}
use Rattle.row_stream.specs.Standing.{note_of, pixel_clock, reset_clock}
use Rattle.row_stream.specs.Progress.{Writes, FailsInLine, Goes, Fails, pixel_clocks}
use Rattle.row_stream.specs.Heads.{EndsHeading}
use Rattle.row_stream.specs.RowReading.{AreRows, Streams, EndsReading, samples_in}
use Rattle.row_stream.specs.Images.{samples_of}
use Rattle.row_stream.specs.Rows.{IsLineFault}
use Rattle.row_stream.specs.ImageReading.{AtHead, EndsBehind, EndsInside, EndsImages, found_behind, found_inside, StreamsAll, unread}
use Rattle.row_stream.specs.Ends.{greatest, EndsNext, in_header, at_byte}
use Rattle.row_stream.specs.Whole.{IsFresh, Creates, drive, Shows, FailsShowing, ShowsLines, LeavesAll, LeavesBehind, LeavesInside, FailsInside, LeavesEarly, at_start, behind, inside, write_inside, write_behind, Leaves}
use Rattle.row_stream.proofs.Clocks.{goes_join, goes_none, runs_join, shown_join, notes_join}
use Rattle.row_stream.proofs.RowLemmas.{goes_read, gains_read}
use Rattle.row_stream.proofs.Adds.{by_sample, times_turned}
use Rattle.row_stream.proofs.Taken.{samples, is_raster, sample_is}
use Rattle.row_stream.proofs.FirstFault.{first_refused, told_parts, fits_file}
use Rattle.row_stream.proofs.HeadEnds.{at_end}
use Rattle.row_stream.proofs.ImageEnds.{first_fault}

-- ---- bytes and notes after the header

told_none : (notes : Option (List (Bool × ℕ))) → IsIfTold notes (option_map (λ l. l ++ []) notes)
told_none None = tt
told_none (Some l) = ap (λ z. Some z) (append-nil l)

gains_none : (o : Outside) → Gains o [] [] o
gains_none o = record {
  only = refl;
  grows = subst (λ z. IsIfTold o.file.bytes z) (sym (grown-nothing o.file.bytes)) (told-itself o.file.bytes);
  files = subst (λ z. IsIfTold o.files z) (sym (grow_created-nothing o.files o.file.name)) (told-itself o.files);
  told = told_none o.notes;
}

gains_before : (a b c : Outside) (x w : List ℕ) (notes : List (Bool × ℕ)) → AddsToFile a x b → Gains b w notes c → Gains a (x ++ w) notes c
gains_before a b c x w notes first h = record {
  only = h.only ∙ ap (λ (o : Outside). record o { image = record o.image { rest = c.image.rest }; file = record o.file { bytes = c.file.bytes }; files = c.files; notes = c.notes }) first.only;
  grows = told-grown a.file.bytes b.file.bytes c.file.bytes x w first.grows h.grows;
  files = told-grow_created a.files b.files c.files a.file.name x w first.files
      (let same : b.file.name ≡ a.file.name = ap (λ (o : Outside). o.file.name) first.only in subst (λ z. IsIfTold c.files (grow_created b.files z w)) same h.files);
  told = let same : b.notes ≡ a.notes = ap (λ (o : Outside). o.notes) first.only in subst (λ z. IsIfTold c.notes (option_map (λ before. before ++ notes) z)) same h.told;
}

gains_but_before : (a b c : Outside) (x w : List ℕ) (notes : List (Bool × ℕ)) → AddsToFile a x b → GainsBut b w notes c → GainsBut a (x ++ w) notes c
gains_but_before a b c x w notes first h =
    let input : b.input_failures ≡ a.input_failures = ap (λ (o : Outside). o.input_failures) first.only in
    let output : b.output_failures ≡ a.output_failures = ap (λ (o : Outside). o.output_failures) first.only in
    subst (λ i. Gains a (x ++ w) notes (record c { input_failures = i; output_failures = a.output_failures })) input
    (subst (λ n. Gains a (x ++ w) notes (record c { input_failures = b.input_failures; output_failures = n })) output
    (gains_before a b (record c { input_failures = b.input_failures; output_failures = b.output_failures }) x w notes first h))

dropped : (n : ℕ) → ◌≡◌ {A = List ℕ} (drop n []) []
dropped zero = refl
dropped (suc n) = refl

none_yet : (r w c : ℕ) → r ≡ 0 → c ≡ 0 → 0 ≡ r * w + c
none_yet r w c e f = subst (λ z. 0 ≡ z * w + c) (sym e) (omega (arith, f))

fresh_writes : (kind : Kind) (line : Line) (o : Outside) → IsFresh line → 0 < kind.size.width → Writes kind o [] [] line o
fresh_writes kind line o fresh some = record {
  pending = record {
    count = none_yet line.rows kind.size.width line.count fresh.rows fresh.count;
    below = omega (arith, fresh.count, some);
    bytes = fresh.bytes ∙ sym (ap (λ z. raster_of kind.maxval z) (dropped (line.rows * kind.size.width)));
  };
  gained = subst (λ r. Gains o (lines kind [] r) [] o) (sym fresh.rows) (gains_none o);
}

-- ---- what was clocked since the header was written

module _ (kind : Kind) (m : Netlist) (from : Contents) (line : Line) (created begun : Outside) (fresh : IsFresh line) (some : 0 < kind.size.width) (header : AddsToFile created (head kind) begun) where
  pub shows_of : (cs : List Clock) (to : Contents) (new : Line) (now : Outside) → Goes kind m cs from to line new begun now → Shows kind m from cs created now
  shows_of cs to new now g =
      let w = g.writes begun [] [] (fresh_writes kind line begun fresh some) in
      record {
        shots = g.shots;
        to = to;
        runs = g.runs;
        rows = new.rows;
        whole = omega (arith, w.pending.count);
        last = (let e : (new.rows + 1) * kind.size.width ≡ new.rows * kind.size.width + kind.size.width = omega arith in omega (arith, e, w.pending.count, w.pending.below));
        gained = gains_before created begun now (head kind) (lines kind (picture 0 g.shots) new.rows) (map note_of g.shots) header w.gained;
      }

  pub fails_of : (cs ds : List Clock) (mid : Contents) (between : Line) (half now : Outside) → Goes kind m cs from mid line between begun half → Fails kind m ds mid between half now → FailsShowing kind m from cs ds created now
  fails_of cs ds mid between half now g h =
      let w = g.writes begun [] [] (fresh_writes kind line begun fresh some) in
      let here : FailsInLine kind begun (picture 0 (g.shots ++ h.shots)) (map note_of (g.shots ++ h.shots)) now =
      subst (λ z. FailsInLine kind begun z (map note_of (g.shots ++ h.shots)) now) (shown_join [] g.shots h.shots)
      (subst (λ z. FailsInLine kind begun (([] ++ picture 0 g.shots) ++ picture 0 h.shots) z now) (notes_join [] g.shots h.shots)
      (h.fails begun ([] ++ picture 0 g.shots) ([] ++ map note_of g.shots) w)) in
      record {
        made = h.made;
        some = h.some;
        within = h.within;
        shots = g.shots ++ h.shots;
        to = h.to;
        runs = runs_join m cs (take h.made ds) from mid h.to g.shots h.shots g.runs h.runs;
        row = here.row;
        whole = here.whole;
        count = here.count;
        inside = here.within;
        gained = gains_but_before created begun now (head kind) (lines kind (picture 0 (g.shots ++ h.shots)) here.row ++ take here.count (line_at kind (picture 0 (g.shots ++ h.shots)) here.row)) (map note_of (g.shots ++ h.shots)) header here.gained;
      }

  pub fails_at_reset : (now : Outside) → Fails kind m (reset_clock ∷ []) from line begun now → FailsShowing kind m from [] (reset_clock ∷ []) created now
  fails_at_reset now h = fails_of [] (reset_clock ∷ []) from line begun now (goes_none kind m from line begun) h

-- ---- begin

pub creates_of : (name : List ℕ) (old created : Outside) → CreatesOnly old created → created.output_failures ≡ old.output_failures → created.file.stage ≡ Open → IsIfTold created.file.name (Some name) → IsIfTold created.file.bytes (Some [])
    → IsIfTold created.files (with_created old.files created.file) → Creates name old created
creates_of name old created only same stage named empty files = record {
  only = only ∙ ap (λ n. record old { file = created.file; files = created.files; output_failures = n }) same
      ∙ ap (λ r. record old { image = record old.image { rest = r }; file = created.file; files = created.files }) (sym (ap (λ (o : Outside). o.image.rest) only));
  stage = stage;
  named = named;
  empty = empty;
  files = files;
}

pub creates_from : (name : List ℕ) (old before created : Outside) → before ≡ record old { image = record old.image { rest = before.image.rest } } → Creates name before created → Creates name old created
creates_from name old before created e h = record {
  only = h.only ∙ ap (λ (o : Outside). record o { image = record o.image { rest = created.image.rest }; file = created.file; files = created.files }) e;
  stage = h.stage;
  named = h.named;
  empty = h.empty;
  files = subst (λ z. IsIfTold created.files (with_created z created.file)) (ap (λ (o : Outside). o.files) e) h.files;
}

-- ---- the lines of an image as samples

abbrev rows_are : (header : Header) (rows : ℕ) (raster : List ℕ) → AreRows header rows raster → AreRows (record header { height = rows }) rows raster
rows_are header rows raster are = record { length_is = are.length_is; fit = are.fit; bytes = are.bytes }

abbrev pub row_samples : (header : Header) (rows : ℕ) (raster : List ℕ) → AreRows header rows raster → List ℕ
row_samples header rows raster are = samples (record header { height = rows }) raster (rows_are header rows raster are)

rows_raster : (header : Header) (rows : ℕ) (raster : List ℕ) → (are : AreRows header rows raster) → IsRaster raster header.width rows header.maxval (row_samples header rows raster are)
rows_raster header rows raster are = is_raster (record header { height = rows }) raster (rows_are header rows raster are)

clocks_are : (header : Header) (rows : ℕ) (raster : List ℕ) → (are : AreRows header rows raster) → pixel_clocks (samples_in header.maxval raster) (rows * header.width) ≡ map (λ s. pixel_clock s) (row_samples header rows raster are)
clocks_are header rows raster are =
    let r = rows_raster header rows raster are in
    ap (λ n. pixel_clocks (samples_in header.maxval raster) n) (times_turned header.width rows ∙ sym r.count)
    ∙ by_sample (samples_in header.maxval raster) 0 (row_samples header rows raster are) (λ k b. sample_is (record header { height = rows }) raster (rows_are header rows raster are) k (subst (λ z. k < z) r.count b)
    ∙ ap (λ z. samples_in header.maxval raster z) (let e : k ≡ 0 + k = omega arith in e))

fails_read : (kind : Kind) (m : Netlist) (cs : List Clock) (from : Contents) (old : Line) (before mid now : Outside) → mid ≡ record before { image = record before.image { rest = mid.image.rest } } → Fails kind m cs from old mid now → Fails kind m cs from old before now
fails_read kind m cs from old before mid now e h = record {
  made = h.made;
  within = h.within;
  some = h.some;
  shots = h.shots;
  to = h.to;
  runs = h.runs;
  fails = λ start samples notes w. h.fails start samples notes (record { pending = w.pending; gained = gains_read start before mid (lines kind samples old.rows) notes e w.gained });
}

zeros : (n a : ℕ) → map (λ (k : ℕ). pixel_clock 0) (range_with_len a n) ≡ map (λ s. pixel_clock s) (replicate n 0)
zeros zero a = refl
zeros (suc n) a = ap (λ z. pixel_clock 0 ∷ z) (zeros n (a + 1))

apart : (f : FileFault) → ◌≡◌ {A = StreamFault} (Image f) Read → ⊥
apart f e = cc

-- a count that is greater only after a failed read
pub unless_read : (f : StreamFault) (before now : ℕ) → before ≤ now → (before < now → f ≡ Read) → f ≢ Read → now ≡ before
unless_read f before now later always other = by (cases_lt before now)
  where
    by : (before < now) ⊎ (now ≤ before) → now ≡ before
    by (inl l) = absurd (other (always l))
    by (inr l) = omega (arith, l, later)

-- ---- the images, after the reset clock

module _ (kind : Kind) (m : Netlist) (bits latency : ℕ) (name : List ℕ) (from first : Contents) (line next : Line) (old before created begun reset : Outside) (fresh : IsFresh line) (some : 0 < kind.size.width)
    (taken : before ≡ record old { image = record old.image { rest = before.image.rest } }) (creates : Creates name before created) (header : AddsToFile created (head kind) begun) (goes : Goes kind m (reset_clock ∷ []) from first line next begun reset) where
  abbrev start : Outside
  start = unread old.image reset

  abbrev all : Option (List ℕ)
  all = old.image.rest

  made : Creates name old created
  made = creates_from name old before created taken creates

  driven : (xs : List ℕ) (to : Contents) (new : Line) (now : Outside) → Goes kind m (map (λ s. pixel_clock s) xs) first to next new start now → Goes kind m (drive xs) from to line new begun now
  driven xs to new now g = goes_join kind m (reset_clock ∷ []) (map (λ s. pixel_clock s) xs) from first line next begun reset now to new goes (goes_read kind m (map (λ s. pixel_clock s) xs) first to next new reset start now refl g)

  more_driven : (xs ys : List ℕ) (mid to : Contents) (between new : Line) (half now : Outside) → Goes kind m (drive xs) from mid line between begun half → Goes kind m (map (λ s. pixel_clock s) ys) mid to between new half now → Goes kind m (drive (xs ++ ys)) from to line new begun now
  more_driven xs ys mid to between new half now g h =
      subst (λ z. Goes kind m (reset_clock ∷ z) from to line new begun now) (sym (map-append (λ s. pixel_clock s) xs ys))
      (goes_join kind m (drive xs) (map (λ s. pixel_clock s) ys) from mid line between begun half now to new g h)

  leaves_behind : (f : StreamFault) (now : Outside) → EndsBehind kind m bits f all first next start now → LeavesBehind kind m bits f all from created now
  leaves_behind f now e = record {
    count = e.count;
    some = e.some;
    half = e.half;
    taken = record {
      images = e.images.images;
      bytes = e.images.bytes;
      are = e.images.are;
      fit = e.images.fit;
      count_is = e.images.count_is;
      given = e.images.given;
      shows = shows_of kind m from line created begun fresh some header (drive (samples_of e.images.images)) e.to e.new e.half (driven (samples_of e.images.images) e.to e.new e.half e.images.goes);
    };
    why = e.why;
    only = e.only;
  }

  module _ (count : ℕ) (h : Header) (rows : ℕ) (mid to : Contents) (between new : Line) (half now : Outside) (at : AtHead kind m (greatest bits) count h all first mid next between start half) (s : Streams kind m h rows mid to between new half now) where
    abbrev seen : List ℕ
    seen = samples_of at.images.images ++ row_samples h rows s.raster s.are

    lines_driven : Goes kind m (drive seen) from to line new begun now
    lines_driven = more_driven (samples_of at.images.images) (row_samples h rows s.raster s.are) mid to between new at.half now (driven (samples_of at.images.images) mid between at.half at.images.goes)
        (goes_read kind m (map (λ z. pixel_clock z) (row_samples h rows s.raster s.are)) mid to between new at.half half now at.only (subst (λ z. Goes kind m z mid to between new half now) (clocks_are h rows s.raster s.are) s.goes))

    abbrev shows_lines : ShowsLines kind m bits count h rows all from created now
    shows_lines = record {
      images = at.images.images;
      bytes = at.images.bytes;
      are = at.images.are;
      fit = at.images.fit;
      count_is = at.images.count_is;
      head = at.head;
      reads = at.reads;
      exact = at.exact;
      raster = s.raster;
      samples = row_samples h rows s.raster s.are;
      is_raster = rows_raster h rows s.raster s.are;
      given = at.images.given ∙ ap (λ z. prepend_known at.images.bytes z) (at.given ∙ ap (λ z. prepend_known at.head z) s.given ∙ prepend_known-more at.head s.raster now.image.rest) ∙ prepend_known-more at.images.bytes (at.head ++ s.raster) now.image.rest;
      shows = shows_of kind m from line created begun fresh some header (drive seen) to new now lines_driven;
    }

  leaves_inside : (f : StreamFault) (g : RowsFault) (now : Outside) → (e : EndsInside kind m bits f all first next start now) → (r : EndsReading kind m e.header g e.to e.new e.half now) → IsLineFault e.header r.rows f r.half.image now.image → LeavesInside kind m bits f all from created now
  leaves_inside f g now e r why = record {
    count = e.count;
    few = e.few;
    header = e.header;
    fits = e.fits;
    rows = r.rows;
    inside = r.inside;
    half = r.half;
    taken = shows_lines e.count e.header r.rows e.to r.to e.new r.new e.half r.half e.at r.streams;
    why = why;
    only = r.only;
  }

  fails_inside : (now : Outside) → EndsInside kind m bits Write all first next start now → FailsInside kind m bits all from created now
  fails_inside now e =
      let w = e.why in
      record {
        count = e.count;
        few = e.few;
        header = e.header;
        fits = e.fits;
        rows = w.rows;
        inside = w.inside;
        half = w.half;
        taken = shows_lines e.count e.header w.rows e.to w.mid e.new w.between e.half w.half e.at w.streams;
        row = w.row;
        samples = row_samples e.header 1 w.row w.are;
        is_row = rows_raster e.header 1 w.row w.are;
        given = w.given;
        fails = fails_of kind m from line created begun fresh some header (drive (seen e.count e.header w.rows e.to w.mid e.new w.between e.half w.half e.at w.streams)) (map (λ z. pixel_clock z) (row_samples e.header 1 w.row w.are)) w.mid w.between w.half now
            (lines_driven e.count e.header w.rows e.to w.mid e.new w.between e.half w.half e.at w.streams)
            (fails_read kind m (map (λ z. pixel_clock z) (row_samples e.header 1 w.row w.are)) w.mid w.between w.half w.read now w.only
            (subst (λ z. Fails kind m z w.mid w.between w.read now) (clocks_are e.header 1 w.row w.are)
            (subst (λ n. Fails kind m (pixel_clocks (samples_in e.header.maxval w.row) n) w.mid w.between w.read now) (let d : e.header.width ≡ 1 * e.header.width = omega arith in d) w.fails)));
      }

  no_next : (images offset : ℕ) (half now : Input) → EndsNext kind.size bits images offset Write half now → ⊥
  no_next images offset half now (in_header few e) = e
  no_next images offset half now (at_byte full e) = e

  pub leaves_images : (f : StreamFault) (now : Outside) → EndsImages kind m bits f all first next start now → (f ≢ Read → now.input_failures ≡ old.input_failures) → Leaves kind m bits latency f name from old now
  leaves_images (Image f) now e same = record { leaves = early e; first = first_fault kind m bits f all first next start now e; no_failure = same (apart f) }
    where
      early : EndsImages kind m bits (Image f) all first next start now → LeavesEarly kind m bits (Image f) name from old now
      early (found_behind e) = behind created made (leaves_behind (Image f) now e)
      early (found_inside e) = inside created made (leaves_inside (Image f) (Raster e.why.0) now e e.why.1 (e.why.0, e.why.1.fault))
  leaves_images Read now (found_behind e) same = behind created made (leaves_behind Read now e)
  leaves_images Read now (found_inside e) same = inside created made (leaves_inside Read RowsRead now e e.why e.why.fault)
  leaves_images Write now (found_behind e) same = absurd (no_next e.count (length e.images.bytes) e.half.image now.image e.why)
  leaves_images Write now (found_inside e) same = write_inside created made (fails_inside now e)

  pub leaves_all : (mid to : Contents) (between new : Line) (half now : Outside) → StreamsAll kind m bits all first mid next between start half → Goes kind m (pixel_clocks (λ k. 0) latency) mid to between new half now → now.image ≡ half.image → LeavesAll kind m bits latency name from old now
  leaves_all mid to between new half now a g idle = record {
    created = created;
    creates = made;
    images = a.images.images;
    bytes = a.images.bytes;
    are = a.images.are;
    fit = a.images.fit;
    some = subst (λ z. 0 < z) (sym a.images.count_is) a.some;
    few = subst (λ z. z ≤ MAX_FILE_IMAGES) (sym a.images.count_is) a.few;
    given = subst (λ (i : Input). all ≡ prepend_known a.images.bytes i.rest) (sym idle) a.images.given;
    end = subst (λ (i : Input). IsAtEnd i.rest) (sym idle) a.end;
    whole = λ file told.
        let p = told_parts a.images.bytes half.image.rest file (sym a.images.given ∙ told) in
        fits_file kind.size bits a.images.images a.images.bytes file (p.2 ∙ ap (λ z. a.images.bytes ++ z) (at_end half.image.rest p.0 a.end p.1) ∙ append-nil a.images.bytes) a.images.are a.images.fit
        (subst (λ z. 0 < z) (sym a.images.count_is) a.some) (subst (λ z. z ≤ MAX_FILE_IMAGES) (sym a.images.count_is) a.few);
    shows = shows_of kind m from line created begun fresh some header (drive (samples_of a.images.images ++ replicate latency 0)) to new now
        (more_driven (samples_of a.images.images) (replicate latency 0) mid to between new half now (driven (samples_of a.images.images) mid between half a.images.goes) (subst (λ z. Goes kind m z mid to between new half now) (zeros latency 0) g));
  }

  pub fails_behind : (mid : Contents) (between : Line) (half now : Outside) → StreamsAll kind m bits all first mid next between start half → Fails kind m (pixel_clocks (λ k. 0) latency) mid between half now → now.image ≡ half.image → Leaves kind m bits latency Write name from old now
  fails_behind mid between half now a g idle = write_behind created made (record {
    images = a.images.images;
    bytes = a.images.bytes;
    are = a.images.are;
    fit = a.images.fit;
    some = subst (λ z. 0 < z) (sym a.images.count_is) a.some;
    few = subst (λ z. z ≤ MAX_FILE_IMAGES) (sym a.images.count_is) a.few;
    given = subst (λ (i : Input). all ≡ prepend_known a.images.bytes i.rest) (sym idle) a.images.given;
    end = subst (λ (i : Input). IsAtEnd i.rest) (sym idle) a.end;
    fails = fails_of kind m from line created begun fresh some header (drive (samples_of a.images.images)) (map (λ s. pixel_clock s) (replicate latency 0)) mid between half now
        (driven (samples_of a.images.images) mid between half a.images.goes) (subst (λ z. Fails kind m z mid between half now) (zeros latency 0) g);
  })

-- ---- the first header

pub leaves_first : (kind : Kind) (m : Netlist) (bits latency : ℕ) (name : List ℕ) (from : Contents) (old now : Outside) (f : StreamFault) → EndsHeading kind.size bits 0 false f old.image now.image → ReadsOnly ImageSlot old now
    → old.input_failures ≤ now.input_failures → (old.input_failures < now.input_failures → f ≡ Read) → Leaves kind m bits latency f name from old now
leaves_first kind m bits latency name from old now (Image f) h only later always = record {
  leaves = at_start h only;
  no_failure = unless_read (Image f) old.input_failures now.input_failures later always (apart f);
  first = λ file told.
      let p = told_parts h.read now.image.rest file (sym h.given ∙ told) in
      first_refused kind.size bits 0 [] [] (h.read ++ p.0) file f p.2 refl tt refl (omega arith) (λ l. absurd (omega (arith, l))) (h.refused 0 p.0 p.1);
}
leaves_first kind m bits latency name from old now Read h only later always = at_start h only
leaves_first kind m bits latency name from old now Write h only later always = absurd h

pub taken_out : {T : Type 0} (f : StreamFault) → ◌≡◌ {A = Result T StreamFault} (Err f) (Err Read) → f ≡ Read
taken_out f e = cc
