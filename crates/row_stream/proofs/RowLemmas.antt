-- A line that is read, and then clocked.
use Rattle.std.proofs.Common.{◌≡◌, ℕ, ◌+◌, ◌*◌, ◌<◌, ◌≤◌, List, Bool, ap, sym, subst, ◌∙◌, ◌++◌, arith, Result, Ok, Err}
use Rattle.std.specs.Result.{OnOk}
use Rattle.std.specs.Io.KnownBytes.{prepend_known}
use Rattle.dk_desk.specs.declared.InSlot.TheVariants.{Image}
use Rattle.dk_desk.specs.Outside.{Outside, Input}
use Rattle.dk_desk.specs.Calls.{ReadsOnly, IsIfTold, grown, grow_created}
use Rattle.std.specs.Option.{option_map}
use Rattle.std.specs.Prelude.{slice_index}
use Rattle.wiring.specs.Netlist.{Netlist}
use Rattle.wiring.specs.Snapshot.{Contents}
use Rattle.wiring.specs.Clock.{Clock}
use Rattle.pgm_codec.specs.declared.header.Header.{Header}
use Rattle.pgm_codec.specs.Rasters.{JudgesRow, row_length}
use Rattle.row_stream.specs.declared.line.Line.{Line}
use Rattle.row_stream.specs.Lines.{Kind}
use Rattle.row_stream.specs.Moving.{Gains}
use Rattle.row_stream.specs.Progress.{Goes, Fails, pixel_clocks}
use Rattle.row_stream.specs.declared.rows.RowsFault.{RowsFault}
use Rattle.row_stream.specs.declared.rows.RowsFault.TheVariants.{Raster, Read, Write}
use Rattle.pgm_codec.specs.Images.{sample_size}
use Rattle.row_stream.specs.Rows.{IsRowFault}
use Rattle.row_stream.specs.RowReading.{AreRows, TakesRow, Streams, FailsRow, EndsRow, EndsRows, samples_in}

-- a read that did not fail
pub read_only : (before mid : Outside) → ReadsOnly Image before mid → mid.input_failures ≡ before.input_failures → mid ≡ record before { image = record before.image { rest = mid.image.rest } }
read_only before mid e same = e ∙ ap (λ n. record before { image = record before.image { rest = mid.image.rest }; input_failures = n }) same

pub gains_read : (start before mid : Outside) (w : List ℕ) (notes : List (Bool × ℕ)) → mid ≡ record before { image = record before.image { rest = mid.image.rest } } → Gains start w notes before → Gains start w notes mid
gains_read start before mid w notes e h = record {
  only = e ∙ ap (λ (o : Outside). record o { image = record o.image { rest = mid.image.rest } }) h.only
      ∙ ap (λ (o : Outside). record start { image = record start.image { rest = mid.image.rest }; file = record start.file { bytes = o.file.bytes }; files = o.files; notes = o.notes }) (sym e);
  grows = subst (λ z. IsIfTold z (grown start.file.bytes w)) (sym (ap (λ (o : Outside). o.file.bytes) e)) h.grows;
  files = subst (λ z. IsIfTold z (grow_created start.files start.file.name w)) (sym (ap (λ (o : Outside). o.files) e)) h.files;
  told = subst (λ z. IsIfTold z (option_map (λ l. l ++ notes) start.notes)) (sym (ap (λ (o : Outside). o.notes) e)) h.told;
}

pub goes_read : (kind : Kind) (m : Netlist) (cs : List Clock) (from to : Contents) (old new : Line) (before mid now : Outside) → mid ≡ record before { image = record before.image { rest = mid.image.rest } } → Goes kind m cs from to old new mid now → Goes kind m cs from to old new before now
goes_read kind m cs from to old new before mid now e h = record {
  shots = h.shots;
  runs = h.runs;
  writes = λ start samples notes w. h.writes start samples notes (record { pending = w.pending; gained = gains_read start before mid (Rattle.row_stream.specs.Lines.lines kind samples old.rows) notes e w.gained });
}

pub one_row : (header : Header) (row : ℕ) (read : List ℕ) → JudgesRow read header row (Ok tt) → ((k : ℕ) → slice_index read k < 256) → AreRows header 1 read
one_row header row read h small = record { length_is = h.0 ∙ one (row_length header); fit = h.1; bytes = small }
  where
    one : (n : ℕ) → n ≡ 1 * n
    one n = omega arith

module _ (kind : Kind) (m : Netlist) (header : Header) (row width : ℕ) (raster : List ℕ) (from : Contents) (old : Line) (before mid now : Outside) (wide : header.width ≡ width) (judged : JudgesRow raster header row (Ok tt)) (small : (k : ℕ) → slice_index raster k < 256)
    (given : before.image.rest ≡ prepend_known raster mid.image.rest) (only : ReadsOnly Image before mid) (same : mid.input_failures ≡ before.input_failures) (idle : now.image ≡ mid.image) where
  left : before.image.rest ≡ prepend_known raster now.image.rest
  left = given ∙ ap (λ (i : Rattle.dk_desk.specs.Outside.Input). prepend_known raster i.rest) (sym idle)

  pub streams_one : (to : Contents) (new : Line) → Goes kind m (pixel_clocks (samples_in header.maxval raster) width) from to old new mid now → Streams kind m header 1 from to old new before now
  streams_one to new h = record {
    raster = raster;
    are = one_row header row raster judged small;
    given = left;
    goes = goes_read kind m (pixel_clocks (samples_in header.maxval raster) (1 * header.width)) from to old new before mid now (read_only before mid only same)
        (subst (λ n. Goes kind m (pixel_clocks (samples_in header.maxval raster) n) from to old new mid now) (sym wide ∙ (let e : header.width ≡ 1 * header.width = omega arith in e)) h);
  }

  pub fails_row : Fails kind m (pixel_clocks (samples_in header.maxval raster) width) from old mid now → FailsRow kind m header from old before now
  fails_row h = record {
    read = mid;
    row = raster;
    are = one_row header row raster judged small;
    given = left;
    only = read_only before mid only same;
    fails = subst (λ n. Fails kind m (pixel_clocks (samples_in header.maxval raster) n) from old mid now) (sym wide) h;
  }

-- a line that was not read
pub misses_row : (kind : Kind) (m : Netlist) (header : Header) (row : ℕ) (f : RowsFault) (from : Contents) (old : Line) (before now : Outside) → IsRowFault header row f before.image now.image → ReadsOnly Image before now → EndsRow kind m header row f from old before now
misses_row kind m header row (Raster f) from old before now fault only = record { fault = fault; only = only }
misses_row kind m header row Read from old before now fault only = record { fault = fault; only = only }
misses_row kind m header row Write from old before now fault only = absurd fault

-- a line that was read whole
pub takes_row : {E : Type 0} (header : Header) (row : ℕ) (read : List ℕ) (old new : Input) (r : Result Unit E) → OnOk r (old.rest ≡ prepend_known read new.rest) → OnOk r (JudgesRow read header row (Ok tt)) → ((k : ℕ) → slice_index read k < 256) → OnOk r (TakesRow header row read old new)
takes_row header row read old new (Ok u) given judged bytes = record { given = given; judged = judged; bytes = bytes }
takes_row header row read old new (Err e) given judged bytes = tt

-- how the lines of an image end
pub ends_rows : (kind : Kind) (m : Netlist) (header : Header) (rows : ℕ) (f : RowsFault) (from mid : Contents) (old between : Line) (before half now : Outside) → rows < header.height → Streams kind m header rows from mid old between before half →
    EndsRow kind m header rows f mid between half now → EndsRows kind m header f from old before now
ends_rows kind m header rows (Raster f) from mid old between before half now l h g = record { rows = rows; inside = l; to = mid; new = between; half = half; streams = h; fault = g.fault; only = g.only }
ends_rows kind m header rows Read from mid old between before half now l h g = record { rows = rows; inside = l; to = mid; new = between; half = half; streams = h; fault = g.fault; only = g.only }
ends_rows kind m header rows Write from mid old between before half now l h g = record { rows = rows; inside = l; mid = mid; between = between; half = half; read = g.read; streams = h; row = g.row; are = g.are; given = g.given; only = g.only; fails = g.fails }

-- each number of a line is a sample
pub row_fits : (P : ℕ → Type 0) (header : Header) (raster : List ℕ) (width : ℕ) → AreRows header 1 raster → header.width ≡ width → ((s : ℕ) → s ≤ header.maxval → P s) → (k : ℕ) → k < width → P (samples_in header.maxval raster k)
row_fits P header raster width are wide h k l =
    h (samples_in header.maxval raster k) (are.fit k (subst (λ z. (k + 1) * sample_size header.maxval ≤ z) (sym are.length_is) (inside (sample_size header.maxval))))
  where
    inside : (s : ℕ) → (k + 1) * s ≤ 1 * (header.width * s)
    inside s = let e : (k + 1) * s ≤ header.width * s = Rattle.row_stream.proofs.Rasters.times k header.width s (subst (λ z. k < z) (sym wide) l) in omega (arith, e)
