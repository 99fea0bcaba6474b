-- What a stream has read of the file of images.
use Rattle.std.proofs.Common.{◌≡◌, ℕ, zero, suc, ◌+◌, ◌*◌, ◌<◌, ◌≤◌, List, [], ◌∷◌, ◌++◌, length, take, Option, Some, refl, sym, ap, ◌∙◌, subst, arith, append-nil, append_assoc}
use Rattle.std.proofs.lemmas.List.{append_cancel_right}
use Rattle.std.specs.Io.KnownBytes.{prepend_known}
use Rattle.dk_base.specs.declared.TheConstants.{MAX_FILE_IMAGES}
use Rattle.dk_base.specs.Frames.{Size}
use Rattle.dk_desk.specs.declared.Stage.{Stage}
use Rattle.dk_desk.specs.declared.Stage.TheVariants.{Unasked, Refused, Open}
use Rattle.dk_desk.specs.Outside.{Outside, Input}
use Rattle.dk_types.specs.Typed.{Typing}
use Rattle.wiring.specs.Netlist.{Netlist}
use Rattle.wiring.specs.Snapshot.{Contents}
use Rattle.pgm_codec.specs.declared.header.Header.{Header}
use Rattle.pgm_codec.specs.Answers.{Undecided}
use Rattle.pgm_codec.specs.Rasters.{row_length}
use Rattle.pgm_codec.proofs.Unique.{reads_whole}
use Rattle.pgm_codec.proofs.Stays.{undecided_front}
use Rattle.pgm_rounds.specs.declared.fault.FileFault.{FileFault}
use Rattle.pgm_rounds.specs.Files.{IsHeaded}
use Rattle.row_stream.specs.declared.faults.StreamFault.TheVariants.{Image as ImageFails, Read}
use Rattle.row_stream.specs.Lines.{Kind}
use Rattle.row_stream.specs.Heads.{FitsHeader, TakesHead}
use Rattle.row_stream.specs.Images.{samples_of}
use Rattle.row_stream.specs.Ends.{EndsNext, in_header, at_byte}
use Rattle.row_stream.specs.Moving.{Gains, GainsBut}
use Rattle.row_stream.specs.Whole.{Creates, LeavesAll, LeavesBehind, LeavesInside, LeavesEarly, at_start, behind, inside, LeavesAtWrite as StreamsToWrite, write_first, write_inside, write_behind}
use Rattle.row_stream.specs.Most.{EndsLines}
use Rattle.row_stream.proofs.FirstFault.{told_parts}
use Rattle.row_stream.proofs.HeadEnds.{at_end}
use Rattle.dk_top.specs.Streaming.{first_bits, output_kind, IsBegun, OpenLines, between, opened, AreMost, to_fault, further_byte, in_header as begins_header, no_byte, ReadsToFault, ReadsToFailure, ReadsFirst, CreatesAtFailure}
use Rattle.dk_top.proofs.StreamTaken.{headed_images, headed_taken, most_of, most_full, takes_images, all_images, takes_lines, all_lines}

-- the laws of row_stream on the lines that were left
pub record MostLaws : Type 0 where
  pub fault_behind : (kind : Kind) (m : Netlist) (bits : ℕ) (from : Contents) (created now : Outside) (fault : FileFault) (file : List ℕ) → (e : LeavesBehind kind m bits (ImageFails fault) (Some file) from created now) → e.count < MAX_FILE_IMAGES → EndsLines kind.size bits file (e.count * kind.size.height)
  pub fault_inside : (kind : Kind) (m : Netlist) (bits : ℕ) (from : Contents) (created now : Outside) (fault : FileFault) (file : List ℕ) → (e : LeavesInside kind m bits (ImageFails fault) (Some file) from created now) → EndsLines kind.size bits file (e.count * kind.size.height + e.rows)
  pub read_behind : (kind : Kind) (m : Netlist) (bits : ℕ) (from : Contents) (created now : Outside) (all : Option (List ℕ)) → (e : LeavesBehind kind m bits Read all from created now) → e.count < MAX_FILE_IMAGES → (read : List ℕ) × (all ≡ prepend_known read now.image.rest) × EndsLines kind.size bits read (e.count * kind.size.height)
  pub read_inside : (kind : Kind) (m : Netlist) (bits : ℕ) (from : Contents) (created now : Outside) (all : Option (List ℕ)) → (e : LeavesInside kind m bits Read all from created now) → (read : List ℕ) × (all ≡ prepend_known read now.image.rest) × EndsLines kind.size bits read (e.count * kind.size.height + e.rows)

-- what was read is one list
same_read : (file : List ℕ) (left : Option (List ℕ)) (a b rest : List ℕ) → Some file ≡ prepend_known a left → left ≡ Some rest → file ≡ b ++ rest → (P : List ℕ → Type 0) → P a → P b
same_read file left a b rest given is parts P h =
    let (other, told, whole) = told_parts a left file (sym given) in
    let same : other ≡ rest = let e : Some other ≡ Some rest = sym told ∙ is in cc in
    subst P (append_cancel_right a b rest (sym (sym parts ∙ (whole ∙ ap (λ z. a ++ z) same)) ∙ refl)) h

-- as much of a row as there is
row_taken : (count : ℕ) (read after : List ℕ) → length read ≤ count → (length read < count → after ≡ []) → read ≡ take count (read ++ after)
row_taken zero [] after within end = refl
row_taken zero (x ∷ read) after within end = absurd (let e : ⊥ = omega (arith, within) in e)
row_taken (suc count) [] after within end = sym (ap (λ z. take (suc count) z) (end (omega arith)))
row_taken (suc count) (x ∷ read) after within end = ap (λ z. x ∷ z) (row_taken count read after (omega (arith, within)) (λ l. end (omega (arith, l))))

-- bytes that do not begin with a header that fits have no line in order
most_none : (size : Size) (bits : ℕ) (bytes : List ℕ) → ((header : Header) → IsHeaded size bits bytes header → ⊥) → AreMost size bits bytes 0
most_none size bits bytes none more samples front rest t = by t.open_lines t.rows_are t.front_is
  where
    headed : {n : ℕ} → n ≡ length t.images → (part : List ℕ) → 0 < n → front ≡ t.before ++ part → ⊥
    headed same part some is =
        let h = headed_images size bits t.images t.before (part ++ rest) t.are t.fit (omega (arith, same, some)) in
        let parts : bytes ≡ t.before ++ (part ++ rest) = t.bytes_are ∙ (ap (λ z. z ++ rest) is ∙ append_assoc t.before part rest) in
        none h.0 (subst (λ z. IsHeaded size bits z h.0) (sym parts) h.1)

    first : (n : ℕ) → n ≡ length t.images → (part : List ℕ) → front ≡ t.before ++ part → more ≡ n * size.height + 0 → more ≤ 0
    first zero same part is rows = omega (arith, rows)
    first (suc n) same part is rows = absurd (headed {n = suc n} same part (omega arith) is)

    by : {open_rows : ℕ} {open_samples part : List ℕ} → OpenLines size bits (length t.images) open_rows open_samples part → more ≡ length t.images * size.height + open_rows → front ≡ t.before ++ part → more ≤ 0
    by {part = part} (between no_rows no_samples no_part) rows is = first (length t.images) refl part is (rows ∙ ap (λ n. length t.images * size.height + n) no_rows)
    by (opened header head raster few fits reads exact within is_raster part_is) rows is =
        let h = headed_taken size bits t.images t.before head raster rest header t.are t.fit reads fits in
        let parts : bytes ≡ (t.before ++ (head ++ raster)) ++ rest = t.bytes_are ∙ ap (λ z. z ++ rest) (is ∙ ap (λ z. t.before ++ z) part_is) in
        absurd (none h.0 (subst (λ z. IsHeaded size bits z h.0) (sym parts) h.1))

-- bytes that begin a header and hold none whole do not begin with a header
undecided_headless : (size : Size) (bits : ℕ) (bytes : List ℕ) → Undecided bytes → (header : Header) → IsHeaded size bits bytes header → ⊥
undecided_headless size bits bytes u header is =
    let r = is.reads in
    (undecided_front r.front r.rest (subst Undecided r.parts u)).inside.open_yet (reads_whole bytes header r)

module _ (p : Typing) (m : Netlist) (from : Contents) where
  abbrev kind : Kind
  kind = output_kind p

  abbrev bits : ℕ
  bits = first_bits p

  module _ (laws : MostLaws) (file : List ℕ) (created now : Outside) where
    -- a fault after whole images
    pub fault_behind_reads : (f : FileFault) → (e : LeavesBehind kind m bits (ImageFails f) (Some file) from created now) → ReadsToFault p file now.image.rest (samples_of e.taken.images)
    fault_behind_reads f e = by e.why
      where
        by : EndsNext p.size bits e.count (length e.taken.bytes) (ImageFails f) e.half.image now.image → ReadsToFault p file now.image.rest (samples_of e.taken.images)
        by (in_header few h) =
            let t = takes_images kind m bits e.count file from created e.half e.taken (omega (arith, few)) in
            let (after, left, inner) = told_parts h.read now.image.rest t.rest (sym h.given ∙ t.left) in
            record {
              rows = e.count * p.size.height;
              front = e.taken.bytes;
              last = h.read;
              after = after;
              taken = all_images p.size bits e.count file e.taken.images e.taken.bytes (h.read ++ after) e.taken.are e.taken.fit e.taken.count_is (omega (arith, few)) (t.parts ∙ ap (λ z. e.taken.bytes ++ z) inner);
              most = most_of p.size bits file (e.count * p.size.height) (laws.fault_behind kind m bits from created now f file e few);
              next = to_fault (let same = e.taken.count_is in omega (arith, same, few)) (record { none = h.none after left; before = h.before; shown = λ u. at_end now.image.rest after (h.shown u) left });
              is_left = left;
            }
        by (at_byte full w) =
            let byte = w.0 in
            let t = takes_images kind m bits e.count file from created e.half e.taken (omega (arith, full)) in
            let (after, left, inner) = told_parts (byte ∷ []) now.image.rest t.rest (sym w.2 ∙ t.left) in
            record {
              rows = e.count * p.size.height;
              front = e.taken.bytes;
              last = byte ∷ [];
              after = after;
              taken = all_images p.size bits e.count file e.taken.images e.taken.bytes ((byte ∷ []) ++ after) e.taken.are e.taken.fit e.taken.count_is (omega (arith, full)) (t.parts ∙ ap (λ z. e.taken.bytes ++ z) inner);
              most = most_full p.size bits file (e.count * p.size.height) (ap (λ n. n * p.size.height) full);
              next = further_byte (e.taken.count_is ∙ full) refl;
              is_left = left;
            }

    -- a fault inside an image
    pub fault_inside_reads : (f : FileFault) → (e : LeavesInside kind m bits (ImageFails f) (Some file) from created now) → ReadsToFault p file now.image.rest (samples_of e.taken.images ++ e.taken.samples)
    fault_inside_reads f e =
        let s = e.taken in
        let w = e.why.1 in
        let within : e.rows ≤ e.header.height = (let i = e.inside in omega (arith, i)) in
        let t = takes_lines kind m bits e.count e.header e.rows file from created e.half s e.few e.fits within in
        let (after, left, inner) = told_parts w.read now.image.rest t.rest (sym w.given ∙ t.left) in
        record {
          rows = e.count * p.size.height + e.rows;
          front = s.bytes ++ (s.head ++ s.raster);
          last = w.read;
          after = after;
          taken = all_lines p.size bits e.count e.rows e.header file s.images s.bytes s.head s.raster s.samples (w.read ++ after) s.are s.fit s.count_is e.few e.fits s.reads s.exact within s.is_raster (t.parts ∙ ap (λ z. (s.bytes ++ (s.head ++ s.raster)) ++ z) inner);
          most = most_of p.size bits file (e.count * p.size.height + e.rows) (laws.fault_inside kind m bits from created now f file e);
          next = record { inside = e.inside; all = row_taken (row_length e.header) w.read after w.within (λ l. at_end now.image.rest after (w.end l) left) };
          is_left = left;
        }

    -- a failed read after whole images
    pub read_behind_reads : (e : LeavesBehind kind m bits Read (Some file) from created now) → (r : ReadsToFailure p file now.image.rest (samples_of e.taken.images)) × IsBegun p r.read
    read_behind_reads e = by e.why
      where
        begun : (more : List ℕ) → IsBegun p (e.taken.bytes ++ more)
        begun more = headed_images p.size bits e.taken.images e.taken.bytes more e.taken.are e.taken.fit (let a = e.some in let b = e.taken.count_is in omega (arith, a, b))

        by : EndsNext p.size bits e.count (length e.taken.bytes) Read e.half.image now.image → (r : ReadsToFailure p file now.image.rest (samples_of e.taken.images)) × IsBegun p r.read
        by (in_header few loses) =
            let t = takes_images kind m bits e.count file from created e.half e.taken (omega (arith, few)) in
            let (rest, left, inner) = told_parts loses.read now.image.rest t.rest (sym loses.given ∙ t.left) in
            let parts : file ≡ (e.taken.bytes ++ loses.read) ++ rest = t.parts ∙ (ap (λ z. e.taken.bytes ++ z) inner ∙ sym (append_assoc e.taken.bytes loses.read rest)) in
            let law_is = laws.read_behind kind m bits from created now (Some file) e few in (
              record {
                read = e.taken.bytes ++ loses.read;
                rest = rest;
                parts = parts;
                is_left = left;
                rows = e.count * p.size.height;
                front = e.taken.bytes;
                last = loses.read;
                taken = all_images p.size bits e.count (e.taken.bytes ++ loses.read) e.taken.images e.taken.bytes loses.read e.taken.are e.taken.fit e.taken.count_is (omega (arith, few)) refl;
                most = most_of p.size bits (e.taken.bytes ++ loses.read) (e.count * p.size.height) (same_read file now.image.rest law_is.0 (e.taken.bytes ++ loses.read) rest law_is.1 left parts (λ z. EndsLines p.size bits z (e.count * p.size.height)) law_is.2);
                next = begins_header (let same = e.taken.count_is in omega (arith, same, few)) loses.inside;
              },
              begun loses.read,
            )
        by (at_byte full untouched) =
            let t = takes_images kind m bits e.count file from created e.half e.taken (omega (arith, full)) in (
              record {
                read = e.taken.bytes ++ [];
                rest = t.rest;
                parts = t.parts ∙ ap (λ z. z ++ t.rest) (sym (append-nil e.taken.bytes));
                is_left = sym untouched ∙ t.left;
                rows = e.count * p.size.height;
                front = e.taken.bytes;
                last = [];
                taken = all_images p.size bits e.count (e.taken.bytes ++ []) e.taken.images e.taken.bytes [] e.taken.are e.taken.fit e.taken.count_is (omega (arith, full)) refl;
                most = most_full p.size bits (e.taken.bytes ++ []) (e.count * p.size.height) (ap (λ n. n * p.size.height) full);
                next = no_byte (e.taken.count_is ∙ full) refl;
              },
              begun [],
            )

    -- a failed read inside an image
    pub read_inside_reads : (e : LeavesInside kind m bits Read (Some file) from created now) → (r : ReadsToFailure p file now.image.rest (samples_of e.taken.images ++ e.taken.samples)) × IsBegun p r.read
    read_inside_reads e =
        let s = e.taken in
        let within : e.rows ≤ e.header.height = (let i = e.inside in omega (arith, i)) in
        let t = takes_lines kind m bits e.count e.header e.rows file from created e.half s e.few e.fits within in
        let front = s.bytes ++ (s.head ++ s.raster) in
        let loses = e.why in
        let (rest, left, inner) = told_parts loses.0 now.image.rest t.rest (sym loses.2 ∙ t.left) in
        let parts : file ≡ (front ++ loses.0) ++ rest = t.parts ∙ (ap (λ z. front ++ z) inner ∙ sym (append_assoc front loses.0 rest)) in
        let law_is = laws.read_inside kind m bits from created now (Some file) e in
        let rows = e.count * p.size.height + e.rows in (
          record {
            read = front ++ loses.0;
            rest = rest;
            parts = parts;
            is_left = left;
            rows = rows;
            front = front;
            last = loses.0;
            taken = all_lines p.size bits e.count e.rows e.header (front ++ loses.0) s.images s.bytes s.head s.raster s.samples loses.0 s.are s.fit s.count_is e.few e.fits s.reads s.exact within s.is_raster refl;
            most = most_of p.size bits (front ++ loses.0) rows (same_read file now.image.rest law_is.0 (front ++ loses.0) rest law_is.1 left parts (λ z. EndsLines p.size bits z rows) law_is.2);
            next = record { inside = e.inside; fewer = loses.1 };
          },
          headed_taken p.size bits s.images s.bytes s.head s.raster loses.0 e.header s.are s.fit s.reads e.fits,
        )

  -- the stage of File where lines were streamed
  created_stage : (name : List ℕ) (old created now : Outside) (w : List ℕ) (notes : List (Rattle.std.specs.Prelude.Bool × ℕ)) → Creates name old created → Gains created w notes now → now.file.stage ≡ Open
  created_stage name old created now w notes creates gains = ap (λ (o : Outside). o.file.stage) gains.only ∙ creates.stage

  failed_stage : (name : List ℕ) (old created now : Outside) (w : List ℕ) (notes : List (Rattle.std.specs.Prelude.Bool × ℕ)) → Creates name old created → GainsBut created w notes now → now.file.stage ≡ Open
  failed_stage name old created now w notes creates gains = ap (λ (o : Outside). o.file.stage) gains.only ∙ creates.stage

  not_both : {stage : Stage} → stage ≡ Open → stage ≡ Refused → ⊥
  not_both opens shut = let e : Open ≡ Refused = sym opens ∙ shut in cc

  module _ (laws : MostLaws) (file name : List ℕ) (old now : Outside) (told : old.image.rest ≡ Some file) where
    pub fault_reads : (f : FileFault) → LeavesEarly kind m bits (ImageFails f) name from old now → (samples : List ℕ) × ReadsToFault p file now.image.rest samples
    fault_reads f (at_start h only) =
        let (after, left, inner) = told_parts h.read now.image.rest file (sym h.given ∙ told) in (
          [],
          record {
            rows = 0 * p.size.height;
            front = [];
            last = h.read;
            after = after;
            taken = all_images p.size bits 0 file [] [] (h.read ++ after) refl tt refl (omega arith) inner;
            most = subst (λ n. AreMost p.size bits file n) (let e : 0 ≡ 0 * p.size.height = omega arith in e) (most_none p.size bits file (λ header is. h.none after left header (subst (λ z. IsHeaded p.size bits z header) inner is)));
            next = to_fault (omega arith) (record { none = h.none after left; before = h.before; shown = λ u. at_end now.image.rest after (h.shown u) left });
            is_left = left;
          },
        )
    fault_reads f (behind created creates e) = let e' = subst (λ all. LeavesBehind kind m bits (ImageFails f) all from created now) told e in (samples_of e'.taken.images, fault_behind_reads laws file created now f e')
    fault_reads f (inside created creates e) = let e' = subst (λ all. LeavesInside kind m bits (ImageFails f) all from created now) told e in (samples_of e'.taken.images ++ e'.taken.samples, fault_inside_reads laws file created now f e')

    pub failure_reads : old.file.stage ≡ Unasked → LeavesEarly kind m bits Read name from old now → CreatesAtFailure p file now.image.rest now.file.stage
    failure_reads closed (at_start h only) =
        let (rest, left, inner) = told_parts h.read now.image.rest file (sym h.given ∙ told) in
        record {
          samples = [];
          reads = record {
            read = h.read;
            rest = rest;
            parts = inner;
            is_left = left;
            rows = 0 * p.size.height;
            front = [];
            last = h.read;
            taken = all_images p.size bits 0 h.read [] [] h.read refl tt refl (omega arith) refl;
            most = subst (λ n. AreMost p.size bits h.read n) (let e : 0 ≡ 0 * p.size.height = omega arith in e) (most_none p.size bits h.read (undecided_headless p.size bits h.read h.inside));
            next = begins_header (omega arith) h.inside;
          };
          begun = λ is. absurd (undecided_headless p.size bits h.read h.inside is.0 is.1);
          before = λ none. ap (λ (o : Outside). o.file.stage) only ∙ closed;
        }
    failure_reads closed (behind created creates e) =
        let r = read_behind_reads laws file created now (subst (λ all. LeavesBehind kind m bits Read all from created now) told e) in
        record {
          samples = _;
          reads = r.0;
          begun = λ is. ap (λ (o : Outside). o.file.stage) e.only ∙ created_stage name old created e.half _ _ creates e.taken.shows.gained;
          before = λ none. absurd (none r.1);
        }
    failure_reads closed (inside created creates e) =
        let r = read_inside_reads laws file created now (subst (λ all. LeavesInside kind m bits Read all from created now) told e) in
        record {
          samples = _;
          reads = r.0;
          begun = λ is. ap (λ (o : Outside). o.file.stage) e.only ∙ created_stage name old created e.half _ _ creates e.taken.shows.gained;
          before = λ none. absurd (none r.1);
        }

    -- only the first header
    pub first_reads : (header : Header) (before : Outside) → TakesHead header old.image before.image → FitsHeader p.size bits header → now.image ≡ before.image → ReadsFirst p file now.image.rest
    first_reads header before takes fits same =
        let (rest, left, parts) = told_parts takes.read before.image.rest file (sym takes.given ∙ told) in
        record { header = header; front = takes.read; rest = rest; fits = fits; reads = takes.reads; exact = takes.exact; parts = parts; is_left = ap (λ (i : Input). i.rest) same ∙ left }

    pub write_reads : (late : ℕ) → StreamsToWrite kind m bits late name from old now → now.file.stage ≡ Refused → ReadsFirst p file now.image.rest
    write_reads late (write_first header before takes fits only same f) stage = first_reads header before takes fits same
    write_reads late (write_inside created creates e) stage = absurd (not_both (failed_stage name old created now _ _ creates e.fails.gained) stage)
    write_reads late (write_behind created creates e) stage = absurd (not_both (failed_stage name old created now _ _ creates e.fails.gained) stage)

    pub done_reads : (late : ℕ) → LeavesAll kind m bits late name from old now → now.image.rest ≡ Some []
    done_reads late e =
        let (rest, left, parts) = told_parts e.bytes now.image.rest file (sym e.given ∙ told) in
        left ∙ ap Some (at_end now.image.rest rest e.end left)
