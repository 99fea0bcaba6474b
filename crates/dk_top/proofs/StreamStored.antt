-- What a stream leaves, in words of the program.
use Rattle.std.proofs.Common.{◌≡◌, ℕ, zero, suc, ◌+◌, ◌-◌, ◌*◌, ◌^◌, ◌<◌, ◌≤◌, List, [], ◌∷◌, ◌++◌, length, take, drop, replicate, slice_index, Option, None, Some, IfSome, refl, sym, ap, ◌∙◌, subst, arith, suc-mul, append-nil, append_assoc, length-append}
use Rattle.std.specs.List.{flat_map, AllByRecursion}
use Rattle.std.proofs.lemmas.List.{length-replicate, take-append-drop}
use Rattle.std.proofs.lemmas.List.Concat.{flat_map-append}
use Rattle.std.proofs.lemmas.Nat.{pow_pos}
use Rattle.std.proofs.Math.Nat.{mul-pos, mul_comm, add-mul}
use Rattle.dk_base.specs.Frames.{Size}
use Rattle.dk_desk.specs.declared.Stage.TheVariants.{Unasked, Refused, Open}
use Rattle.dk_desk.specs.Outside.{Outside, Created}
use Rattle.dk_types.specs.Typed.{Typing}
use Rattle.wiring.specs.Netlist.{Netlist}
use Rattle.wiring.specs.Snapshot.{Contents}
use Rattle.pgm_codec.specs.declared.header.Header.{Header}
use Rattle.pgm_codec.specs.Images.{Image, AreImages, IsRaster, sample_bytes}
use Rattle.pgm_rounds.specs.declared.fault.FileFault.{FileFault}
use Rattle.row_stream.specs.declared.faults.StreamFault.TheVariants.{Image as ImageFails, Read}
use Rattle.row_stream.specs.Lines.{Kind, head}
use Rattle.row_stream.specs.Heads.{FitsHeader, TakesHead}
use Rattle.row_stream.specs.Images.{FitsImage, samples_of}
use Rattle.row_stream.specs.Ends.{greatest}
use Rattle.row_stream.specs.Whole.{Creates, LeavesBehind, LeavesInside, FailsInside, FailsBehind, FailsFirst, at_create, at_head, at_reset, LeavesEarly, at_start, behind, inside, LeavesAtWrite as StreamsToWrite, write_first, write_inside, write_behind}
use Rattle.row_stream.proofs.FirstFault.{told_parts}
use Rattle.row_stream.proofs.HeadEnds.{at_end}
use Rattle.dk_top.specs.Streaming.{first_bits, output_kind, shown_by, LinesTaken, HoldsLines, LeavesAtFault, LeavesAtRead, LeavesAtWrite, of_header, of_line, of_rest}
use Rattle.dk_top.proofs.DriveRounds.{all_append, AreZeros, zeros_behind}
use Rattle.dk_top.proofs.StreamFile.{ShowsLaw, Small, AreSame, IsFront, shows_lines, fails_line, not_at_reset, fails_head}
use Rattle.dk_top.proofs.StreamTaken.{all_images, takes_lines, all_lines}
use Rattle.dk_top.proofs.StreamReads.{MostLaws, fault_behind_reads, fault_inside_reads, read_behind_reads, read_inside_reads, first_reads}

-- what follows from what is specified
pub some_then : (P Q : List ℕ → Type 0) (b : Option (List ℕ)) → ((x : List ℕ) → P x → Q x) → IfSome b P → IfSome b Q
some_then P Q None f h = tt
some_then P Q (Some x) f h = f x h

-- samples of this many bits
pub small_of : (bits maxval : ℕ) (xs : List ℕ) → maxval ≤ 2 ^ bits - 1 → AllByRecursion (λ s. s ≤ maxval) xs → Small bits xs
small_of bits maxval [] most all = tt
small_of bits maxval (x ∷ xs) most all = (let some = pow_pos bits in let low = all.0 in omega (arith, some, low, most), small_of bits maxval xs most all.1)

pub images_small : (size : Size) (bits : ℕ) (images : List Image) (bytes : List ℕ) → AreImages bytes images → AllByRecursion (FitsImage size (greatest bits)) images → Small bits (samples_of images)
images_small size bits [] bytes are fit = tt
images_small size bits (p ∷ images) bytes are fit =
    all_append (λ s. s < 2 ^ bits) p.samples (samples_of images) (small_of bits p.maxval p.samples fit.0.maxval (are.3).holds.bounded) (images_small size bits images are.1 are.4 fit.1)

pub images_long : (size : Size) (bits : ℕ) (images : List Image) (bytes : List ℕ) → AreImages bytes images → AllByRecursion (FitsImage size (greatest bits)) images → length (samples_of images) ≡ length images * size.height * size.width
images_long size bits [] bytes are fit = let e : 0 ≡ 0 * size.height * size.width = omega arith in e
images_long size bits (p ∷ images) bytes are fit =
    length-append p.samples (samples_of images)
    ∙ ap (λ n. n + length (samples_of images)) ((are.3).holds.count ∙ (ap (λ w. w * p.height) fit.0.width ∙ ap (λ h. size.width * h) fit.0.height))
    ∙ ap (λ n. size.width * size.height + n) (images_long size bits images are.1 are.4 fit.1)
    ∙ turned size.width size.height (length images)
  where
    turned : (w h n : ℕ) → w * h + n * h * w ≡ suc n * h * w
    turned w h n = ap (λ k. k + n * h * w) (mul_comm w h) ∙ (sym (add-mul h (n * h) w) ∙ ap (λ k. k * w) ((let e : h + n * h ≡ n * h + h = omega arith in e) ∙ sym (suc-mul n h)))

take_small : (bits : ℕ) (n : ℕ) (xs : List ℕ) → Small bits xs → Small bits (take n xs)
take_small bits zero xs h = tt
take_small bits (suc n) [] h = tt
take_small bits (suc n) (x ∷ xs) h = (h.0, take_small bits n xs h.1)

zeros_small : (bits n : ℕ) → Small bits (replicate n 0)
zeros_small bits zero = tt
zeros_small bits (suc n) = (pow_pos bits, zeros_small bits n)

pub zeros_are : (n : ℕ) → AreZeros (replicate n 0)
zeros_are zero = tt
zeros_are (suc n) = (refl, zeros_are n)

zeros_taken : (n : ℕ) (zs : List ℕ) → AreZeros zs → AreZeros (take n zs)
zeros_taken zero zs h = tt
zeros_taken (suc n) [] h = tt
zeros_taken (suc n) (z ∷ zs) h = (h.0, zeros_taken n zs h.1)

-- a front of numbers is the same
front_same : (xs ys : List ℕ) (q : ℕ) → q < length xs → slice_index xs q ≡ slice_index (xs ++ ys) q
front_same [] ys q lt = absurd (let e : ⊥ = omega (arith, lt) in e)
front_same (x ∷ xs) ys zero lt = refl
front_same (x ∷ xs) ys (suc q) lt = front_same xs ys q (omega (arith, lt))

pub taken_same : (xs more : List ℕ) (n : ℕ) → AreSame (xs ++ take n more) (xs ++ more)
taken_same xs more n q lt =
    front_same (xs ++ take n more) (drop n more) q lt ∙ ap (λ zs. slice_index zs q) (append_assoc xs (take n more) (drop n more) ∙ ap (λ z. xs ++ z) (take-append-drop n more))

-- a line more
row_more : (header : Header) (rows : ℕ) (raster row samples more : List ℕ) → IsRaster raster header.width rows header.maxval samples → IsRaster row header.width 1 header.maxval more → IsRaster (raster ++ row) header.width (rows + 1) header.maxval (samples ++ more)
row_more header rows raster row samples more is one = record {
  count = length-append samples more ∙ (ap (λ n. n + length more) is.count ∙ (ap (λ n. header.width * rows + n) one.count ∙ together header.width rows));
  bounded = all_append (λ s. s ≤ header.maxval) samples more is.bounded one.bounded;
  bytes_are = ap (λ z. z ++ row) is.bytes_are ∙ (ap (λ z. flat_map (sample_bytes header.maxval) samples ++ z) one.bytes_are ∙ sym (flat_map-append (sample_bytes header.maxval) samples more));
}
  where
    together : (w n : ℕ) → w * n + w * 1 ≡ w * (n + 1)
    together w n = ap (λ k. w * n + k) (let e : w * 1 ≡ w = omega arith in e) ∙ (ap (λ k. k + w) (mul_comm w n) ∙ (sym (suc-mul n w) ∙ (ap (λ k. k * w) (let e : suc n ≡ n + 1 = omega arith in e) ∙ mul_comm (n + 1) w)))

regrouped : (a b c d e : List ℕ) → (a ++ (b ++ c)) ++ (d ++ e) ≡ (a ++ (b ++ (c ++ d))) ++ e
regrouped a b c d e =
    append_assoc a (b ++ c) (d ++ e)
    ∙ (ap (λ z. a ++ z) (append_assoc b c (d ++ e) ∙ ap (λ z. b ++ z) (sym (append_assoc c d e)))
    ∙ (ap (λ z. a ++ z) (sym (append_assoc b (c ++ d) e)) ∙ sym (append_assoc a (b ++ (c ++ d)) e)))

-- how many samples come before a line
rows_before : (lines W rows : ℕ) → lines * W + W * rows ≡ (lines + rows) * W
rows_before lines W rows = ap (λ k. lines * W + k) (mul_comm W rows) ∙ sym (add-mul lines rows W)

-- where line y is whole with some samples of a line
line_numbers : (W R y before more made late : ℕ) → 0 < W → before ≡ R * W → more ≡ W → 0 < made → made ≤ more → (y + 1) * W ≡ before + made - late → ((y + 1) * W + late ≤ (R + 1) * W) × ((R + 1) * W < (y + 1) * W + late + W)
line_numbers W R y before more made late wide is many some within whole =
    let some_line : 0 < (y + 1) * W = mul-pos (let e : 0 < y + 1 = omega arith in e) wide in
    let next : (R + 1) * W ≡ R * W + W = ap (λ k. k * W) (let e : R + 1 ≡ suc R = omega arith in e) ∙ suc-mul R W in
    (omega (arith, is, many, some, within, whole, some_line, next), omega (arith, is, many, some, within, whole, some_line, next))

-- where it is whole with some clocks after all lines
rest_numbers : (W R y before more made late : ℕ) → 0 < W → before ≡ R * W → more ≡ late → 0 < made → made ≤ more → (y + 1) * W ≡ before + made - late → (R * W < (y + 1) * W + late) × ((y + 1) * W ≤ R * W)
rest_numbers W R y before more made late wide is many some within whole =
    let some_line : 0 < (y + 1) * W = mul-pos (let e : 0 < y + 1 = omega arith in e) wide in
    (omega (arith, is, many, some, within, whole, some_line), omega (arith, is, many, some, within, whole, some_line))

closed : Unasked ≡ Open → ⊥
closed e = cc

not_refused : Refused ≡ Open → ⊥
not_refused e = cc

module _ (p : Typing) (m : Netlist) (from : Contents) (late : ℕ) (law : ShowsLaw m from (first_bits p) late (shown_by p)) (long : (whole : List ℕ) → length whole ≤ length (shown_by p whole)) (wide : 0 < p.size.width) (laws : MostLaws) where
  abbrev kind : Kind
  kind = output_kind p

  abbrev bits : ℕ
  bits = first_bits p

  module _ (file name : List ℕ) (old now : Outside) (told : old.image.rest ≡ Some file) (unasked : old.file.stage ≡ Unasked) (there : now.file.stage ≡ Open) where
    -- a fault after whole images
    fault_behind_stored : (f : FileFault) (created : Outside) → Creates name old created → (e : LeavesBehind kind m bits (ImageFails f) (Some file) from created now) → IfSome now.file.bytes (LeavesAtFault p late file now.image.rest)
    fault_behind_stored f created creates e =
        let same : now.file ≡ e.half.file = ap (λ (o : Outside). o.file) e.only in
        let samples = samples_of e.taken.images in
        subst (λ (c : Created). IfSome c.bytes (LeavesAtFault p late file now.image.rest)) (sym same)
        (some_then (HoldsLines p late samples) (LeavesAtFault p late file now.image.rest) e.half.file.bytes (λ bytes holds. record { samples = samples; reads = fault_behind_reads p m from laws file created now f e; holds = holds })
        (shows_lines kind m from bits late (shown_by p) law long samples name old created e.half (images_small p.size bits e.taken.images e.taken.bytes e.taken.are e.taken.fit) creates e.taken.shows))

    -- a fault inside an image
    fault_inside_stored : (f : FileFault) (created : Outside) → Creates name old created → (e : LeavesInside kind m bits (ImageFails f) (Some file) from created now) → IfSome now.file.bytes (LeavesAtFault p late file now.image.rest)
    fault_inside_stored f created creates e =
        let same : now.file ≡ e.half.file = ap (λ (o : Outside). o.file) e.only in
        let s = e.taken in
        let samples = samples_of s.images ++ s.samples in
        let small = all_append (λ n. n < 2 ^ bits) (samples_of s.images) s.samples (images_small p.size bits s.images s.bytes s.are s.fit) (small_of bits e.header.maxval s.samples e.fits.maxval s.is_raster.bounded) in
        subst (λ (c : Created). IfSome c.bytes (LeavesAtFault p late file now.image.rest)) (sym same)
        (some_then (HoldsLines p late samples) (LeavesAtFault p late file now.image.rest) e.half.file.bytes (λ bytes holds. record { samples = samples; reads = fault_inside_reads p m from laws file created now f e; holds = holds })
        (shows_lines kind m from bits late (shown_by p) law long samples name old created e.half small creates s.shows))

    pub stored_fault : (f : FileFault) → LeavesEarly kind m bits (ImageFails f) name from old now → IfSome now.file.bytes (LeavesAtFault p late file now.image.rest)
    stored_fault f (at_start h only) = absurd (closed (sym unasked ∙ (sym (ap (λ (o : Outside). o.file.stage) only) ∙ there)))
    stored_fault f (behind created creates e) = fault_behind_stored f created creates (subst (λ all. LeavesBehind kind m bits (ImageFails f) all from created now) told e)
    stored_fault f (inside created creates e) = fault_inside_stored f created creates (subst (λ all. LeavesInside kind m bits (ImageFails f) all from created now) told e)

    -- a failed read after whole images
    read_behind_stored : (created : Outside) → Creates name old created → (e : LeavesBehind kind m bits Read (Some file) from created now) → IfSome now.file.bytes (LeavesAtRead p late file now.image.rest)
    read_behind_stored created creates e =
        let same : now.file ≡ e.half.file = ap (λ (o : Outside). o.file) e.only in
        let samples = samples_of e.taken.images in
        let r = read_behind_reads p m from laws file created now e in
        subst (λ (c : Created). IfSome c.bytes (LeavesAtRead p late file now.image.rest)) (sym same)
        (some_then (HoldsLines p late samples) (LeavesAtRead p late file now.image.rest) e.half.file.bytes (λ bytes holds. record { samples = samples; reads = r.0; begun = r.1; holds = holds })
        (shows_lines kind m from bits late (shown_by p) law long samples name old created e.half (images_small p.size bits e.taken.images e.taken.bytes e.taken.are e.taken.fit) creates e.taken.shows))

    -- a failed read inside an image
    read_inside_stored : (created : Outside) → Creates name old created → (e : LeavesInside kind m bits Read (Some file) from created now) → IfSome now.file.bytes (LeavesAtRead p late file now.image.rest)
    read_inside_stored created creates e =
        let same : now.file ≡ e.half.file = ap (λ (o : Outside). o.file) e.only in
        let s = e.taken in
        let samples = samples_of s.images ++ s.samples in
        let small = all_append (λ n. n < 2 ^ bits) (samples_of s.images) s.samples (images_small p.size bits s.images s.bytes s.are s.fit) (small_of bits e.header.maxval s.samples e.fits.maxval s.is_raster.bounded) in
        let r = read_inside_reads p m from laws file created now e in
        subst (λ (c : Created). IfSome c.bytes (LeavesAtRead p late file now.image.rest)) (sym same)
        (some_then (HoldsLines p late samples) (LeavesAtRead p late file now.image.rest) e.half.file.bytes (λ bytes holds. record { samples = samples; reads = r.0; begun = r.1; holds = holds })
        (shows_lines kind m from bits late (shown_by p) law long samples name old created e.half small creates s.shows))

    pub stored_read : LeavesEarly kind m bits Read name from old now → IfSome now.file.bytes (LeavesAtRead p late file now.image.rest)
    stored_read (at_start h only) = absurd (closed (sym unasked ∙ (sym (ap (λ (o : Outside). o.file.stage) only) ∙ there)))
    stored_read (behind created creates e) = read_behind_stored created creates (subst (λ all. LeavesBehind kind m bits Read all from created now) told e)
    stored_read (inside created creates e) = read_inside_stored created creates (subst (λ all. LeavesInside kind m bits Read all from created now) told e)

    -- a line that can't be written, with the line of the file that made it whole
    write_inside_stored : (created : Outside) → Creates name old created → (e : FailsInside kind m bits (Some file) from created now) → IfSome now.file.bytes (LeavesAtWrite p late file now.image.rest)
    write_inside_stored created creates e =
        let s = e.taken in
        let xs = samples_of s.images ++ s.samples in
        let ys = s.samples ++ e.samples in
        let whole = samples_of s.images ++ ys in
        let joined : xs ++ e.samples ≡ whole = append_assoc (samples_of s.images) s.samples e.samples in
        let images = images_small p.size bits s.images s.bytes s.are s.fit in
        let small_xs = all_append (λ n. n < 2 ^ bits) (samples_of s.images) s.samples images (small_of bits e.header.maxval s.samples e.fits.maxval s.is_raster.bounded) in
        let small_more = small_of bits e.header.maxval e.samples e.fits.maxval e.is_row.bounded in
        let small = subst (Small bits) joined (all_append (λ n. n < 2 ^ bits) xs e.samples small_xs small_more) in
        let small_all : (n : ℕ) → Small bits (xs ++ take n e.samples) = λ n. all_append (λ k. k < 2 ^ bits) xs (take n e.samples) small_xs (take_small bits n e.samples small_more) in
        let same_all : (n : ℕ) → AreSame (xs ++ take n e.samples) whole = λ n. subst (AreSame (xs ++ take n e.samples)) joined (taken_same xs e.samples n) in
        let long_whole : length whole ≡ length xs + length e.samples = ap length (sym joined) ∙ length-append xs e.samples in
        let f = fails_line kind m from bits late (shown_by p) law long xs e.samples whole name old created now small small_all same_all (omega (arith, long_whole)) creates e.fails in
        let within : e.rows ≤ e.header.height = (let i = e.inside in omega (arith, i)) in
        let next : e.rows + 1 ≤ e.header.height = (let i = e.inside in omega (arith, i)) in
        let t = takes_lines kind m bits e.count e.header e.rows file from created e.half s e.few e.fits within in
        let (rest, left, inner) = told_parts e.row now.image.rest t.rest (sym e.given ∙ t.left) in
        let front = s.bytes ++ (s.head ++ (s.raster ++ e.row)) in
        let parts : file ≡ front ++ rest = t.parts ∙ (ap (λ z. (s.bytes ++ (s.head ++ s.raster)) ++ z) inner ∙ regrouped s.bytes s.head s.raster e.row rest) in
        let taken = all_lines p.size bits e.count (e.rows + 1) e.header file s.images s.bytes s.head (s.raster ++ e.row) ys rest s.are s.fit s.count_is e.few e.fits s.reads s.exact next (row_more e.header e.rows s.raster e.row s.samples e.samples s.is_raster e.is_row) parts in
        let W = p.size.width in
        let R = e.count * p.size.height + e.rows in
        let wide_line : e.header.width ≡ W = e.fits.sized.width in
        let before : length xs ≡ R * W = length-append (samples_of s.images) s.samples ∙ (ap (λ n. n + length s.samples) (images_long p.size bits s.images s.bytes s.are s.fit ∙ ap (λ n. n * p.size.height * W) s.count_is) ∙ (ap (λ n. e.count * p.size.height * W + n) (s.is_raster.count ∙ ap (λ w. w * e.rows) wide_line) ∙ rows_before (e.count * p.size.height) W e.rows)) in
        let more : length e.samples ≡ W = e.is_row.count ∙ (ap (λ w. w * 1) wide_line ∙ (let i : W * 1 ≡ W = omega arith in i)) in
        let nums = line_numbers W R f.y (length xs) (length e.samples) f.made late wide before more f.some f.within f.whole in
        some_then (IsFront kind (shown_by p whole) f.y) (LeavesAtWrite p late file now.image.rest) now.file.bytes (λ bytes h.
        of_line f.y (e.count * p.size.height + (e.rows + 1)) whole front rest taken (let some : 0 < e.rows + 1 = omega arith in some) left
        (subst (λ n. (f.y + 1) * W + late ≤ n * W) (let i : R + 1 ≡ e.count * p.size.height + (e.rows + 1) = omega arith in i) nums.0)
        (subst (λ n. n * W < (f.y + 1) * W + late + W) (let i : R + 1 ≡ e.count * p.size.height + (e.rows + 1) = omega arith in i) nums.1)
        (record { count = h.count; inside = h.inside; holds = h.holds })) f.told

    -- a line that can't be written, after all images
    write_behind_stored : (created : Outside) → Creates name old created → (e : FailsBehind kind m bits late (Some file) from created now) → IfSome now.file.bytes (LeavesAtWrite p late file now.image.rest)
    write_behind_stored created creates e =
        let xs = samples_of e.images in
        let zs = replicate late 0 in
        let small = images_small p.size bits e.images e.bytes e.are e.fit in
        let small_all : (n : ℕ) → Small bits (xs ++ take n zs) = λ n. all_append (λ k. k < 2 ^ bits) xs (take n zs) small (take_small bits n zs (zeros_small bits late)) in
        let same_all : (n : ℕ) → AreSame (xs ++ take n zs) xs = λ n q lt. zeros_behind xs (take n zs) (zeros_taken n zs (zeros_are late)) q in
        let count : length zs ≡ late = length-replicate late 0 in
        let f = fails_line kind m from bits late (shown_by p) law long xs zs xs name old created now small small_all same_all (omega (arith, count)) creates e.fails in
        let (rest, left, parts) = told_parts e.bytes now.image.rest file (sym e.given) in
        let none : rest ≡ [] = at_end now.image.rest rest e.end left in
        let all : file ≡ e.bytes = parts ∙ (ap (λ z. e.bytes ++ z) none ∙ append-nil e.bytes) in
        let n = length e.images in
        let taken : (t : LinesTaken p.size bits file (n * p.size.height) xs file []) × (t.part ≡ []) =
        subst (λ z. (t : LinesTaken p.size bits file (n * p.size.height) xs z []) × (t.part ≡ [])) (sym all) (all_images p.size bits n file e.images e.bytes [] e.are e.fit refl e.few (parts ∙ ap (λ z. e.bytes ++ z) none), refl) in
        let before : length xs ≡ n * p.size.height * p.size.width = images_long p.size bits e.images e.bytes e.are e.fit in
        let nums = rest_numbers p.size.width (n * p.size.height) f.y (length xs) (length zs) f.made late wide before count f.some f.within f.whole in
        some_then (IsFront kind (shown_by p xs) f.y) (LeavesAtWrite p late file now.image.rest) now.file.bytes (λ bytes h.
        of_rest f.y (n * p.size.height) xs taken.0 taken.1 (left ∙ ap Some none) nums.0 nums.1 (record { count = h.count; inside = h.inside; holds = h.holds })) f.told

    -- the first header, or the reset clock
    write_first_stored : (header : Header) (before : Outside) → TakesHead header old.image before.image → FitsHeader p.size bits header → before ≡ record old { image = record old.image { rest = before.image.rest } } → now.image ≡ before.image
        → FailsFirst kind m name from before now → IfSome now.file.bytes (LeavesAtWrite p late file now.image.rest)
    write_first_stored header before takes fits only same (at_create stage named files h) = absurd (not_refused (sym stage ∙ there))
    write_first_stored header before takes fits only same (at_reset created creates h) = absurd (not_at_reset kind m from bits late (shown_by p) law long wide created now h)
    write_first_stored header before takes fits only same (at_head created creates w) =
        some_then (λ bytes. bytes ≡ take w.count (head kind)) (LeavesAtWrite p late file now.image.rest) now.file.bytes (λ bytes h. of_header (first_reads p m from laws file name old now told header before takes fits same) w.count w.within h) (fails_head kind name before created now creates w)

    pub stored_write : StreamsToWrite kind m bits late name from old now → IfSome now.file.bytes (LeavesAtWrite p late file now.image.rest)
    stored_write (write_first header before takes fits only same h) = write_first_stored header before takes fits only same h
    stored_write (write_inside created creates e) = write_inside_stored created creates (subst (λ all. FailsInside kind m bits all from created now) told e)
    stored_write (write_behind created creates e) = write_behind_stored created creates (subst (λ all. FailsBehind kind m bits late all from created now) told e)
