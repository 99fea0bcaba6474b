-- A stream that came to its end has written the program's output file.
use Rattle.std.proofs.Common.{◌≡◌, ℕ, suc, ◌+◌, ◌-◌, ◌*◌, ◌/◌, ◌^◌, ◌<◌, Bool, false, List, [], ◌∷◌, ◌++◌, length, map, take, drop, replicate, slice_index, slice_index_or, slice_get, ◌==◌, Option, None, Some, IfSome, option_map, refl, sym, ap, ◌∙◌, subst, arith, suc-mul, mul_comm}
use Rattle.std.specs.List.{flat_map, range_with_len}
use Rattle.std.proofs.lemmas.List.{length-map, length-append, length-replicate}
use Rattle.dk_base.specs.Frames.{area}
use Rattle.dk_desk.specs.Outside.{Outside}
use Rattle.dk_desk.specs.Calls.{IsIfTold}
use Rattle.wiring.specs.Netlist.{Netlist, net_width, dout_net, valid_net}
use Rattle.wiring.specs.Snapshot.{Snapshot, net_value}
use Rattle.wiring.specs.Runs.{Runs, picture}
use Rattle.buffer_plan.specs.Plans.{latency, latency_of}
use Rattle.circuit.specs.Driven.{driven}
use Rattle.cycle_sim.specs.Ports.{din_widths}
use Rattle.cycle_sim.specs.declared.fill.Fill.TheVariants.{Zeros}
use Rattle.cycle_sim.specs.Filled.{filled_contents}
use Rattle.dk_types.specs.Typed.{Typing, types_of}
use Rattle.pgm_codec.specs.Images.{Image, header_of, raster_of, sample_bytes, file_of}
use Rattle.pgm_rounds.specs.Files.{FitsFile, joined}
use Rattle.program_images.specs.Ports.{bits_of}
use Rattle.stimulus.specs.Stimulus.{stimulus, stream, dins_at}
use Rattle.stimulus.specs.Inputs.{samples_of as bench_samples}
use Rattle.stimulus.specs.Showing.{IsRun, output_count, image_shown, images_shown, notes_of, IsNoted as AreNotes}
use Rattle.stimulus.proofs.Streams.{read_at}
use Rattle.row_stream.specs.Lines.{head, lines}
use Rattle.row_stream.specs.Standing.{note_of}
use Rattle.row_stream.specs.Images.{samples_of}
use Rattle.row_stream.specs.Ends.{one_port}
use Rattle.row_stream.specs.Whole.{LeavesAll, drive}
use Rattle.dk_compile.specs.declared.compiling.Compiled.{Compiled}
use Rattle.dk_top.specs.Program.{ports}
use Rattle.dk_top.specs.Output.{outputs_of, output_file}
use Rattle.dk_top.specs.Compiling.{IsCompiledFrom, NotesRun, frame_drive}
use Rattle.dk_top.specs.Streaming.{IsOnePort, first_bits, output_kind}
use Rattle.dk_top.proofs.DriveShown.{PictureLaw, RasterLaw, places_at}
use Rattle.dk_top.proofs.NoteLaws.{NotesLaw, every_of}
use Rattle.dk_top.proofs.DriveRounds.{zeros_behind}
use Rattle.dk_top.proofs.DriveLemmas as D
use Rattle.dk_top.proofs.StreamLemmas.{singles, only_item, clocks_are}
use Rattle.dk_top.proofs.StreamLines.{lines_are_images}
use Rattle.dk_top.proofs.StreamFile.{told_file, told_as, rows_of}
use Rattle.dk_top.proofs.StreamStored.{zeros_are, images_long}

-- a round for each image
abbrev pub rounds_of_images : List Image → List (List Image)
rounds_of_images images = map (λ image. image ∷ []) images

-- the numbers of the only input
one_stream : (images : List Image) → stream (bench_samples (rounds_of_images images)) 0 ≡ samples_of images
one_stream [] = refl
one_stream (i ∷ images) = ap (λ xs. i.samples ++ xs) (one_stream images)

-- what one image each gives
file_of_each : (F : ℕ → Image) (ks : List ℕ) → file_of (flat_map (λ k. F k ∷ []) ks) ≡ flat_map (λ k. header_of (F k).width (F k).height (F k).maxval ++ raster_of (F k).maxval (F k).samples) ks
file_of_each F [] = refl
file_of_each F (k ∷ ks) = ap (λ xs. (header_of (F k).width (F k).height (F k).maxval ++ raster_of (F k).maxval (F k).samples) ++ xs) (file_of_each F ks)

-- the notes of the only output
notes_one : (m : Netlist) (shots : List Snapshot) → output_count m ≡ 1 → notes_of m shots ≡ map note_of shots
notes_one m [] one = refl
notes_one m (s ∷ shots) one =
    ap (λ n. map (λ output. (net_value s (valid_net output) == 1, net_value s (dout_net output))) (range_with_len 0 n) ++ notes_of m shots) one ∙ ap (λ xs. note_of s ∷ xs) (notes_one m shots one)

module _ (source : List ℕ) (age : ℕ) (c : Compiled) (from : IsCompiledFrom source age false None c) (one : IsOnePort from.program) where
  abbrev q : Typing
  q = from.program

  abbrev m : Netlist
  m = (c.«module»).netlist

  -- the only input's bits
  pub inputs : (ports q).inputs ≡ first_bits q ∷ []
  inputs = by (ports q).inputs (length-map _ _ ∙ (length-map q.inputs _ ∙ one.input))
    where
      by : (ws : List ℕ) → length ws ≡ 1 → ws ≡ slice_index_or ws 0 0 ∷ []
      by [] none = absurd (let e : ⊥ = omega (arith, none) in e)
      by (w ∷ []) is = refl
      by (w ∷ v ∷ ws) more = absurd (let e : ⊥ = omega (arith, more) in e)

  pub ports_one : ports q ≡ one_port q.size (first_bits q)
  ports_one = ap (λ ws. one_port_with ws) inputs
    where
      one_port_with : List ℕ → Rattle.pgm_rounds.specs.Ports.Ports
      one_port_with ws = record { size = q.size; inputs = ws }

  pub one_count : output_count m ≡ 1
  one_count = D.outputs_are source age false None q c.ir c.system c.solution c.plan c.«module» c.nets.items c.reads.items c.text.items from.is ∙ one.output

  -- the output's greatest sample
  pub greatest_is : 2 ^ net_width m (dout_net 0) - 1 ≡ (output_kind q).maxval
  greatest_is =
      let (g, only) = only_item q.outputs one.output in
      let at : slice_get q.outputs 0 ≡ Some g = ap (λ gs. slice_get gs 0) only in
      ap (λ n. 2 ^ n - 1) (D.dout_width_is source age false None q c.ir c.system c.solution c.plan c.«module» c.nets.items c.reads.items c.text.items from.is 0 g at ∙ ap (λ gs. bits_of (types_of q) (slice_index_or gs 0 0)) (sym only))

  module _ (file : List ℕ) (images : List Image) (bytes : List ℕ) (fits : FitsFile (ports q) file (rounds_of_images images)) (long : length (samples_of images) ≡ length images * q.size.height * q.size.width) where
    abbrev late : ℕ
    late = latency c.plan

    abbrev clocks : ℕ
    clocks = length (rounds_of_images images) * area q.size + late

    abbrev numbers : List ℕ
    numbers = samples_of images ++ replicate late 0

    n_is : length (rounds_of_images images) ≡ length images
    n_is = length-map images (λ (i : Image). i ∷ [])

    area_turned : (n : ℕ) → n * q.size.height * q.size.width ≡ n * area q.size
    area_turned n = Rattle.std.proofs.Common.mul_assoc n q.size.height q.size.width ∙ ap (λ k. n * k) (mul_comm q.size.height q.size.width)

    count_is : length numbers ≡ clocks
    count_is =
        let zs : List ℕ = replicate late 0 in
        length-append (samples_of images) zs ∙ (ap (λ k. k + length zs) (long ∙ (area_turned (length images) ∙ ap (λ k. k * area q.size) (sym n_is))) ∙ ap (λ k. length (rounds_of_images images) * area q.size + k) (length-replicate late 0))

    -- the clocks of the stream are those of the drive
    dins_are : D.dins_of 1 (bench_samples (rounds_of_images images)) clocks ≡ singles numbers
    dins_are =
        let xs = bench_samples (rounds_of_images images) in
        ap (λ k. map (dins_at 1 xs) (range_with_len 0 k)) (sym count_is)
        ∙ places_at (dins_at 1 xs) (λ s. s ∷ []) 0 numbers (λ k y at.
        let same : slice_index (stream xs 0) (0 + k) ≡ y =
        ap (slice_index (stream xs 0)) (let e : 0 + k ≡ k = omega arith in e) ∙ (ap (λ ys. slice_index ys k) (one_stream images) ∙ (sym (zeros_behind (samples_of images) (replicate late 0) (zeros_are late) k) ∙ read_at numbers k y 0 at)) in
        ap (λ z. z ∷ []) same)

    clocks_same : stimulus (frame_drive q.size late (length (rounds_of_images images))) (din_widths m) (bench_samples (rounds_of_images images)) ≡ drive numbers
    clocks_same =
        let widths_one : length (din_widths m) ≡ 1 = D.dins_long source age false None q c.ir c.system c.solution c.plan c.«module» c.nets.items c.reads.items c.text.items from.is ∙ inputs_one in
        D.stimulus_is (din_widths m) (bench_samples (rounds_of_images images)) 1 clocks widths_one ∙ (ap (λ ds. driven 1 ds) dins_are ∙ sym (clocks_are numbers))
      where
        inputs_one : length c.ir.inputs ≡ 1
        inputs_one = Rattle.dk_top.proofs.StreamLemmas.one_input source age false None q c.ir c.system c.solution c.plan c.«module» c.nets.items c.reads.items c.text.items from.is (first_bits q) inputs one.output

    module _ (picture_law : PictureLaw) (raster_law : RasterLaw) (shots : List Snapshot) (to : Rattle.wiring.specs.Snapshot.Contents) (runs : Runs m (filled_contents Zeros m) (drive numbers) shots to) where
      abbrev bench : Rattle.stimulus.specs.declared.drive.Drive.Drive
      bench = frame_drive q.size late (length (rounds_of_images images))

      pub run : IsRun m bench (bench_samples (rounds_of_images images)) shots
      run = record { to = to; runs = subst (λ cs. Runs m (filled_contents Zeros m) cs shots to) (sym clocks_same) runs }

      images_are : images_shown m q.size (length (bench_samples (rounds_of_images images))) shots ≡ Rattle.pgm_rounds.specs.Files.joined (map (outputs_of q) (rounds_of_images images))
      images_are = D.images_same source age false None q c.ir c.system c.solution c.plan c.«module» c.nets.items c.reads.items c.text.items from.is file (rounds_of_images images) fits Zeros picture_law raster_law clocks refl shots run

      many : length (picture 0 shots) ≡ length images * q.size.height * q.size.width
      many =
          let o = one.output in
          let first : 0 < length q.outputs = omega (arith, o) in
          let lone : latency_of c.plan 0 ≡ late = Rattle.dk_top.proofs.DrivePorts.latency_of_one c.plan (ap length (D.planned_outputs source age false None q c.ir c.system c.solution c.plan c.«module» c.nets.items c.reads.items c.text.items from.is) ∙ one.output) in
          D.shown_count source age false None q c.ir c.system c.solution c.plan c.«module» c.nets.items c.reads.items c.text.items from.is file (rounds_of_images images) fits Zeros picture_law raster_law clocks refl shots run 0 first
          ∙ (ap (λ k. clocks - k) lone ∙ ((let e : clocks - late ≡ length (rounds_of_images images) * area q.size = omega arith in e) ∙ (ap (λ k. k * area q.size) n_is ∙ sym (area_turned (length images)))))

      -- one image of the picture for each round
      each_image : (some : 0 < q.size.height) → 0 < length images → head (output_kind q) ++ lines (output_kind q) (picture 0 shots) (length images * q.size.height) ≡ output_file q (rounds_of_images images)
      each_image some more =
          let kind = output_kind q in
          let W = q.size.width in
          let H = q.size.height in
          let I : ℕ → Image = λ r. image_shown m q.size shots r 0 in
          let of_count : images_shown m q.size (length images) shots ≡ flat_map (λ r. I r ∷ []) (range_with_len 0 (length images)) = ap (λ k. flat_map (λ r. map (image_shown m q.size shots r) (range_with_len 0 k)) (range_with_len 0 (length images))) one_count in
          let samples_count : length (bench_samples (rounds_of_images images)) ≡ length images = length-map (rounds_of_images images) _ ∙ n_is in
          lines_are_images W H some (head kind) (sample_bytes kind.maxval) (picture 0 shots) (length images) more
          ∙ (Rattle.dk_top.proofs.StreamLines.same_pieces (λ r. head kind ++ raster_of kind.maxval (take (H * W) (drop (r * H * W) (picture 0 shots)))) (λ r. header_of (I r).width (I r).height (I r).maxval ++ raster_of (I r).maxval (I r).samples) 0 (length images) (λ k lt.
          ap (λ mx. header_of W H mx ++ raster_of mx (take (H * W) (drop ((0 + k) * H * W) (picture 0 shots)))) (sym greatest_is)
          ∙ (ap (λ t. header_of W H (2 ^ net_width m (dout_net 0) - 1) ++ raster_of (2 ^ net_width m (dout_net 0) - 1) (take t (drop ((0 + k) * H * W) (picture 0 shots)))) (mul_comm H W)
          ∙ ap (λ d. header_of W H (2 ^ net_width m (dout_net 0) - 1) ++ raster_of (2 ^ net_width m (dout_net 0) - 1) (take (area q.size) (drop d (picture 0 shots)))) (area_turned (0 + k))))
          ∙ (sym (file_of_each I (range_with_len 0 (length images))) ∙ (ap file_of (sym of_count ∙ (ap (λ k. images_shown m q.size k shots) (sym samples_count) ∙ images_are)))))

-- the notes and the file after all
module _ (source : List ℕ) (age : ℕ) (c : Compiled) (from : IsCompiledFrom source age false None c) (one : IsOnePort from.program) (picture_law : PictureLaw) (raster_law : RasterLaw) (file name : List ℕ) (old now : Outside) (told : old.image.rest ≡ Some file)
    (e : LeavesAll (output_kind from.program) (c.«module»).netlist (first_bits from.program) (latency c.plan) name (filled_contents Zeros (c.«module»).netlist) old now) (tall : 0 < (from.program).size.height) (wide : 0 < (from.program).size.width) where
  pub whole_fits : FitsFile (ports from.program) file (rounds_of_images e.images)
  whole_fits = subst (λ x. FitsFile x file (rounds_of_images e.images)) (sym (ports_one source age c from one)) (e.whole file told)

  long_all : length (samples_of e.images) ≡ length e.images * (from.program).size.height * (from.program).size.width
  long_all = images_long (from.program).size (first_bits from.program) e.images e.bytes e.are e.fit

  pub file_done : IfSome now.file.bytes (λ bytes. bytes ≡ output_file from.program (rounds_of_images e.images))
  file_done =
      let q = from.program in
      let s = e.shows in
      let W = q.size.width in
      let n = length e.images in
      let total = many source age c from one file e.images e.bytes whole_fits long_all picture_law raster_law s.shots s.to s.runs in
      let r : s.rows ≡ length (picture 0 s.shots) / W = rows_of s.rows W (length (picture 0 s.shots)) s.whole s.last in
      let exact : n * q.size.height ≡ length (picture 0 s.shots) / W =
      let next : (n * q.size.height + 1) * W ≡ n * q.size.height * W + W = ap (λ k. k * W) (let i : n * q.size.height + 1 ≡ suc (n * q.size.height) = omega arith in i) ∙ suc-mul (n * q.size.height) W in
      rows_of (n * q.size.height) W (length (picture 0 s.shots)) (omega (arith, total)) (omega (arith, total, next, wide)) in
      told_as now.file.bytes (head (output_kind q) ++ lines (output_kind q) (picture 0 s.shots) s.rows) (output_file q (rounds_of_images e.images))
      (ap (λ k. head (output_kind q) ++ lines (output_kind q) (picture 0 s.shots) k) (r ∙ sym exact) ∙ each_image source age c from one file e.images e.bytes whole_fits long_all picture_law raster_law s.shots s.to s.runs tall e.some)
      (told_file e.created.file.bytes now.file.bytes (head (output_kind q) ++ lines (output_kind q) (picture 0 s.shots) s.rows) (e.creates).empty s.gained.grows)

  pub notes_done : NotesLaw → NotesRun source age from.program (rounds_of_images e.images) old.notes now.notes
  notes_done law =
      let s = e.shows in
      let same : e.created.notes ≡ old.notes = ap (λ (o : Outside). o.notes) (e.creates).only in
      let count = notes_one (c.«module»).netlist s.shots (one_count source age c from one) in
      let noted : AreNotes (c.«module»).netlist (frame_drive (from.program).size (latency c.plan) (length (rounds_of_images e.images))) (bench_samples (rounds_of_images e.images)) (notes_of (c.«module»).netlist s.shots) =
      record { shots = s.shots; run = run source age c from one file e.images e.bytes whole_fits long_all picture_law raster_law s.shots s.to s.runs; notes_are = refl } in
      record {
        compiled = c;
        from = from;
        gained = notes_of (c.«module»).netlist s.shots;
        run = noted;
        every = every_of law source file age c from (rounds_of_images e.images) whole_fits (notes_of (c.«module»).netlist s.shots) noted;
        told = subst (λ (b : Option (List (Bool × ℕ))). IsIfTold now.notes (option_map (λ notes. notes ++ notes_of (c.«module»).netlist s.shots) b)) same (subst (λ ns. IsIfTold now.notes (option_map (λ notes. notes ++ ns) e.created.notes)) (sym count) s.gained.told);
      }
