-- A compiled module that is driven with the rounds of a file shows the program's output file.
use Rattle.std.proofs.Common.{◌≡◌, ℕ, zero, suc, ◌+◌, ◌-◌, ◌*◌, ◌/◌, ◌^◌, ◌<◌, ◌≤◌, Bool, List, [], ◌∷◌, length, map, take, drop, get_or, Option, Some, None, slice_get, slice_index, slice_index_or, ◌==◌, nat_lt, ℤ, pos, refl, sym, ap, ◌∙◌, subst, arith, add-mul, suc-mul, zero-add, mul-pos, mul-le-mul_right}
use Rattle.std.specs.List.{flat_map, All, range_with_len, AllZip}
use Rattle.std.proofs.lemmas.List.{length-map, length-append, length-replicate, length-take-le}
use Rattle.std.proofs.lemmas.List.Elements.{All-map}
use Rattle.std.proofs.lemmas.List.FromFn.{get_or-map-range_with_len, length-map-range_with_len}
use Rattle.std.proofs.lemmas.Nat.{div_below}
use Rattle.std.proofs.lemmas.Option.{slice_get_within}
use Rattle.dk_base.specs.Types.{width_of}
use Rattle.dk_base.specs.Frames.{Size, Picture, area, column, row, pixel_of, raster, picture_of, picture_at}
use Rattle.dk_base.proofs.Rasters.{length-raster}
use Rattle.dk_types.specs.declared.typed.TypedInput.{TypedInput}
use Rattle.dk_types.specs.Typed.{Typing, types_of}
use Rattle.dk_types.specs.Kept.{IsTyped}
use Rattle.dk_types.specs.Meaning.{meaning, meaning_on}
use Rattle.dk_types.proofs.Kept.{typed_is_kept}
use Rattle.wiring.specs.declared.netlist.Net.{Net}
use Rattle.wiring.specs.Netlist.{Netlist, net_width, valid_net, dout_net}
use Rattle.wiring.specs.Snapshot.{Contents, Snapshot, Fit, net_value}
use Rattle.wiring.specs.Clock.{Clock}
use Rattle.wiring.specs.Runs.{Runs, RunStops, picture}
use Rattle.wiring.proofs.Lists.{Contains-at, slice_get-append}
use Rattle.netlist.specs.Names.{NamedNetlist}
use Rattle.pointwise_ir.specs.declared.program.Input.{Input}
use Rattle.pointwise_ir.specs.Programs.{Program}
use Rattle.pointwise_ir.specs.Meaning.{IsRound, pictures}
use Rattle.raster_delay.specs.Systems.{System}
use Rattle.flow_dual.specs.declared.solution.Solution.{Solution}
use Rattle.buffer_plan.specs.Plans.{Plan, latency, latency_of}
use Rattle.circuit.specs.Rounds.{pixel}
use Rattle.circuit.specs.Driven.{Agree, driven, fed_clock, input_widths, output_at}
use Rattle.cycle_sim.specs.declared.fill.Fill.{Fill}
use Rattle.cycle_sim.specs.declared.fill.Fill.TheVariants.{Zeros}
use Rattle.cycle_sim.specs.Filled.{filled_contents}
use Rattle.cycle_sim.specs.Ports.{din_widths}
use Rattle.pgm_codec.specs.Images.{Image, file_of}
use Rattle.pgm_rounds.specs.declared.round.Round.{Round}
use Rattle.pgm_rounds.specs.Files.{FitsFile, frame_of, frames_of, joined}
use Rattle.pointwise_eval.specs.Rounds.{AreFrames}
use Rattle.program_images.specs.Ports.{bits_of}
use Rattle.program_images.specs.Outputs.{image_of}
use Rattle.stimulus.specs.declared.drive.Drive.{Drive}
use Rattle.stimulus.specs.declared.stop.Stop.{Stop}
use Rattle.stimulus.specs.declared.stop.Stop.TheVariants.{Index, Count}
use Rattle.stimulus.specs.Stimulus.{stream, dins_at, stimulus, clocks_at, reset_clock}
use Rattle.stimulus.specs.Inputs.{samples_of}
use Rattle.stimulus.specs.Given.{AreBenchFrames, rounds_of}
use Rattle.stimulus.specs.Showing.{IsRun, IsShown, HasShown, output_count, image_shown, images_shown}
use Rattle.stimulus.specs.Stops.{IsStop}
use Rattle.stimulus.proofs.Streams.{map_at, read_at}
use Rattle.dk_compile.specs.Fronts.{IsForm, IsFront}
use Rattle.dk_compile.specs.Compiled.{IsCompiled}
use Rattle.dk_top.specs.Program.{ports}
use Rattle.dk_top.specs.Output.{outputs_of, output_file}
use Rattle.dk_top.proofs.RoundLemmas.{pieces_of_map}
use Rattle.dk_top.proofs.TextLemmas.{output_stays, has_input}
use Rattle.dk_top.proofs.DriveRounds.{IsSampled, AreSampled, HasPortTypes, pictured, is_round, are_rounds, dins_fit, there_is, agrees, extended, extended_sampled, extended_stream, all_at}
use Rattle.dk_top.proofs.DriveShown.{PictureLaw, RasterLaw, rastered, picture_shown, pieces_at, places_at, pieces_length, piece_within}
use Rattle.dk_top.proofs.DrivePorts.{widths_are, count_is, dout_width, has_port_types, widths_same, filled_fits, latency_bounds, latency_of_one}
use Rattle.dk_top.proofs.DriveFrames.{file_sampled, frames_fit, samples_read}

-- a drive of this many clocks from these contents, without held clocks
abbrev pub drive_from : Fill → ℕ → Drive
drive_from fill clocks = record { clocks = clocks; fill = fill; hold = None }

-- and from zeros
abbrev pub drive_of : ℕ → Drive
drive_of clocks = drive_from Zeros clocks

-- the numbers at the dins in these clocks
abbrev pub dins_of : (inputs : ℕ) → List (List (List ℕ)) → ℕ → List (List ℕ)
dins_of inputs samples clocks = map (dins_at inputs samples) (range_with_len 0 clocks)

-- its clocks are a reset clock, and then a clock for each pixel
pub stimulus_is : (widths : List ℕ) (samples : List (List (List ℕ))) (inputs clocks : ℕ) → length widths ≡ inputs → stimulus (drive_of clocks) widths samples ≡ driven inputs (dins_of inputs samples clocks)
stimulus_is widths samples inputs clocks long =
    ap (λ cs. reset_clock (length widths) ∷ cs) (each (range_with_len 0 clocks)) ∙ ap (λ n. driven n (dins_of n samples clocks)) long
  where
    each : (ks : List ℕ) → flat_map (clocks_at None widths samples) ks ≡ map fed_clock (map (dins_at (length widths) samples) ks)
    each [] = refl
    each (k ∷ ks) = ap (λ cs. fed_clock (dins_at (length widths) samples k) ∷ cs) (each ks)

many_times : (n a : ℕ) → 0 < a → n ≤ n * a
many_times zero a some = omega arith
many_times (suc n) a some = let more = suc-mul n a in let rest = many_times n a some in omega (arith, more, rest, some)

whole_within : (r n a : ℕ) → r < n → r * a + a ≤ n * a
whole_within r n a lt =
    let fits : suc r * a ≤ n * a = mul-le-mul_right a (let e : suc r ≤ n = omega (arith, lt) in e) in
    let more = suc-mul r a in
    omega (arith, fits, more)

-- a run has a snapshot for each clock
runs_length : (m : Netlist) (clocks : List Clock) (from to : Contents) (shots : List Snapshot) → Runs m from clocks shots to → length shots ≡ length clocks
runs_length m [] from to [] h = refl
runs_length m [] from to (t ∷ shots) h = absurd h
runs_length m (c ∷ clocks) from to [] h = absurd h
runs_length m (c ∷ clocks) from to (t ∷ shots) h = ap suc (runs_length m clocks h.0 to shots h.2)

-- rounds of samples for the program's inputs, with this many rounds of zeros after them
abbrev pub followed : Typing → List (List (List ℕ)) → (more : ℕ) → List (List (List ℕ))
followed p rounds more = extended p.size (map width_of (map (λ (i : TypedInput). i.ty) p.inputs)) rounds more

-- pixel q of output k on rounds of samples, by the program's meaning
abbrev pub meant_pixel : Typing → List (List (List ℕ)) → (k q : ℕ) → ℤ
meant_pixel p rounds k q = pixel_of p.size (λ f. picture_at (meaning_on p (slice_index_or rounds f [])) (slice_index p.outputs k)) q

module _ (source : List ℕ) (age : ℕ) (enable : Bool) (block : Option ℕ) (p : Typing) (ir : Program) (system : System) (solution : Solution) (plan : Plan) (m : NamedNetlist) (nets reads : List Net) (verilog : List ℕ) (c : IsCompiled source age enable block p ir system solution plan m nets reads verilog) where
  front : IsFront source p ir system.stencils
  front = c.planned.has.front

  pub form : IsForm p ir
  form = (c.planned.has.front).form

  pub is_typed : IsTyped p
  is_typed = typed_is_kept (c.planned.has.front).program.tree p (c.planned.has.front).program.typed

  pub types : HasPortTypes ir
  types = has_port_types p ir form is_typed

  -- the ports of the module are those of the program
  pub din_widths_are : din_widths m.netlist ≡ input_widths ir
  din_widths_are = widths_are m.netlist ir c.circuit.drives.ports

  pub outputs_are : output_count m.netlist ≡ length p.outputs
  outputs_are = count_is m.netlist ir c.circuit.drives.ports ∙ ap length form.outputs

  pub dout_width_is : (k g : ℕ) → slice_get p.outputs k ≡ Some g → net_width m.netlist (dout_net k) ≡ bits_of (types_of p) g
  dout_width_is k g at = dout_width m.netlist p ir c.circuit.drives.ports form is_typed k g at

  -- the outputs of the plan are the program's
  pub planned_outputs : plan.system.stencils.outputs ≡ p.outputs
  planned_outputs = ap (λ (q : Plan). q.system.stencils.outputs) c.planned.plan_is ∙ front.stencils.outputs ∙ form.outputs

  in_plan : (k : ℕ) → k < length p.outputs → k < length plan.system.stencils.outputs
  in_plan k lt = subst (λ (gs : List ℕ). k < length gs) (sym planned_outputs) lt

  pub in_form : (k : ℕ) → k < length p.outputs → k < length ir.outputs
  in_form k lt = subst (λ (gs : List ℕ). k < length gs) (sym form.outputs) lt

  pub dins_long : length (din_widths m.netlist) ≡ length ir.inputs
  dins_long = ap length din_widths_are ∙ length-map ir.inputs (λ (i : Input). width_of i.ty)

  some_inputs : 0 < length (ports p).inputs
  some_inputs =
      let some = has_input source p front.program in
      let a = length-map (map (λ (i : TypedInput). i.ty) p.inputs) width_of in
      let b = length-map p.inputs (λ (i : TypedInput). i.ty) in
      omega (arith, some, a, b)

  pub some_area : 0 < area p.size
  some_area = mul-pos is_typed.frame.some_columns is_typed.frame.some_rows

  pub same_area : area ir.size ≡ area p.size
  same_area = ap area form.size

  -- the samples of an output in a round are those of the program's meaning
  pub meant : (round : List (List ℕ)) → IsRound ir (map (picture_of ir.size) round) → (k g : ℕ) → slice_get p.outputs k ≡ Some g → rastered ir g round ≡ raster p.size (picture_at (meaning_on p round) g)
  meant round ok k g at =
      ap (raster ir.size) (λ i x y. form.meaning (map (picture_of ir.size) round) ok g (output_stays source p front.program g (Contains-at p.outputs k g at)) x y i)
      ∙ ap (λ s. raster s (picture_at (meaning p (map (picture_of s) round)) g)) form.size

  as_long : (g : ℕ) (round : List (List ℕ)) → length (rastered ir g round) ≡ area p.size
  as_long g round = length-raster ir.size _ ∙ same_area

  module _ (file : List ℕ) (rounds : List (List Image)) (fits : FitsFile (ports p) file rounds) where
    abbrev samples : List (List (List ℕ))
    samples = samples_of rounds

    as_many : length samples ≡ length rounds
    as_many = length-map rounds (λ (r : List Image). map (λ (i : Image). i.samples) r)

    -- the frames that were read are frames for a bench
    pub bench_frames : (read : List Round) → frames_of read ≡ map (map frame_of) rounds → All (λ r. AreFrames ir r.frames.items) read → AreBenchFrames (din_widths m.netlist) p.size read
    bench_frames read are frames =
        subst (λ ws. AreBenchFrames ws p.size read) (sym din_widths_are)
        (subst (λ s. AreBenchFrames (input_widths ir) s read) form.size (frames_fit (ports p) ir file rounds types some_inputs fits read are frames))

    pub bench_rounds : (read : List Round) → frames_of read ≡ map (map frame_of) rounds → rounds_of read ≡ samples_of rounds
    bench_rounds read are = samples_read rounds read are

    sampled : AreSampled ir.size (input_widths ir) samples
    sampled =
        subst (λ s. AreSampled s (input_widths ir) samples) (sym form.size)
        (subst (λ ws. AreSampled p.size ws samples) (widths_same p ir form) (file_sampled (ports p) file rounds fits))

    -- what the module shows over all clocks
    module _ (fill : Fill) (picture_law : PictureLaw) (raster_law : RasterLaw) (clocks : ℕ) (are : clocks ≡ length rounds * area p.size + latency plan) where
      abbrev dins : List (List ℕ)
      dins = dins_of (length ir.inputs) samples clocks

      -- the rounds with rounds of zeros after them, for the clocks after the last pixel
      abbrev padded : List (List (List ℕ))
      padded = extended ir.size (input_widths ir) samples (latency plan)

      dins_count : length dins ≡ clocks
      dins_count = length-map-range_with_len (dins_at (length ir.inputs) samples) 0 clocks

      all_dins_fit : All (Fit (input_widths ir)) dins
      all_dins_fit =
          All-map (Fit (input_widths ir)) (dins_at (length ir.inputs) samples) (range_with_len 0 clocks) (λ k d lt.
          subst (λ n. Fit (input_widths ir) (dins_at n samples (get_or (range_with_len 0 clocks) k d))) (length-map ir.inputs (λ (i : Input). width_of i.ty))
          (dins_fit ir.size (input_widths ir) samples sampled (get_or (range_with_len 0 clocks) k d)))

      padded_sampled : AreSampled ir.size (input_widths ir) padded
      padded_sampled = extended_sampled ir.size (input_widths ir) samples (latency plan) sampled

      come : (k q : ℕ) → k < length ir.inputs → q < length dins → slice_index (slice_index_or dins q []) k ≡ slice_index (stream padded k) q
      come k q there within =
          let low : q < clocks = subst (λ n. q < n) dins_count within in
          ap (λ xs. slice_index xs k) (get_or-map-range_with_len (dins_at (length ir.inputs) samples) 0 clocks q q [] low (zero-add q))
          ∙ get_or-map-range_with_len (λ i. slice_index (stream samples i) q) 0 (length ir.inputs) k k 0 there (zero-add k)
          ∙ sym (extended_stream ir.size (input_widths ir) samples (latency plan) k q)

      agree : Agree ir (pictured ir.size padded) dins
      agree = agrees ir padded dins (subst (λ n. 0 < n) (sym same_area) some_area) padded_sampled come

      room : length padded * area p.size ≡ length rounds * area p.size + latency plan * area p.size
      room =
          ap (λ n. n * area p.size) (length-append samples _ ∙ ap (λ n. length samples + n) (length-replicate (latency plan) _) ∙ ap (λ n. n + latency plan) as_many)
          ∙ add-mul (length rounds) (latency plan) (area p.size)

      enough_clocks : clocks ≤ length padded * area p.size
      enough_clocks = let behind = many_times (latency plan) (area p.size) some_area in omega (arith, are, room, behind)

      -- the pictures of the outputs
      pictures_are : (shots : List Snapshot) → IsRun m.netlist (drive_from fill clocks) samples shots → (k : ℕ) → k < length p.outputs → picture k shots ≡ take (clocks - latency_of plan k) (flat_map (rastered ir (output_at ir k)) padded)
      pictures_are shots run k lt =
          let from = filled_contents fill m.netlist in
          let runs : Runs m.netlist from (driven (length ir.inputs) dins) shots run.to = subst (λ cs. Runs m.netlist from cs shots run.to) (stimulus_is (din_widths m.netlist) samples (length ir.inputs) clocks dins_long) run.runs in
          let enough : length dins ≤ length padded * area ir.size + latency_of plan k = subst (λ n. length dins ≤ length padded * n + latency_of plan k) (sym same_area) (let e = enough_clocks in omega (arith, e, dins_count)) in
          picture_shown picture_law raster_law m.netlist ir plan c.circuit.drives from run.to dins shots (filled_fits fill m.netlist) all_dins_fit runs padded (are_rounds ir types padded padded_sampled) agree k (in_form k lt) enough
          ∙ ap (λ n. take (n - latency_of plan k) (flat_map (rastered ir (output_at ir k)) padded)) dins_count

      pub shown_count : (shots : List Snapshot) → IsRun m.netlist (drive_from fill clocks) samples shots → (k : ℕ) → k < length p.outputs → length (picture k shots) ≡ clocks - latency_of plan k
      shown_count shots run k lt =
          let g = output_at ir k in
          let long = pieces_length (rastered ir g) (area p.size) (as_long g) padded in
          ap length (pictures_are shots run k lt) ∙ length-take-le (clocks - latency_of plan k) (flat_map (rastered ir g) padded) (let e = enough_clocks in omega (arith, e, long))

      pub shows_enough : (shots : List Snapshot) → IsRun m.netlist (drive_from fill clocks) samples shots → (k : ℕ) → k < output_count m.netlist → HasShown m.netlist p.size samples shots k
      shows_enough shots run k within =
          let lt : k < length p.outputs = subst (λ n. k < n) outputs_are within in
          let count = shown_count shots run k lt in
          let low = latency_bounds plan k (in_plan k lt) in
          let all : length samples * area p.size ≡ length rounds * area p.size = ap (λ n. n * area p.size) as_many in
          record {
            least = omega (arith, count, low, all, are);
            exact = λ one.
                let only : length plan.system.stencils.outputs ≡ 1 = ap length planned_outputs ∙ sym outputs_are ∙ one in
                let first : k ≡ 0 = omega (arith, within, one) in
                let late : latency_of plan k ≡ latency plan = ap (latency_of plan) first ∙ latency_of_one plan only in
                omega (arith, count, late, all, are);
          }

      pub no_stop : (shots : List Snapshot) (array index : ℕ) → RunStops m.netlist (filled_contents fill m.netlist) (stimulus (drive_from fill clocks) (din_widths m.netlist) samples) shots array index → ⊥
      no_stop shots array index stops =
          let from = filled_contents fill m.netlist in
          c.circuit.drives.never from dins shots array index (filled_fits fill m.netlist) all_dins_fit
          (subst (λ cs. RunStops m.netlist from cs shots array index) (stimulus_is (din_widths m.netlist) samples (length ir.inputs) clocks dins_long) stops)

      pub never_stops : (stop : Stop) → IsStop m.netlist (drive_from fill clocks) p.size (samples_of rounds) stop → ⊥
      never_stops (Index clock array index) is = no_stop is.shots array index is.stops
      never_stops (Count shown wanted) is = is.wrong (shows_enough is.shots is.run is.output is.there)

      -- the samples of an output in a round
      samples_are : (shots : List Snapshot) → IsRun m.netlist (drive_from fill clocks) samples shots → (r k g : ℕ) (round : List Image) → slice_get rounds r ≡ Some round → slice_get p.outputs k ≡ Some g
          → take (area p.size) (drop (r * area p.size) (picture k shots)) ≡ raster p.size (picture_at (meaning_on p (map (λ (i : Image). i.samples) round)) g)
      samples_are shots run r k g round there at =
          let lt = slice_get_within p.outputs k g at in
          let A = area p.size in
          let given = map (λ (i : Image). i.samples) round in
          let here : slice_get samples r ≡ Some given = map_at (λ (x : List Image). map (λ (i : Image). i.samples) x) rounds r round there in
          let low = latency_bounds plan k (in_plan k lt) in
          let inside = whole_within r (length rounds) A (slice_get_within rounds r round there) in
          let is : output_at ir k ≡ g = ap (λ (gs : List ℕ). slice_index gs k) form.outputs ∙ read_at p.outputs k g 0 at in
          ap (λ xs. take A (drop (r * A) xs)) (pictures_are shots run k lt)
          ∙ piece_within (rastered ir (output_at ir k)) A (as_long (output_at ir k)) padded r given (clocks - latency_of plan k) (slice_get-append samples _ r given here) (omega (arith, inside, low, are))
          ∙ ap (λ h. rastered ir h given) is
          ∙ meant given (is_round ir types given (all_at (AllZip (IsSampled ir.size) (input_widths ir)) samples sampled r given here)) k g at

      image_is : (shots : List Snapshot) → IsRun m.netlist (drive_from fill clocks) samples shots → (r k g : ℕ) (round : List Image) → slice_get rounds r ≡ Some round → slice_get p.outputs k ≡ Some g
          → image_shown m.netlist p.size shots r k ≡ image_of p.size (bits_of (types_of p) g) (picture_at (meaning_on p (map (λ (i : Image). i.samples) round)) g)
      image_is shots run r k g round there at =
          let whole : ℕ → List ℕ → Image = λ bits xs. record { width = p.size.width; height = p.size.height; maxval = 2 ^ bits - 1; samples = xs } in
          ap (λ bits. whole bits (take (area p.size) (drop (r * area p.size) (picture k shots)))) (dout_width_is k g at) ∙ ap (whole (bits_of (types_of p) g)) (samples_are shots run r k g round there at)

      pub images_same : (shots : List Snapshot) → IsRun m.netlist (drive_from fill clocks) samples shots → images_shown m.netlist p.size (length samples) shots ≡ joined (map (outputs_of p) rounds)
      images_same shots run =
          ap (λ n. images_shown m.netlist p.size n shots) as_many
          ∙ pieces_at (λ r. map (image_shown m.netlist p.size shots r) (range_with_len 0 (output_count m.netlist))) (outputs_of p) 0 rounds (λ r round there.
          ap (λ q. map (image_shown m.netlist p.size shots q) (range_with_len 0 (output_count m.netlist))) (zero-add r)
          ∙ ap (λ n. map (image_shown m.netlist p.size shots r) (range_with_len 0 n)) outputs_are
          ∙ places_at (image_shown m.netlist p.size shots r) (λ g. image_of p.size (bits_of (types_of p) g) (picture_at (meaning_on p (map (λ (i : Image). i.samples) round)) g)) 0 p.outputs (λ k g at.
          ap (image_shown m.netlist p.size shots r) (zero-add k) ∙ image_is shots run r k g round there at))
          ∙ sym (pieces_of_map (λ (r : List Image). r) (outputs_of p) rounds)

      pub drive_file : (bytes : List ℕ) → IsShown m.netlist (drive_from fill clocks) p.size (samples_of rounds) bytes → bytes ≡ output_file p rounds
      drive_file bytes is = is.file_is ∙ ap file_of (images_same is.shots is.run)

      -- a pixel of an output is the program's
      pixel_meant : (k q : ℕ) → k < length p.outputs → q < length padded * area ir.size → pixel ir (pictured ir.size padded) (output_at ir k) q ≡ meant_pixel p (followed p samples (latency plan)) k q
      pixel_meant k q lt low =
          let size = ir.size in
          let some : 0 < area size = subst (λ n. 0 < n) (sym same_area) some_area in
          let (g, at) = there_is p.outputs k lt in
          let (round, here) = there_is padded (q / area size) (div_below q (area size) (length padded) some low) in
          let first : output_at ir k ≡ g = ap (λ (gs : List ℕ). slice_index gs k) form.outputs ∙ read_at p.outputs k g 0 at in
          let ok = is_round ir types round (all_at (AllZip (IsSampled ir.size) (input_widths ir)) padded padded_sampled (q / area size) round here) in
          let given : Size → List (List (List ℕ)) → ℕ → List Picture = λ s rs f. map (picture_of s) (slice_index_or rs f []) in
          let meant : Size → List (List (List ℕ)) → ℕ → ℤ = λ s rs h. pixel_of s (λ f. picture_at (meaning p (given s rs f)) h) q in
          let is : slice_index_or padded (q / area size) [] ≡ round = read_at padded (q / area size) round [] here in
          let known : slice_index_or (pictured size padded) (q / area size) [] ≡ map (picture_of size) round = read_at (pictured size padded) (q / area size) (map (picture_of size) round) [] (map_at (λ (r : List (List ℕ)). map (picture_of size) r) padded (q / area size) round here) in
          let widths : extended size (input_widths ir) samples (latency plan) ≡ followed p samples (latency plan) =
          ap (λ s. extended s (input_widths ir) samples (latency plan)) form.size ∙ ap (λ ws. extended p.size ws samples (latency plan)) (sym (widths_same p ir form)) in
          ap (λ (r : List Picture). pixel_of size (λ f. picture_at (pictures ir r) (output_at ir k)) q) known
          ∙ ap (λ h. pixel_of size (λ f. picture_at (pictures ir (map (picture_of size) round)) h) q) first
          ∙ form.meaning (map (picture_of size) round) ok g (output_stays source p front.program g (Contains-at p.outputs k g at)) (pos (column size q)) (pos (row size q))
          ∙ ap (λ (r : List (List ℕ)). pixel_of size (λ f. picture_at (meaning p (map (picture_of size) r)) g) q) (sym is)
          ∙ ap (λ h. meant size padded h) (sym (read_at p.outputs k g 0 at))
          ∙ ap (λ s. meant s padded (slice_index p.outputs k)) form.size
          ∙ ap (λ rs. meant p.size rs (slice_index p.outputs k)) widths

      over : (shots : List Snapshot) → (run : IsRun m.netlist (drive_from fill clocks) samples shots) → Runs m.netlist (filled_contents fill m.netlist) (driven (length ir.inputs) dins) shots run.to
      over shots run = subst (λ cs. Runs m.netlist (filled_contents fill m.netlist) cs shots run.to) (stimulus_is (din_widths m.netlist) samples (length ir.inputs) clocks dins_long) run.runs

      pub shots_count : (shots : List Snapshot) → IsRun m.netlist (drive_from fill clocks) samples shots → length shots ≡ suc clocks
      shots_count shots run =
          runs_length m.netlist (driven (length ir.inputs) dins) (filled_contents fill m.netlist) run.to shots (over shots run)
          ∙ ap suc (length-map dins fed_clock ∙ dins_count)

      -- the valid of an output in clock t
      pub valid_is : (shots : List Snapshot) → IsRun m.netlist (drive_from fill clocks) samples shots → (k t : ℕ) (s : Snapshot) → k < length p.outputs → slice_get shots t ≡ Some s → (net_value s (valid_net k) == 1) ≡ nat_lt (latency_of plan k) t
      valid_is shots run k t s lt there = c.circuit.drives.valid (filled_contents fill m.netlist) run.to dins shots (filled_fits fill m.netlist) all_dins_fit (over shots run) k t s (in_form k lt) there

      -- and its dout, from its latency on
      pub dout_is : (shots : List Snapshot) → IsRun m.netlist (drive_from fill clocks) samples shots → (k t : ℕ) (s : Snapshot) → k < length p.outputs → slice_get shots t ≡ Some s → latency_of plan k < t
          → pos (net_value s (dout_net k)) ≡ meant_pixel p (followed p samples (latency plan)) k (t - (latency_of plan k + 1))
      dout_is shots run k t s lt there later =
          let late = latency_of plan k in
          let q = t - (late + 1) in
          let inside = slice_get_within shots t s there in
          let count = shots_count shots run in
          let e = enough_clocks in
          let same : t ≡ q + late + 1 = omega (arith, later) in
          let low : q < length padded * area p.size = omega (arith, inside, count, e, later) in
          let low_there : q < length padded * area ir.size = subst (λ n. q < length padded * n) (sym same_area) low in
          let counted : q < length (pictured ir.size padded) * area ir.size = subst (λ n. q < n * area ir.size) (sym (length-map padded (λ (r : List (List ℕ)). map (picture_of ir.size) r))) low_there in
          c.circuit.drives.dout (filled_contents fill m.netlist) run.to dins shots (filled_fits fill m.netlist) all_dins_fit (over shots run) (pictured ir.size padded) (are_rounds ir types padded padded_sampled) agree k q s (in_form k lt)
          (subst (λ n. slice_get shots n ≡ Some s) same there) counted
          ∙ pixel_meant k q lt low_there
