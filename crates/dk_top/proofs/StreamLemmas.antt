-- What a compiled module of one input and one output shows of a stream.
use Rattle.std.proofs.Common.{◌≡◌, ℕ, zero, suc, ◌+◌, ◌-◌, ◌*◌, ◌^◌, ◌<◌, ◌≤◌, true, false, Bool, List, [], ◌∷◌, length, map, take, Option, Some, slice_get, slice_index, slice_index_or, refl, sym, ap, ◌∙◌, subst, arith, append-nil}
use Rattle.std.specs.Prelude.{All}
use Rattle.std.specs.List.{flat_map, AllByRecursion}
use Rattle.std.proofs.lemmas.List.{length-map}
use Rattle.std.proofs.lemmas.List.Elements.{All-nil, All-cons}
use Rattle.std.proofs.lemmas.List.FromFn.{length-map-range_with_len}
use Rattle.dk_base.specs.Types.{width_of}
use Rattle.dk_base.specs.Frames.{area, raster, picture_at}
use Rattle.dk_types.specs.Typed.{Typing, types_of}
use Rattle.dk_types.specs.Meaning.{meaning_on}
use Rattle.wiring.specs.declared.netlist.Net.{Net}
use Rattle.wiring.specs.Snapshot.{Contents, Snapshot, Fit, FitsContents}
use Rattle.wiring.specs.Clock.{Clock}
use Rattle.wiring.specs.Runs.{Runs, picture}
use Rattle.netlist.specs.Names.{NamedNetlist}
use Rattle.pointwise_ir.specs.declared.program.Input.{Input}
use Rattle.pointwise_ir.specs.Programs.{Program}
use Rattle.raster_delay.specs.Systems.{System}
use Rattle.flow_dual.specs.declared.solution.Solution.{Solution}
use Rattle.buffer_plan.specs.Plans.{Plan, latency, latency_of}
use Rattle.circuit.specs.Driven.{Agree, driven, fed_clock, input_widths, output_at}
use Rattle.pgm_codec.specs.Images.{Image}
use Rattle.program_images.specs.Outputs.{output_images}
use Rattle.stimulus.specs.Stimulus.{stream}
use Rattle.stimulus.proofs.Streams.{read_at}
use Rattle.dk_compile.specs.Fronts.{IsForm}
use Rattle.dk_compile.specs.Compiled.{IsCompiled}
use Rattle.dk_top.specs.Program.{ports}
use Rattle.dk_top.proofs.RoundLemmas.{pieces_of_map}
use Rattle.dk_top.proofs.OutputLemmas.{pieces_same}
use Rattle.dk_top.proofs.DriveRounds.{IsSampled, AreSampled, HasPortTypes, pictured, is_round, are_rounds, agrees}
use Rattle.dk_base.proofs.Rasters.{length-raster}
use Rattle.dk_top.proofs.DriveShown.{PictureLaw, RasterLaw, rastered, picture_shown, pieces_length}
use Rattle.dk_top.proofs.DrivePorts.{widths_same, latency_of_one}
use Rattle.dk_top.proofs.DriveLemmas as D
use Rattle.dk_top.specs.Streaming.{frame_count, padded_frames, shown_by}
use Rattle.dk_top.proofs.StreamFrames.{rounds_of_one, frames_enough, frames_sampled, ones_sampled, stream_sample}

-- a reset clock, and then a clock for each sample
abbrev pub stream_clocks : List ℕ → List Clock
stream_clocks samples = record { reset = true; enable = true; dins = 0 ∷ [] } ∷ map (λ s. record { reset = false; enable = true; dins = s ∷ [] }) samples

abbrev pub singles : List ℕ → List (List ℕ)
singles samples = map (λ s. s ∷ []) samples

pub clocks_are : (samples : List ℕ) → stream_clocks samples ≡ driven 1 (singles samples)
clocks_are samples = ap (λ cs. record { reset = true; enable = true; dins = 0 ∷ [] } ∷ cs) (each samples)
  where
    each : (xs : List ℕ) → map (λ s. fed_clock (s ∷ [])) xs ≡ map fed_clock (singles xs)
    each [] = refl
    each (x ∷ xs) = ap (λ cs. fed_clock (x ∷ []) ∷ cs) (each xs)

singles_fit : (bits : ℕ) (samples : List ℕ) → AllByRecursion (λ s. s < 2 ^ bits) samples → All (Fit (bits ∷ [])) (singles samples)
singles_fit bits [] low = All-nil (Fit (bits ∷ []))
singles_fit bits (s ∷ ss) low = All-cons (Fit (bits ∷ [])) (s ∷ []) (singles ss) (low.0, tt) (singles_fit bits ss low.1)

single_at : (samples : List ℕ) (q : ℕ) → slice_index (slice_index_or (singles samples) q []) 0 ≡ slice_index samples q
single_at [] q = refl
single_at (s ∷ ss) zero = refl
single_at (s ∷ ss) (suc q) = single_at ss q

pub only_item : (xs : List ℕ) → length xs ≡ 1 → (x : ℕ) × (xs ≡ x ∷ [])
only_item [] one = absurd (let e : ⊥ = omega (arith, one) in e)
only_item (x ∷ []) one = (x, refl)
only_item (x ∷ y ∷ xs) one = absurd (let e : ⊥ = omega (arith, one) in e)

module _ (source : List ℕ) (age : ℕ) (enable : Bool) (block : Option ℕ) (p : Typing) (ir : Program) (system : System) (solution : Solution) (plan : Plan) (m : NamedNetlist) (nets reads : List Net) (verilog : List ℕ) (c : IsCompiled source age enable block p ir system solution plan m nets reads verilog) (bits : ℕ) (inputs : (ports p).inputs ≡ bits ∷ []) (outputs : length p.outputs ≡ 1) where
  -- the module has one din of this width
  pub one_width : input_widths ir ≡ bits ∷ []
  one_width = sym (widths_same p ir (D.form source age enable block p ir system solution plan m nets reads verilog c)) ∙ inputs

  pub one_input : length ir.inputs ≡ 1
  one_input = sym (length-map ir.inputs (λ (i : Input). width_of i.ty)) ∙ ap length one_width

  has_form : IsForm p ir
  has_form = D.form source age enable block p ir system solution plan m nets reads verilog c

  port_types : HasPortTypes ir
  port_types = D.types source age enable block p ir system solution plan m nets reads verilog c

  pub some : 0 < area p.size
  some = D.some_area source age enable block p ir system solution plan m nets reads verilog c

  same : area ir.size ≡ area p.size
  same = D.same_area source age enable block p ir system solution plan m nets reads verilog c

  late : latency_of plan 0 ≡ latency plan
  late = latency_of_one plan (ap length (D.planned_outputs source age enable block p ir system solution plan m nets reads verilog c) ∙ outputs)

  -- rounds of one input
  in_form : (rounds : List (List (List ℕ))) → AreSampled p.size (bits ∷ []) rounds → AreSampled ir.size (input_widths ir) rounds
  in_form rounds are = subst (λ s. AreSampled s (input_widths ir) rounds) (sym has_form.size) (subst (λ ws. AreSampled p.size ws rounds) (sym one_width) are)

  -- the output's samples of a frame
  frame_shown : (frame : List ℕ) → IsSampled p.size bits frame → rastered ir (output_at ir 0) (frame ∷ []) ≡ flat_map (λ (image : Image). image.samples) (output_images p.size (types_of p) p.outputs (meaning_on p (frame ∷ [])))
  frame_shown frame is =
      let (g, one) = only_item p.outputs outputs in
      let at : slice_get p.outputs 0 ≡ Some g = ap (λ gs. slice_get gs 0) one in
      let first : output_at ir 0 ≡ g = ap (λ (gs : List ℕ). slice_index gs 0) has_form.outputs ∙ read_at p.outputs 0 g 0 at in
      let sampled = in_form ((frame ∷ []) ∷ []) ((is, tt), tt) in
      ap (λ h. rastered ir h (frame ∷ [])) first
      ∙ D.meant source age enable block p ir system solution plan m nets reads verilog c (frame ∷ []) (is_round ir port_types (frame ∷ []) sampled.0) 0 g at
      ∙ sym (append-nil (raster p.size (picture_at (meaning_on p (frame ∷ [])) g)))
      ∙ sym (ap (λ gs. flat_map (λ (image : Image). image.samples) (output_images p.size (types_of p) gs (meaning_on p (frame ∷ [])))) one)

  -- what the output shows over a reset clock and a clock for each sample, where these are the numbers of a whole and zeros after them
  pub stream_shown : PictureLaw → RasterLaw → (samples whole : List ℕ) → AllByRecursion (λ s. s < 2 ^ bits) samples → AllByRecursion (λ s. s < 2 ^ bits) whole → ((q : ℕ) → q < length samples → slice_index samples q ≡ slice_index whole q)
      → length samples ≤ length whole + latency plan → (from to : Contents) (shots : List Snapshot) → FitsContents m.netlist from → Runs m.netlist from (stream_clocks samples) shots to → picture 0 shots ≡ take (length samples - latency plan) (shown_by p whole)
  stream_shown law rasters samples whole low low_whole agrees_so few from to shots fits runs =
      let frames = padded_frames p.size whole in
      let rounds = rounds_of_one frames in
      let dins = singles samples in
      let ok = frames_sampled p.size bits whole some low_whole in
      let sampled = in_form rounds (ones_sampled p.size bits frames ok) in
      let fit : All (Fit (input_widths ir)) dins = subst (λ ws. All (Fit ws) dins) (sym one_width) (singles_fit bits samples low) in
      let driven_so : Runs m.netlist from (driven (length ir.inputs) dins) shots to = subst (λ cs. Runs m.netlist from cs shots to) (clocks_are samples ∙ ap (λ n. driven n dins) (sym one_input)) runs in
      let many : length dins ≡ length samples = length-map samples (λ s. s ∷ []) in
      let come : (k q : ℕ) → k < length ir.inputs → q < length dins → slice_index (slice_index_or dins q []) k ≡ slice_index (stream rounds k) q = λ k q there within.
      subst (λ j. slice_index (slice_index_or dins q []) j ≡ slice_index (stream rounds j) q) (let e : 0 ≡ k = omega (arith, there, one_input) in e)
      (single_at samples q ∙ (agrees_so q (subst (λ n. q < n) many within) ∙ sym (stream_sample p.size whole some q))) in
      let agree : Agree ir (pictured ir.size rounds) dins = agrees ir rounds dins (subst (λ n. 0 < n) (sym same) some) sampled come in
      let count : length rounds ≡ frame_count p.size (length whole) = length-map frames (λ f. f ∷ []) ∙ length-map-range_with_len _ 0 (frame_count p.size (length whole)) in
      let enough = frames_enough (area p.size) (length whole) some in
      let area_is : length rounds * area ir.size ≡ frame_count p.size (length whole) * area p.size = ap (λ n. length rounds * n) same ∙ ap (λ n. n * area p.size) count in
      let there : 0 < length ir.outputs = subst (λ (gs : List ℕ). 0 < length gs) (sym has_form.outputs) (omega (arith, outputs)) in
      picture_shown law rasters m.netlist ir plan c.circuit.drives from to dins shots fits fit driven_so rounds (are_rounds ir port_types rounds sampled) agree 0 there (let l = late in omega (arith, enough, area_is, many, few, l))
      ∙ ap (λ n. take (n - latency_of plan 0) (flat_map (rastered ir (output_at ir 0)) rounds)) many
      ∙ ap (λ n. take (length samples - n) (flat_map (rastered ir (output_at ir 0)) rounds)) late
      ∙ ap (take (length samples - latency plan)) (pieces_of_map (rastered ir (output_at ir 0)) (λ f. f ∷ []) frames ∙ pieces_same (λ f. rastered ir (output_at ir 0) (f ∷ [])) _ (IsSampled p.size bits) frames frame_shown ok)

  -- the program gives at least as many samples
  pub shown_long : (whole : List ℕ) → length whole ≤ length (shown_by p whole)
  shown_long whole =
      let frames = padded_frames p.size whole in
      let piece : List ℕ → List ℕ = λ frame. flat_map (λ (image : Image). image.samples) (output_images p.size (types_of p) p.outputs (meaning_on p (frame ∷ []))) in
      let enough = frames_enough (area p.size) (length whole) some in
      let count : length frames ≡ frame_count p.size (length whole) = length-map-range_with_len _ 0 (frame_count p.size (length whole)) in
      let all : length (shown_by p whole) ≡ length frames * area p.size = pieces_length piece (area p.size) piece_long frames in
      let e : length frames * area p.size ≡ frame_count p.size (length whole) * area p.size = ap (λ n. n * area p.size) count in
      omega (arith, enough, all, e)
    where
      piece_long : (frame : List ℕ) → length (flat_map (λ (image : Image). image.samples) (output_images p.size (types_of p) p.outputs (meaning_on p (frame ∷ [])))) ≡ area p.size
      piece_long frame =
          let (g, one) = only_item p.outputs outputs in
          ap (λ gs. length (flat_map (λ (image : Image). image.samples) (output_images p.size (types_of p) gs (meaning_on p (frame ∷ []))))) one
          ∙ ap length (append-nil (raster p.size (picture_at (meaning_on p (frame ∷ [])) g)))
          ∙ length-raster p.size _
