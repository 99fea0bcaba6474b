-- The theorem of the compiler, from what is proved of a compiled text.
use Rattle.std.proofs.Common.{mul-pos, ◌≡◌, ◌⊎◌, inl, inr, arith, ℕ, suc, ◌+◌, ◌-◌, ◌*◌, ◌/◌, ◌^◌, ◌<◌, ◌≤◌, Bool, true, false, List, [], ◌∷◌, ◌++◌, length, map, Option, None, refl, sym, ap, subst, ◌∙◌}
use Rattle.std.specs.Prelude.{ℤ, pos, slice_index, slice_index_or, All, IsTrue, not, ◌&&◌, nat_le, if◌then◌else◌}
use Rattle.std.specs.List.{AllZip}
use Rattle.std.proofs.Math.Nat.{mul-div_cancel}
use Rattle.std.proofs.lemmas.List.{length-map}
use Rattle.std.proofs.lemmas.List.Elements.{All-get_or, All-weaker}
use Rattle.std.proofs.lemmas.Nat.{div_below}
use Rattle.dk_base.specs.declared.ty.Ty.{Ty}
use Rattle.dk_base.specs.declared.ty.Ty.TheVariants.{Unsigned}
use Rattle.dk_base.specs.Types.{width_of}
use Rattle.dk_base.specs.Frames.{Size, Picture, area, column, row, frame_of, picture_at, pixel_of}
use Rattle.dk_types.specs.declared.typed.TypedInput.{TypedInput}
use Rattle.dk_types.specs.Typed.{Typing, input_types}
use Rattle.wiring.specs.declared.netlist.Net.{Net}
use Rattle.wiring.specs.declared.netlist.Shape.{Shape}
use Rattle.wiring.specs.Netlist.{Netlist, first_din}
use Rattle.wiring.specs.Rules.{with_valids}
use Rattle.wiring.specs.BufferBits.{array_bits, IsBufferBits}
use Rattle.wiring.specs.Snapshot.{Contents, Snapshot, Fit, FitsContents, HasPlaces}
use Rattle.wiring.specs.Clock.{Clock, bit}
use Rattle.wiring.specs.History.{was_reset, is_held, counted}
use Rattle.wiring.specs.Runs.{Runs, RunStops}
use Rattle.netlist.specs.Names.{NamedNetlist, clock_name, names_after_clock, output_names}
use Rattle.net_build.specs.Runs.{IsWhole, IsReady}
use Rattle.pointwise_ir.specs.declared.program.Input.{Input}
use Rattle.pointwise_ir.specs.Programs.{Program, bodies_of}
use Rattle.pointwise_ir.specs.Meaning as R
use Rattle.pointwise_ir.proofs.Pictured.{first_pictures}
use Rattle.raster_delay.specs.Systems.{System, bits}
use Rattle.flow_dual.specs.declared.solution.Solution.{Solution}
use Rattle.buffer_plan.specs.Plans.{Plan, latency_of, bits_of}
use Rattle.circuit.specs.Rounds.{AreRounds, type_at}
use Rattle.circuit.specs.Behaviour.{HasPorts}
use Rattle.circuit.specs.Driven.{Drives, Agree, driven, input_widths}
use Rattle.dk_compile.specs.Fronts.{IsForm}
use Rattle.dk_compile.specs.Limits.{IsAcceptedAt}
use Rattle.dk_compile.specs.Compiled.{IsPlanned, IsCompiled}
use Rattle.dk_compile.specs.Packed.{ahead_bits}
use Rattle.same_phases.specs.Phases.{IsRound, output_picture}
use Rattle.dk_compile.specs.Correct.{Frames, frame_at, Carries, type_of_image, HasProgramPorts, ShowsPictures, IsCorrect}
use Rattle.dk_compile.proofs.Same.{long_inputs, round_of_form, by_form}

zip_length : {A B : Type 0} (R : A → B → Type 0) (xs : List A) (ys : List B) → AllZip R xs ys → length ys ≡ length xs
zip_length R [] [] h = refl
zip_length R [] (y ∷ ys) h = absurd h
zip_length R (x ∷ xs) [] h = absurd h
zip_length R (x ∷ xs) (y ∷ ys) h = ap suc (zip_length R xs ys h.1)

two_each : (widths : List ℕ) → length (with_valids widths) ≡ length widths * 2
two_each [] = refl
two_each (w ∷ widths) =
    let rest = two_each widths in
    let both : suc (suc (length (with_valids widths))) ≡ suc (length widths) * 2 = omega (arith, rest) in
    both

-- from contents that fit a run goes on or stops
abbrev pub RunsOrStops : Type 0
RunsOrStops = (m : Netlist) → IsWhole m m → (from : Contents) (clocks : List Clock) → HasPlaces m from
    → ((shots : List Snapshot) × (to : Contents) × Runs m from clocks shots to) ⊎ ((shots : List Snapshot) × (x : ℕ) × (i : ℕ) × RunStops m from clocks shots x i)

have_places : (m : Netlist) (from : Contents) → FitsContents m from → HasPlaces m from
have_places m from fits = record { regs = zip_length (λ w v. v < 2 ^ w) m.regs from.regs fits.regs; arrays = zip_length (λ (s : Shape) words. (length words ≡ s.depth) × All (λ w. w < 2 ^ s.width) words) m.arrays from.arrays fits.arrays }

-- a run that does not stop goes on
goes : {A B : Type 0} → A ⊎ B → (B → ⊥) → A
goes (inl a) never = a
goes (inr b) never = absurd (never b)

-- a held clock is no reset, and no output is valid in it
held_valid : (reset held late : Bool) → IsTrue held → bit ((not reset && not held) && late) ≡ 0
held_valid true true late is = refl
held_valid false true late is = refl
held_valid reset false late is = absurd (let never : ⊥ = cc in never)

after_reset : (c : Clock) (before : List Clock) → IsTrue (was_reset before) → IsTrue (was_reset (c ∷ before))
after_reset c before was = either c.reset (was_reset before) was
  where
    either : (reset was : Bool) → IsTrue was → IsTrue (if reset then true else was)
    either true was is = refl
    either false was is = is

ready : (copies : List ℕ) (before : List Clock) → IsTrue (was_reset before) → IsReady copies before
ready [] before was = tt
ready (r ∷ copies) before was = was

-- a text that is planned is accepted
abbrev pub PlannedIsAccepted : Type 0
PlannedIsAccepted = (text : List ℕ) (age : ℕ) (p : Typing) (ir : Program) (s : System) (x : Solution) (plan : Plan) → IsPlanned text age p ir s x plan → IsAcceptedAt text age p

module _ (p : Typing) (ir : Program) (form : IsForm p ir) where
  inputs_are : length ir.inputs ≡ length p.inputs
  inputs_are = long_inputs p ir form

  widths_are : input_widths ir ≡ map width_of (input_types p.inputs)
  widths_are = sym (each ir.inputs) ∙ ap (map width_of) form.inputs
    where
      each : (is : List Input) → map width_of (map (λ (i : Input). i.ty) is) ≡ map (λ (i : Input). width_of i.ty) is
      each [] = refl
      each (i ∷ is) = ap (λ ws. width_of i.ty ∷ ws) (each is)

  fit_same : (dins : List (List ℕ)) → All (Fit (map width_of (input_types p.inputs))) dins → All (Fit (input_widths ir)) dins
  fit_same dins fit = subst (λ (ws : List ℕ). All (Fit ws) dins) (sym widths_are) fit

  rounds_are : (frames : Frames) → All (IsRound p) frames → AreRounds ir frames
  rounds_are frames are = All-weaker (IsRound p) (R.IsRound ir) (λ round is. round_of_form p ir form round is) frames are

  -- pixel q of frames is in one of them
  frame_there : (frames : Frames) (q : ℕ) → 0 < area p.size → q < length frames * area p.size → frame_of p.size q < length frames
  frame_there frames q some low = div_below q (area p.size) (length frames) some low

  -- the pictures of an input are its frames
  input_is : (frames : Frames) (k f : ℕ) → All (IsRound p) frames → f < length frames → k < length p.inputs → picture_at (R.pictures ir (frame_at frames f)) k ≡ picture_at (frame_at frames f) k
  input_is frames k f are there low =
      let round = All-get_or (IsRound p) frames f [] there are in
      first_pictures ir.size (bodies_of ir) (frame_at frames f) k (subst (λ (n : ℕ). k < n) (sym round.one_each) low)

  -- pixel q of pictures, where the frame's sides and the picture there are others
  pixel_same : (a b : Size) (one other : ℕ → Picture) (q : ℕ) → a ≡ b → ((x y : ℤ) → one (frame_of b q) x y ≡ other (frame_of b q) x y) → pixel_of a one q ≡ pixel_of b other q
  pixel_same a b one other q same here = ap (λ (s : Size). pixel_of s one q) same ∙ here (pos (column b q)) (pos (row b q))

  agrees : (frames : Frames) (dins : List (List ℕ)) → 0 < area p.size → All (IsRound p) frames → Carries p frames dins → Agree ir frames dins
  agrees frames dins some are carries k q low within there =
      let k_low : k < length p.inputs = subst (λ (n : ℕ). k < n) inputs_are low in
      let q_low : q < length frames * area p.size = subst (λ (s : Size). q < length frames * area s) form.size there in
      carries k q k_low within q_low
      ∙ sym (pixel_same ir.size p.size (λ f. picture_at (R.pictures ir (frame_at frames f)) k) (λ f. picture_at (frame_at frames f) k) q form.size
      (λ x y. ap (λ (picture : Picture). picture x y) (input_is frames k (frame_of p.size q) are (frame_there frames q some q_low) k_low)))

  -- the widths of what comes after `rst`, with `en` or without it
  widths_after : (enable : Bool) (ws vs : List ℕ) → ws ≡ vs → 1 ∷ (if enable then 1 ∷ ws else ws) ≡ 1 ∷ (if enable then 1 ∷ vs else vs)
  widths_after enable ws vs same = ap (λ (xs : List ℕ). 1 ∷ (if enable then 1 ∷ xs else xs)) same

  din_count : (enable : Bool) (ws : List ℕ) → length (1 ∷ (if enable then 1 ∷ ws else ws)) - (if enable then 2 else 1) ≡ length ws
  din_count true ws = let e : suc (suc (length ws)) - 2 ≡ length ws = omega arith in e
  din_count false ws = let e : suc (length ws) - 1 ≡ length ws = omega arith in e

  outputs_are : map (λ g. width_of (type_at ir g)) ir.outputs ≡ map (λ g. width_of (type_of_image p g)) p.outputs
  outputs_are =
      ap (λ (ts : List Ty). map (λ g. width_of (slice_index_or ts g (Unsigned 1))) ir.outputs) form.types
      ∙ ap (map (λ g. width_of (type_of_image p g))) form.outputs

  ports : (m : Netlist) (enable : Bool) → HasPorts m ir enable → HasProgramPorts m p enable
  ports m enable has = record {
    enable_is = has.enable_is;
    names = ap (λ (n : ℕ). (clock_name ∷ names_after_clock m.enable n) ++ output_names 0 (length m.outputs / 2)) dins
        ∙ ap (λ (e : Bool). (clock_name ∷ names_after_clock e (length p.inputs)) ++ output_names 0 (length m.outputs / 2)) has.enable_is
        ∙ ap (λ (n : ℕ). (clock_name ∷ names_after_clock enable (length p.inputs)) ++ output_names 0 n) douts;
    inputs = inputs;
    outputs = outputs;
  }
    where
      widths : List ℕ
      widths = map width_of (input_types p.inputs)

      inputs : m.inputs ≡ 1 ∷ (if enable then 1 ∷ widths else widths)
      inputs = has.inputs ∙ widths_after enable (input_widths ir) widths widths_are

      outputs : m.outputs ≡ with_valids (map (λ g. width_of (type_of_image p g)) p.outputs)
      outputs = has.outputs ∙ ap with_valids outputs_are

      dins : length m.inputs - first_din m ≡ length p.inputs
      dins =
          ap (λ (xs : List ℕ). length xs - first_din m) inputs
          ∙ ap (λ (e : Bool). length (1 ∷ (if enable then 1 ∷ widths else widths)) - (if e then 2 else 1)) has.enable_is
          ∙ din_count enable widths
          ∙ length-map (input_types p.inputs) width_of
          ∙ length-map p.inputs (λ (i : TypedInput). i.ty)

      douts : length m.outputs / 2 ≡ length p.outputs
      douts =
          ap (λ (xs : List ℕ). length xs / 2) outputs
          ∙ ap (λ (n : ℕ). n / 2) (two_each (map (λ g. width_of (type_of_image p g)) p.outputs))
          ∙ mul-div_cancel (length (map (λ g. width_of (type_of_image p g)) p.outputs)) (let some : 0 < 2 = omega arith in some)
          ∙ length-map p.outputs (λ g. width_of (type_of_image p g))

  shows : RunsOrStops → (m : Netlist) (plan : Plan) → IsWhole m m → 0 < area p.size → Drives m ir plan → ShowsPictures m p (latency_of plan)
  shows go m plan whole some d = record {
    runs = λ from dins fits fit.
        goes (go m whole from (driven (length p.inputs) dins) (have_places m from fits))
        (λ (shots, array, index, stops). d.never from dins shots array index fits (fit_same dins fit) (subst (λ (n : ℕ). RunStops m from (driven n dins) shots array index) (sym inputs_are) stops));
    goes_on = λ from dins shots array index fits fit stops. d.never from dins shots array index fits (fit_same dins fit) (subst (λ (n : ℕ). RunStops m from (driven n dins) shots array index) (sym inputs_are) stops);
    valid = λ dins shots is k c s low at. d.valid is.from is.to dins shots is.contents (fit_same dins is.numbers) (runs_same is.from is.to dins shots is.run) k c s (output_low k low) at;
    dout = λ dins shots is frames are carries k q s low at within.
        d.dout is.from is.to dins shots is.contents (fit_same dins is.numbers) (runs_same is.from is.to dins shots is.run) frames (rounds_are frames are) (agrees frames dins some are carries) k q s (output_low k low) at (subst (λ (z : Size). q < length frames * area z) (sym form.size) within)
        ∙ pixel_same ir.size p.size (λ f. picture_at (R.pictures ir (frame_at frames f)) (slice_index ir.outputs k)) (λ f. output_picture p (frame_at frames f) k) q form.size
        (λ x y. by_form p ir form (frame_at frames (frame_of p.size q)) (round_of_form p ir form (frame_at frames (frame_of p.size q)) (All-get_or (IsRound p) frames (frame_of p.size q) [] (frame_there frames q some within) are)) k low x y);
  }
    where
      runs_same : (from to : Contents) (dins : List (List ℕ)) (shots : List Snapshot) → Runs m from (driven (length p.inputs) dins) shots to → Runs m from (driven (length ir.inputs) dins) shots to
      runs_same from to dins shots run = subst (λ (n : ℕ). Runs m from (driven n dins) shots to) (sym inputs_are) run

      output_low : (k : ℕ) → k < length p.outputs → k < length ir.outputs
      output_low k low = subst (λ (gs : List ℕ). k < length gs) (sym form.outputs) low

pub compiled_correct : RunsOrStops → PlannedIsAccepted → (source : List ℕ) (age : ℕ) (enable : Bool) (block : Option ℕ) (p : Typing) (ir : Program) (system : System) (solution : Solution) (plan : Plan) (m : NamedNetlist) (nets reads : List Net) (verilog : List ℕ) →
    IsCompiled source age enable block p ir system solution plan m nets reads verilog → IsCorrect source age enable block verilog
compiled_correct go accepted source age enable block p ir system solution plan m nets reads verilog c = record {
  program = p;
  accepted = accepted source age p ir system solution plan c.planned;
  «module» = m;
  denotes = c.printed.stands;
  only = c.printed.only;
  ports = ports p ir c.planned.has.front.form m.netlist enable c.circuit.ports;
  plan = record { system = system; delays = solution.delays };
  shows = subst (λ (q : Plan). ShowsPictures m.netlist p (latency_of q)) c.planned.plan_is (shows p ir c.planned.has.front.form go m.netlist plan c.circuit.whole some_area c.circuit.drives);
  still = record {
    valid = λ from before clock s at was held k low.
        c.circuit.behaves.valid k (subst (λ (gs : List ℕ). k < length gs) (sym c.planned.has.front.form.outputs) low) from before clock s at (after_reset clock before was)
        ∙ held_valid clock.reset (is_held m.netlist clock) (nat_le (latency_of plan k) (length (counted m.netlist before))) held;
    state = λ from before clock s at was held next is. c.circuit.behaves.held from before clock s at (ready c.circuit.circuit.copies before was) held next is;
  };
  form = ir;
  has = c.planned.has;
  vector = c.planned.solved.vector;
  all = λ none. subst (λ (n : Netlist). IsBufferBits n (array_bits n.arrays)) (sym (c.circuit.none none)) (plain none);
  ahead = λ k is. subst (λ (n : ℕ). k ≤ n + ahead_bits block m.netlist.arrays) (sym (c.circuit.packing.arrays ∙ c.circuit.circuit.bits.arrays)) (c.circuit.bits k is);
  least = λ delays causal. subst (λ (n : ℕ). n ≤ bits system delays) (sym own_bits) (c.planned.solved.vector.least_bits delays causal);
}
  where
    is_ir_frame : 0 < area ir.size
    is_ir_frame =
        let frame = c.planned.within.system.stencils.frame in
        let stencils = c.planned.has.front.stencils in
        subst (λ (w : ℕ). 0 < w * ir.size.height) (ap (λ (q : Plan). q.system.stencils.width) c.planned.plan_is ∙ stencils.width)
        (subst (λ (h : ℕ). 0 < plan.system.stencils.width * h) (ap (λ (q : Plan). q.system.stencils.height) c.planned.plan_is ∙ stencils.height) (mul-pos frame.some_columns frame.some_rows))

    some_area : 0 < area p.size
    some_area = subst (λ (s : Size). 0 < area s) c.planned.has.front.form.size is_ir_frame

    own_bits : array_bits m.netlist.arrays ≡ bits system solution.delays
    own_bits = c.circuit.packing.arrays ∙ c.circuit.circuit.bits.arrays ∙ ap bits_of c.planned.plan_is

    plain : block ≡ None → IsBufferBits c.circuit.unpacked (array_bits c.circuit.unpacked.arrays)
    plain none = subst (λ (n : ℕ). IsBufferBits c.circuit.unpacked n) (sym c.circuit.circuit.bits.arrays) (c.circuit.circuit.bits.plain (c.circuit.circuit.none none))
