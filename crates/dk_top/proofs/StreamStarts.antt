-- What a stream asks of a module: a compiled one of one input and one output can be streamed.
use Rattle.std.proofs.Common.{◌≡◌, ℕ, ◌-◌, ◌*◌, ◌^◌, ◌<◌, ◌≤◌, true, false, List, [], ◌∷◌, ◌++◌, length, map, All, None, Some, slice_get, slice_index, slice_index_or, if◌then◌else◌, Bool, refl, sym, ap, ◌∙◌, subst, arith}
use Rattle.std.specs.List.{AllByRecursion}
use Rattle.std.proofs.lemmas.List.{length-map}
use Rattle.std.proofs.lemmas.List.Elements.{All-nil, All-cons}
use Rattle.std.proofs.lemmas.Nat.{pow_pos}
use Rattle.std.proofs.Math.Pow.{pow_mono}
use Rattle.circuit.specs.Rounds.{type_at}
use Rattle.dk_base.specs.declared.TheConstants.{MAX_PORT_WIDTH}
use Rattle.dk_base.specs.declared.ty.Ty.{Ty}
use Rattle.dk_base.specs.declared.ty.Ty.TheVariants.{Unsigned, Signed}
use Rattle.dk_base.specs.Types.{IsPort, width_of}
use Rattle.dk_types.specs.declared.typed.TypedInput.{TypedInput}
use Rattle.dk_types.specs.Typed.{Typing, types_of}
use Rattle.dk_types.specs.Kept.{ArePorts}
use Rattle.wiring.specs.Netlist.{Netlist, net_width, dout_net}
use Rattle.wiring.specs.Snapshot.{Contents, Snapshot, Fit}
use Rattle.wiring.specs.Clock.{Clock, given, Stops}
use Rattle.wiring.specs.Runs.{Runs, RunStops}
use Rattle.cycle_sim.specs.Ports.{din_widths}
use Rattle.cycle_sim.specs.declared.fill.Fill.TheVariants.{Zeros}
use Rattle.cycle_sim.specs.Filled.{filled_contents}
use Rattle.program_images.specs.Ports.{bits_of}
use Rattle.stimulus.proofs.Streams.{read_at}
use Rattle.row_stream.specs.Lines.{Kind}
use Rattle.row_stream.specs.Standing.{IsOneToOne, IsPixelClock, Starts, reset_clock}
use Rattle.netlist.specs.Names.{NamedNetlist}
use Rattle.buffer_plan.specs.Plans.{latency}
use Rattle.dk_desk.specs.Outside.{Outside}
use Rattle.dk_endings.specs.declared.ending.Ending.{Ending}
use Rattle.dk_top.specs.Streams.{RunsStream}
use Rattle.dk_compile.specs.declared.compiling.Compiled.{Compiled}
use Rattle.dk_top.specs.Compiling.{IsCompiledFrom}
use Rattle.dk_top.specs.Streaming.{IsOnePort, first_bits, output_kind}
use Rattle.dk_top.proofs.DrivePorts.{two_each, output_typed, power_up_fits}
use Rattle.dk_top.proofs.DriveLemmas as D
use Rattle.dk_top.proofs.StreamLemmas as S
use Rattle.dk_top.proofs.StreamDone.{inputs, greatest_is}

-- the width of a port
port_width : (t : Ty) → IsPort t → (1 ≤ width_of t) × (width_of t ≤ MAX_PORT_WIDTH)
port_width (Unsigned n) port = port
port_width (Signed n) port = absurd port

-- the greatest number of 1 to 16 bits
greatest_bounds : (n : ℕ) → 1 ≤ n → n ≤ MAX_PORT_WIDTH → (0 < 2 ^ n - 1) × (2 ^ n - 1 < 2 ^ 16)
greatest_bounds n some few =
    let low : 2 ^ 1 ≤ 2 ^ n = pow_mono some in
    let high : 2 ^ n ≤ 2 ^ 16 = pow_mono few in
    (omega (arith, low), omega (arith, low, high))

-- what the ports get in a clock fits them
abbrev FitsPorts : Netlist → Clock → Type 0
FitsPorts m k = Fit m.inputs (given m k)

-- a run, and a clock that stops after it
run_then_stop : (m : Netlist) (from to : Contents) (clocks : List Clock) (shots : List Snapshot) (c : Clock) (array index : ℕ) → Runs m from clocks shots to → Stops m to (given m c) array index → RunStops m from (clocks ++ c ∷ []) shots array index
run_then_stop m from to [] [] c array index runs stops = subst (λ (x : Contents). Stops m x (given m c) array index) (sym runs) stops
run_then_stop m from to [] (s ∷ shots) c array index runs stops = absurd runs
run_then_stop m from to (d ∷ clocks) [] c array index runs stops = absurd runs
run_then_stop m from to (d ∷ clocks) (s ∷ shots) c array index runs stops = (runs.0, runs.1, run_then_stop m runs.0 to clocks shots c array index runs.2 stops)

module _ (source : List ℕ) (age : ℕ) (c : Compiled) (from : IsCompiledFrom source age false None c) (one : IsOnePort from.program) where
  abbrev q : Typing
  q = from.program

  abbrev m : Netlist
  m = (c.«module»).netlist

  abbrev bits : ℕ
  bits = first_bits q

  widths : Rattle.circuit.specs.Driven.input_widths c.ir ≡ bits ∷ []
  widths = S.one_width source age false None q c.ir c.system c.solution c.plan c.«module» c.nets.items c.reads.items c.text.items from.is bits (inputs source age c from one) one.output

  pub dins : din_widths m ≡ bits ∷ []
  dins = D.din_widths_are source age false None q c.ir c.system c.solution c.plan c.«module» c.nets.items c.reads.items c.text.items from.is ∙ widths

  pub inputs_are : m.inputs ≡ 1 ∷ bits ∷ []
  inputs_are = from.is.circuit.ports.inputs ∙ ap (λ ws. 1 ∷ ws) widths

  pub outputs_count : length m.outputs ≡ 2
  outputs_count =
      let f : ℕ → ℕ = λ g. width_of (type_at c.ir g) in
      ap length from.is.circuit.ports.outputs ∙ (two_each (map f c.ir.outputs) ∙ (ap (λ n. n * 2) (length-map c.ir.outputs f ∙ (ap length (from.is.planned.has.front).form.outputs ∙ one.output)) ∙ (let e : 1 * 2 ≡ 2 = omega arith in e)))

  pub fit : (s : ℕ) → s ≤ 2 ^ bits - 1 → Fit (din_widths m) (s ∷ [])
  fit s low = subst (λ ws. Fit ws (s ∷ [])) (sym dins) (let some = pow_pos bits in omega (arith, low, some), tt)

  pub few_bits : bits ≤ MAX_PORT_WIDTH
  few_bits = by q.inputs one.input (D.is_typed source age false None q c.ir c.system c.solution c.plan c.«module» c.nets.items c.reads.items c.text.items from.is).inputs
    where
      by : (is : List TypedInput) → length is ≡ 1 → ArePorts is → slice_index_or (map width_of (map (λ (i : TypedInput). i.ty) is)) 0 0 ≤ MAX_PORT_WIDTH
      by [] none h = absurd (let e : ⊥ = omega (arith, none) in e)
      by (i ∷ is) single h = (port_width i.ty h.0).1

  -- the width of the dout
  dout : (1 ≤ net_width m (dout_net 0)) × (net_width m (dout_net 0) ≤ MAX_PORT_WIDTH)
  dout =
      let (g, only) = S.only_item q.outputs one.output in
      let at : slice_get q.outputs 0 ≡ Some g = ap (λ gs. slice_get gs 0) only in
      let typed = D.is_typed source age false None q c.ir c.system c.solution c.plan c.«module» c.nets.items c.reads.items c.text.items from.is in
      let is = output_typed (types_of q) q.outputs typed.outputs 0 g at in
      let w : bits_of (types_of q) g ≡ width_of is.ty = ap width_of (read_at (types_of q) g is.ty (Unsigned 0) is.image) in
      let e = D.dout_width_is source age false None q c.ir c.system c.solution c.plan c.«module» c.nets.items c.reads.items c.text.items from.is 0 g at ∙ w in
      let p = port_width is.ty is.port in
      (subst (λ n. 1 ≤ n) (sym e) p.0, subst (λ n. n ≤ MAX_PORT_WIDTH) (sym e) p.1)

  pub dout_few : net_width m (dout_net 0) ≤ MAX_PORT_WIDTH
  dout_few = dout.1

  pub one_to_one : IsOneToOne (output_kind q) m
  one_to_one =
      let whole = from.is.circuit.whole in
      let bounds = greatest_bounds (net_width m (dout_net 0)) dout.0 dout.1 in
      let g = greatest_is source age c from one in
      record {
        rules = whole.rules;
        order = whole.order;
        ordered = whole.ordered;
        one = outputs_count;
        maxval = sym g;
        some = subst (λ n. 0 < n) g bounds.0;
        small = subst (λ n. n < 2 ^ 16) g bounds.1;
      }

  enable_is : m.enable ≡ false
  enable_is = from.is.circuit.ports.enable_is

  -- what the ports get fits them
  ports_fit : (k : Clock) → Fit (din_widths m) k.dins → FitsPorts m k
  ports_fit k fits =
      let given_is : given m k ≡ Rattle.wiring.specs.Clock.bit k.reset ∷ k.dins = ap (λ b. Rattle.wiring.specs.Clock.bit k.reset ∷ (if b then Rattle.wiring.specs.Clock.bit k.enable ∷ k.dins else k.dins)) enable_is in
      subst (λ ns. Fit m.inputs ns) (sym given_is) (subst (λ ws. Fit ws (Rattle.wiring.specs.Clock.bit k.reset ∷ k.dins)) (sym inputs_are) (bit_low k.reset, subst (λ ws. Fit ws k.dins) dins fits))
    where
      bit_low : (b : Bool) → Rattle.wiring.specs.Clock.bit b < 2 ^ 1
      bit_low true = omega arith
      bit_low false = omega arith

  all_ports : (clocks : List Clock) (k : Clock) → AllByRecursion (IsPixelClock m) clocks → IsPixelClock m k → All (FitsPorts m) (clocks ++ k ∷ [])
  all_ports [] k h is = All-cons (FitsPorts m) k [] (ports_fit k is.1) (All-nil (FitsPorts m))
  all_ports (d ∷ clocks) k h is = All-cons (FitsPorts m) d (clocks ++ k ∷ []) (ports_fit d h.0.1) (all_ports clocks k h.1 is)

  zero_fits : Fit (din_widths m) (0 ∷ [])
  zero_fits = fit 0 (omega arith)

  pub starts : Starts m (filled_contents Zeros m)
  starts = record {
    on = λ array index stops. from.is.circuit.runs.no_stop (filled_contents Zeros m) (reset_clock ∷ []) [] array index (power_up_fits m) (All-cons (FitsPorts m) reset_clock [] (ports_fit reset_clock zero_fits) (All-nil (FitsPorts m))) (reset_clock, refl, refl) stops;
    lasts = λ s to steps. record {
      on = λ clocks shots after pixels runs k is array index stops.
          from.is.circuit.runs.no_stop (filled_contents Zeros m) (reset_clock ∷ (clocks ++ k ∷ [])) (s ∷ shots) array index (power_up_fits m) (All-cons (FitsPorts m) reset_clock (clocks ++ k ∷ []) (ports_fit reset_clock zero_fits) (all_ports clocks k pixels is)) (reset_clock, refl, refl)
          (to, steps, run_then_stop m to after clocks shots k array index runs stops);
    };
  }

  -- the same of the module under another name
  module _ (again : NamedNetlist) (same : again ≡ c.«module») where
    pub inputs_two : length again.netlist.inputs ≡ 2
    inputs_two = ap (λ (x : NamedNetlist). length x.netlist.inputs) same ∙ ap length inputs_are

    pub outputs_two : length again.netlist.outputs ≡ 2
    outputs_two = ap (λ (x : NamedNetlist). length x.netlist.outputs) same ∙ outputs_count

    pub dout_small : (w : ℕ) → w ≡ slice_index again.netlist.outputs 1 → w ≤ MAX_PORT_WIDTH
    dout_small w is = subst (λ n. n ≤ MAX_PORT_WIDTH) (sym (is ∙ ap (λ (x : NamedNetlist). slice_index x.netlist.outputs 1) same)) dout_few

    pub din_is : (w : ℕ) → w ≡ slice_index again.netlist.inputs 1 → w ≡ bits
    din_is w is = is ∙ (ap (λ (x : NamedNetlist). slice_index x.netlist.inputs 1) same ∙ ap (λ ws. slice_index ws 1) inputs_are)

    pub bits_as : (w : ℕ) → w ≡ slice_index again.netlist.inputs 1 → w ≤ MAX_PORT_WIDTH
    bits_as w is = subst (λ n. n ≤ MAX_PORT_WIDTH) (sym (din_is w is)) few_bits

    pub kind_is : (k : Kind) (w : ℕ) → k.size ≡ c.ir.size → k.maxval ≡ 2 ^ w - 1 → w ≡ slice_index again.netlist.outputs 1 → k ≡ output_kind q
    kind_is k w size maxval is =
        ap (λ s. record k { size = s }) (size ∙ (from.is.planned.has.front).form.size)
        ∙ ap (λ n. record k { size = q.size; maxval = n }) (maxval ∙ (ap (λ n. 2 ^ n - 1) (is ∙ ap (λ (x : NamedNetlist). slice_index x.netlist.outputs 1) same) ∙ greatest_is source age c from one))

    pub one_as : (k : Kind) (n : Netlist) → k ≡ output_kind q → n ≡ again.netlist → IsOneToOne k n
    one_as k n kinds nets = subst (λ (x : Netlist). IsOneToOne k x) (sym (nets ∙ ap (λ (x : NamedNetlist). x.netlist) same)) (subst (λ (x : Kind). IsOneToOne x m) (sym kinds) one_to_one)

    pub fit_as : (w : ℕ) (n : Netlist) → w ≡ slice_index again.netlist.inputs 1 → n ≡ again.netlist → (s : ℕ) → s ≤ 2 ^ w - 1 → Fit (din_widths n) (s ∷ [])
    fit_as w n is nets s low = subst (λ (x : Netlist). Fit (din_widths x) (s ∷ [])) (sym (nets ∙ ap (λ (x : NamedNetlist). x.netlist) same)) (fit s (subst (λ b. s ≤ 2 ^ b - 1) (din_is w is) low))

    pub starts_as : (n : Netlist) (stored : Contents) → n ≡ again.netlist → stored ≡ filled_contents Zeros again.netlist → Starts n stored
    starts_as n stored nets holds =
        subst (λ (x : Contents). Starts n x) (sym (holds ∙ ap (λ (x : NamedNetlist). filled_contents Zeros x.netlist) same)) (subst (λ (x : Netlist). Starts x (filled_contents Zeros m)) (sym (nets ∙ ap (λ (x : NamedNetlist). x.netlist) same)) starts)

    -- what is said of the stream is said of it in words of the program
    pub runs_as : (k : Kind) (n : Netlist) (w l : ℕ) (stored : Contents) (image out : List ℕ) (old new : Outside) (result : Ending) → k ≡ output_kind q → n ≡ again.netlist → w ≡ slice_index again.netlist.inputs 1 → l ≡ latency c.plan → stored ≡ filled_contents Zeros again.netlist
        → RunsStream k n w l image out stored old new result → RunsStream (output_kind q) again.netlist bits (latency c.plan) image out (filled_contents Zeros again.netlist) old new result
    runs_as k n w l stored image out old new result kinds nets is late holds h =
        subst (λ (x : Contents). RunsStream (output_kind q) again.netlist bits (latency c.plan) image out x old new result) holds
        (subst (λ x. RunsStream (output_kind q) again.netlist bits x image out stored old new result) late
        (subst (λ x. RunsStream (output_kind q) again.netlist x l image out stored old new result) (din_is w is)
        (subst (λ (x : Netlist). RunsStream (output_kind q) x w l image out stored old new result) nets
        (subst (λ (x : Kind). RunsStream x n w l image out stored old new result) kinds h))))
