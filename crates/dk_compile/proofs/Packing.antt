-- A module that simulates a circuit does in its own runs what the circuit does.
use Rattle.std.proofs.Common.{◌≡◌, ℕ, ◌+◌, Bool, true, ◌<◌, ◌≤◌, List, [], ◌∷◌, length, map, refl, sym, ap, subst, ◌∙◌, Option, None, Some, arith}
use Rattle.std.specs.Prelude.{IsTrue, nat_le, not, ◌&&◌, if◌then◌else◌, slice_index, slice_get, replicate, All}
use Rattle.std.proofs.lemmas.List.Elements.{All-nil, All-cons, All-head, All-tail}
use Rattle.std.proofs.lemmas.List.{get_or-take}
use Rattle.std.proofs.lemmas.Option.{slice_get_within}
use Rattle.dk_base.specs.declared.stencils.LiveRead.{LiveRead}
use Rattle.wiring.specs.declared.netlist.Net.{Net}
use Rattle.wiring.specs.declared.netlist.Net.TheVariants.{Input, Output, Wire, Reg}
use Rattle.wiring.specs.declared.netlist.Shape.{Shape}
use Rattle.wiring.specs.BufferBits.{IsBufferBits}
use Rattle.wiring.specs.Netlist.{Netlist, dout_net}
use Rattle.wiring.proofs.BitCounts.{same_count}
use Rattle.module_pass.specs.Words.{word_bits}
use Rattle.line_buffer.specs.Indices.{is_long}
use Rattle.line_buffer.specs.Chains.{AreCopies}
use Rattle.circuit.specs.Modules.{HasBits}
use Rattle.dk_compile.proofs.Copied.{copies_within}
use Rattle.wiring.specs.Snapshot.{Contents, Snapshot, Fit, FitsContents, IsNext, net_value}
use Rattle.wiring.specs.Clock.{Clock, bit, given}
use Rattle.wiring.specs.History.{is_held, counted}
use Rattle.wiring.specs.Runs.{Runs}
use Rattle.wiring.specs.Order.{IsEvaluationOrder}
use Rattle.wiring.specs.Rules.{KeepsRules}
use Rattle.netlist.proofs.FitLaws.{contents_fit}
use Rattle.net_build.specs.Draft.{IsNet}
use Rattle.net_build.specs.Runs.{IsWhole, FitsPorts, IsClockOf, RunsOn}
use Rattle.net_build.proofs.Parts.{Includes-refl}
use Rattle.net_build.proofs.Runs.{clock_contents, clock_inputs}
use Rattle.array_packing.specs.declared.slots.Slot.{Slot}
use Rattle.module_pass.specs.Simulation.{View, seen, Simulates}
use Rattle.array_packing.specs.Packing.{IsPacking, packed, whole_slots}
use Rattle.module_pass.proofs.Following.{at_followed, run_followed, stop_followed}
use Rattle.array_packing.proofs.Simulating.{at_map, packed_simulates}
use Rattle.array_packing.proofs.Seen.{contents_seen}
use Rattle.array_packing.proofs.Whole.{whole_packing}
use Rattle.pointwise_ir.specs.Programs.{Program, IsProgram}
use Rattle.buffer_plan.specs.Plans.{Plan, bits_of, delay_of, depth_of, latency_of}
use Rattle.line_buffer.specs.Streams.{IsPixel, BufferIsRight}
use Rattle.line_buffer.specs.Places.{word_at}
use Rattle.circuit.specs.Runs.{IsRunning}
use Rattle.circuit.specs.Rounds.{Rounds, Feeds, pixel_count, pixel_bits}
use Rattle.circuit.specs.Taps.{Keeps}
use Rattle.circuit.specs.Forms.{Places}
use Rattle.circuit.specs.Behaviour.{HasPorts, ShowsPixels, net_of, read_net, AreReadNets, Behaves}
use Rattle.circuit.specs.Driven.{Drives, input_widths, driven}
use Rattle.circuit.proofs.Driven.{zeros_fit, given_fits, fed_fit}
use Rattle.dk_compile.specs.Circuits.{IsCircuitOf, form_with}
use Rattle.dk_compile.proofs.Deep.{packed_within}
use Rattle.dk_compile.proofs.Clocked.{paths_alike}
use Rattle.dk_compile.specs.Packed.{ShowsImage, BehavesAs, IsPackedCircuitOf, ahead_bits}

-- a net of the circuit has its value in the module too
abbrev pub KeepsNets : Netlist → View → Type 0
KeepsNets old v = (s : Snapshot) (n : Net) → IsNet old n → net_value (seen v s) n ≡ net_value s n

packed_nets : (old : Netlist) (slots : List Slot) → KeepsNets old (packed old slots)
packed_nets old slots s (Input k) is = refl
packed_nets old slots s (Output k) is = refl
packed_nets old slots s (Wire k) is = get_or-take (length old.wires) s.wires k 0 is.declared
packed_nets old slots s (Reg k) is = refl

-- contents that are seen alike are equal, if they fit
abbrev pub IsExact : Netlist → View → Type 0
IsExact m v = (c d : Contents) → FitsContents m c → FitsContents m d → v.contents c ≡ v.contents d → c ≡ d

module _ (m old : Netlist) (v : View) (sim : Simulates m old v) (whole : IsWhole m m) (old_whole : IsWhole old old) where
  held_alike : (c : Clock) → is_held m c ≡ is_held old c
  held_alike c = ap (λ (e : Bool). (e && not c.reset) && not c.enable) sim.enable

  counted_alike : (before : List Clock) → counted m before ≡ counted old before
  counted_alike [] = refl
  counted_alike (c ∷ before) =
      ap (λ (h : Bool). if c.reset then [] else if h then counted m before else c ∷ counted m before) (held_alike c)
      ∙ ap (λ (l : List Clock). if c.reset then [] else if is_held old c then l else c ∷ l) (counted_alike before)

  ports_alike : (c : Clock) → FitsPorts m c → FitsPorts old c
  ports_alike c fit =
      subst (λ (ws : List ℕ). Fit ws (given old c)) sim.inputs
      (subst (λ (e : Bool). Fit m.inputs (bit c.reset ∷ (if e then bit c.enable ∷ c.dins else c.dins))) sim.enable fit)

  all_alike : (clocks : List Clock) → All (FitsPorts m) clocks → All (FitsPorts old) clocks
  all_alike [] fit = All-nil (FitsPorts old)
  all_alike (c ∷ clocks) fit = All-cons (FitsPorts old) c clocks (ports_alike c (All-head (FitsPorts m) c clocks fit)) (all_alike clocks (All-tail (FitsPorts m) c clocks fit))

  clock_alike : (from : Contents) (before : List Clock) (c : Clock) (s : Snapshot) → IsClockOf m m from before c s → IsClockOf old old (v.contents from) before c (seen v s)
  clock_alike from before c s is = record {
    whole = old_whole;
    start = sim.fits from is.start;
    fit = all_alike (c ∷ before) is.fit;
    at = at_followed m old v sim whole.rules whole.order whole.ordered from before c s is.start is.fit is.at;
  }

  running_alike : (from : Contents) (before : List Clock) (c : Clock) (s : Snapshot) → IsRunning m m from before c s → IsRunning old old (v.contents from) before c (seen v s)
  running_alike from before c s is = record { clock = clock_alike from before c s is.clock; since = is.since; off = is.off; going = sym (held_alike c) ∙ is.going }

  feeds_alike : (p : Program) (rounds : Rounds) (history : List Clock) → Feeds m p rounds history → Feeds old p rounds history
  feeds_alike p rounds history feeds k q j input at low =
      ap (λ (cs : List Clock). slice_index (map (λ (d : Clock). slice_index d.dins k) cs) j) (sym (counted_alike history))
      ∙ feeds k q j input (at ∙ ap length (sym (counted_alike history))) low

  next_fits : (from : Contents) (before : List Clock) (c : Clock) (s : Snapshot) → IsClockOf m m from before c s → (next : Contents) → IsNext m s next → FitsContents m next
  next_fits from before c s is next is_next =
      contents_fit m whole.rules whole.order whole.ordered s is.at.snapshot.settled (clock_contents m m from before c s is) (clock_inputs m m from before c s is) next is_next

  next_alike : (from : Contents) (before : List Clock) (c : Clock) (s : Snapshot) → IsClockOf m m from before c s → (next : Contents) → IsNext m s next → IsNext old (seen v s) (v.contents next)
  next_alike from before c s is next is_next =
      sim.next s next (record { settled = is.at.snapshot.settled; contents = clock_contents m m from before c s is; inputs = clock_inputs m m from before c s is }) is_next

  shows_alike : (p : Program) (delay g : ℕ) (net : Net) → ((s : Snapshot) → net_value (seen v s) net ≡ net_value s net) → ShowsPixels old p delay g net → ShowsImage m p delay g net
  shows_alike p delay g net same shows from before c s is rounds are feeds =
      subst (λ (value : ℕ). IsPixel (pixel_bits p rounds g) (pixel_count p rounds) delay (length (counted m before)) value) (same s)
      (subst (λ (cs : List Clock). IsPixel (pixel_bits p rounds g) (pixel_count p rounds) delay (length cs) (net_value (seen v s) net)) (sym (counted_alike before))
      (shows old (v.contents from) before c (seen v s) (running_alike from before c s is) rounds are (feeds_alike p rounds (c ∷ before) feeds)))

  read_within : (plan : Plan) (reads : List Net) (k : ℕ) (r : LiveRead) → length reads ≡ length plan.system.stencils.reads → slice_get plan.system.stencils.reads k ≡ Some r → k < length reads
  read_within plan reads k r count at = subst (λ (n : ℕ). k < n) (sym count) (slice_get_within plan.system.stencils.reads k r at)

  pub behaves_alike : (p : Program) (plan : Plan) (places : Places) (copies : List ℕ) (nets reads : List Net) → IsExact m v → KeepsNets old v → Behaves old p plan places copies nets → ((g : ℕ) → Keeps plan g → IsNet old (net_of plan nets g)) → AreReadNets old p plan reads →
      BehavesAs m v p plan places copies nets reads
  behaves_alike p plan places copies nets reads exact keeps b nets_there reads_are = record {
    dout = λ k g at. shows_alike p (latency_of plan k) g (dout_net k) (λ s. refl) (b.dout k g at);
    net = λ g kept. shows_alike p (delay_of plan g) g (net_of plan nets g) (λ s. keeps s (net_of plan nets g) (nets_there g kept)) (b.net g kept);
    read = λ k age r at aged. shows_alike p (delay_of plan r.g + age) r.g (read_net reads k) (λ s. keeps s (read_net reads k) (reads_are.there k (read_within plan reads k r reads_are.one_each at))) (reads_are.shows k age r at aged);
    valid = λ k low from before c s is since.
        b.valid k low old (v.contents from) before c (seen v s) (clock_alike from before c s is) since
        ∙ ap (λ (h : Bool). bit ((not c.reset && not h) && nat_le (latency_of plan k) (length (counted old before)))) (sym (held_alike c))
        ∙ ap (λ (cs : List Clock). bit ((not c.reset && not (is_held m c)) && nat_le (latency_of plan k) (length cs))) (sym (counted_alike before));
    horizon = λ from before c s is since rounds are feeds g keeps.
        subst (λ (cs : List Clock). BufferIsRight (λ age t. word_at (v.contents s.contents) (places plan g age t)) (pixel_bits p rounds g) (pixel_count p rounds) (delay_of plan g) (depth_of plan g) (length cs)) (sym (counted_alike before))
        (b.horizon old (v.contents from) before c (seen v s) (clock_alike from before c s is) since rounds are (feeds_alike p rounds before feeds) g keeps);
    held = λ from before c s is ready held next is_next.
        exact next s.contents (next_fits from before c s is next is_next) (clock_contents m m from before c s is)
        (b.held old (v.contents from) before c (seen v s) (clock_alike from before c s is) refl ready (subst IsTrue (held_alike c) held) (v.contents next) (next_alike from before c s is next is_next));
  }

  pub ports_of : (p : Program) (enable : Bool) → HasPorts old p enable → HasPorts m p enable
  ports_of p enable ports = record { enable_is = sim.enable ∙ ports.enable_is; inputs = sim.inputs ∙ ports.inputs; outputs = sim.outputs ∙ ports.outputs }

  pub runs_alike : RunsOn old → RunsOn m
  runs_alike runs = record {
    no_stop = λ from clocks shots array index start fit begins stops.
        (let old_stops = stop_followed m old v sim whole.rules whole.order whole.ordered from clocks shots array index start fit stops in
        runs.no_stop (v.contents from) clocks (map (seen v) shots) old_stops.0 old_stops.1 (sim.fits from start) (all_alike clocks fit) begins old_stops.2);
  }

  pub drives_alike : (p : Program) (plan : Plan) → IsProgram p → (enable : Bool) → HasPorts old p enable → Drives old p plan → Drives m p plan
  drives_alike p plan program enable ports d = record {
    ports = let own = ports_of p enable ports in record { enable_is = refl; inputs = subst (λ (e : Bool). m.inputs ≡ 1 ∷ (if e then 1 ∷ input_widths p else input_widths p)) (sym own.enable_is) own.inputs; outputs = own.outputs };
    never = λ from dins shots array index start fit stops.
        (let old_stops = stop_followed m old v sim whole.rules whole.order whole.ordered from (driven (length p.inputs) dins) shots array index start (driven_fit dins fit) stops in
        d.never (v.contents from) dins (map (seen v) shots) old_stops.0 old_stops.1 (sim.fits from start) fit old_stops.2);
    valid = λ from to dins shots start fit run k c s low at.
        d.valid (v.contents from) (v.contents to) dins (map (seen v) shots) (sim.fits from start) fit (followed from to dins shots start fit run) k c (seen v s) low (at_map (seen v) shots c s at);
    dout = λ from to dins shots start fit run rounds are agree k q s low at within.
        d.dout (v.contents from) (v.contents to) dins (map (seen v) shots) (sim.fits from start) fit (followed from to dins shots start fit run) rounds are agree k q (seen v s) low (at_map (seen v) shots (q + latency_of plan k + 1) s at) within;
  }
    where
      own : HasPorts m p enable
      own = ports_of p enable ports

      driven_fit : (dins : List (List ℕ)) → All (Fit (input_widths p)) dins → All (FitsPorts m) (driven (length p.inputs) dins)
      driven_fit dins fit =
          let first : Clock = record { reset = true; enable = true; dins = replicate (length p.inputs) 0 } in
          All-cons (FitsPorts m) first _ (given_fits m p enable own first (zeros_fit p.inputs program.inputs)) (fed_fit m p enable own dins fit)

      followed : (from to : Contents) (dins : List (List ℕ)) (shots : List Snapshot) → FitsContents m from → All (Fit (input_widths p)) dins → Runs m from (driven (length p.inputs) dins) shots to → Runs old (v.contents from) (driven (length p.inputs) dins) (map (seen v) shots) (v.contents to)
      followed from to dins shots start fit run = run_followed m old v sim whole.rules whole.order whole.ordered from to (driven (length p.inputs) dins) shots start (driven_fit dins fit) run

-- The buffer bits of a circuit, by the arrays of the module.
within_ahead : (plan : Plan) (block : Option ℕ) (old : Netlist) (arrays : List Shape) (copies : List ℕ) (k : ℕ) → HasBits old (bits_of plan) copies → AreCopies (is_long block) old copies old.arrays → (block ≡ None → copies ≡ [])
    → ((least : ℕ) → block ≡ Some least → word_bits least arrays ≡ word_bits least old.arrays) → IsBufferBits old k → k ≤ bits_of plan + ahead_bits block arrays
within_ahead plan None old arrays copies k bits widths none words is = let same = same_count old k (bits_of plan) is (bits.plain (none refl)) in omega (arith, same)
within_ahead plan (Some least) old arrays copies k bits widths none words is = let most = copies_within old (bits_of plan) least copies k widths (bits.exact k is) in let same = words least refl in omega (arith, most, same)

-- The module into which a circuit is packed.
pub packed_circuit : (p : Program) (plan : Plan) (enable : Bool) (block : Option ℕ) (m old : Netlist) (slots : List Slot) (nets reads : List Net) (order : List ℕ) → IsProgram p → KeepsRules m → IsEvaluationOrder m.assigns order → IsCircuitOf p plan enable block old nets reads → IsPacking m old slots → ((least : ℕ) → block ≡ Some least → word_bits least m.arrays ≡ word_bits least old.arrays) → (block ≡ None → m ≡ old) →
    IsPackedCircuitOf p plan enable block m nets reads
packed_circuit p plan enable block m old slots nets reads order program rules ordered circuit packing words none = record {
  ports = ports_of m old v sim whole circuit.whole p enable circuit.ports;
  whole = whole;
  runs = runs_alike m old v sim whole circuit.whole circuit.runs;
  drives = drives_alike m old v sim whole circuit.whole p plan program enable circuit.ports circuit.drives;
  unpacked = old;
  circuit = circuit;
  slots = slots;
  packing = packing;
  once = packing.once (λ x low. let one = circuit.once x low in record { read = ap length one.read; put = ap length one.put });
  registers = packing.packed.regs;
  depth = λ base wide nets_in arrays_in n net is. packed_within m old slots packing.packed base wide nets_in arrays_in n net is;
  paths = paths_alike m old slots packing.packed rules circuit.whole.rules p plan (form_with block circuit.splits) circuit.paths;
  bits = λ k is. within_ahead plan block old m.arrays circuit.copies k circuit.bits circuit.copied.widths circuit.none words ((packing.bits k).1 is);
  none = none;
  behaves = behaves_alike m old v sim whole circuit.whole p plan (form_with block circuit.splits).places circuit.copies nets reads (λ c d fits other same. contents_seen m old slots packing.filled c d fits other same) (packed_nets old slots) circuit.behaves circuit.nets_are.there circuit.reads_are;
}
  where
    v : View
    v = packed old slots

    sim : Simulates m old v
    sim = packed_simulates m old slots packing.packed circuit.whole.rules rules order ordered

    whole : IsWhole m m
    whole = record { includes = Includes-refl m; rules = rules; order = order; ordered = ordered }

-- Without packing the module is the circuit.
pub plain_circuit : (p : Program) (plan : Plan) (enable : Bool) (block : Option ℕ) (m : Netlist) (nets reads : List Net) → IsProgram p → IsCircuitOf p plan enable block m nets reads → IsPackedCircuitOf p plan enable block m nets reads
plain_circuit p plan enable block m nets reads program circuit =
    packed_circuit p plan enable block m m (whole_slots 0 m.arrays) nets reads circuit.whole.order program circuit.whole.rules circuit.whole.ordered circuit (whole_packing m circuit.whole.rules) (λ least e. refl) (λ e. refl)
