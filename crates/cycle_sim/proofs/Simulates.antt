-- A clock over slots is one of the netlist.
use Rattle.std.proofs.Common.{◌≡◌, ℕ, Bool, ◌≤◌, ◌+◌, ◌^◌, ◌<◌, List, ◌++◌, length, take, drop, map, refl, ap, sym, subst, ◌∙◌, arith}
use Rattle.std.specs.Prelude.{All, slice_get, Result, Ok, Err, OnOk, IfErr}
use Rattle.wiring.specs.declared.netlist.Net.{Net}
use Rattle.wiring.specs.declared.netlist.Net.TheVariants.{Input, Output, Wire, Reg}
use Rattle.wiring.specs.Netlist.{Netlist, net_width, IsDeclared}
use Rattle.wiring.specs.Snapshot.{Contents, Snapshot, Fit, net_value, IsSettled, SnapshotOf, IsInRange, StopsAt, IsNext, accesses}
use Rattle.wiring.specs.Clock.{Clock, given}
use Rattle.wiring.proofs.Settle.{settled_none, settled_all}
use Rattle.cycle_sim.specs.declared.edge.Edge.{Edge}
use Rattle.cycle_sim.specs.declared.edge.IndexRange.{IndexRange}
use Rattle.cycle_sim.specs.declared.machine.Program.{Program}
use Rattle.cycle_sim.specs.Slots.{all_values, all_widths}
use Rattle.cycle_sim.specs.Code.{run_code, CodeIsSafe}
use Rattle.cycle_sim.specs.Edge.{run_sets, run_puts, IsAccessInside, IsFirstOutside, EdgesAreSafe, access, edge}
use Rattle.cycle_sim.specs.Ready.{HasShape, IsReady, ArraysFit}
use Rattle.cycle_sim.specs.OneClock.{port_values, with_inputs, settled_values}
use Rattle.cycle_sim.specs.Simulated.{contents_of, shot_of, IsCircuit}
use Rattle.cycle_sim.proofs.Flat.{length-all_values, length-all_widths}
use Rattle.cycle_sim.proofs.Runs.{Settles, code_settles}
use Rattle.cycle_sim.proofs.Edges.{length-run_sets}
use Rattle.cycle_sim.proofs.Ranges.{in_range, stops_at, all_edges_safe, is_next}
use Rattle.cycle_sim.proofs.NextReady.{later, later_ready, later_fit}
use Rattle.cycle_sim.proofs.Pieces.{new_inputs, new_regs, drop_front, take_inputs, take_outputs, take_wires, fit_at, length_fit}

-- the contents are those in the slots
pub contents_flat : (m : Netlist) (s : Snapshot) → HasShape m s → contents_of m (all_values s) s.contents.arrays ≡ s.contents
contents_flat m s shape = rw (drop_front s.inputs s.outputs s.wires s.contents.regs (length m.inputs + length m.outputs + length m.wires) (omega (arith, shape.inputs, shape.outputs, shape.wires))) refl

-- and so are the values of the nets
pub shot_flat : (m : Netlist) (s : Snapshot) → HasShape m s → shot_of m (all_values s) s.contents.arrays ≡ s
shot_flat m s shape =
    rw (
      take_inputs s.inputs s.outputs s.wires s.contents.regs (length m.inputs) shape.inputs,
      take_outputs s.inputs s.outputs s.wires s.contents.regs (length m.inputs) (length m.outputs) shape.inputs shape.outputs,
      take_wires s.inputs s.outputs s.wires s.contents.regs (length m.inputs + length m.outputs) (length m.wires) (omega (arith, shape.inputs, shape.outputs)) shape.wires,
      contents_flat m s shape,
    ) refl

-- there are as many slots as nets
pub slots_long : (m : Netlist) (order : List ℕ) (p : Program) (values staged : List ℕ) (words : List (List ℕ)) → IsCircuit m order p values staged words → length values ≡ length (all_widths m)
slots_long m order p values staged words sim =
    ap length sim.slots_are ∙ omega (arith, length-all_values sim.shot, length-all_widths m, sim.ready.shape.inputs, sim.ready.shape.outputs, sim.ready.shape.wires, sim.ready.shape.regs)

module _ (m : Netlist) (order : List ℕ) (p : Program) (values staged : List ℕ) (words : List (List ℕ)) (sim : IsCircuit m order p values staged words) where
  -- what is held is the snapshot
  pub shot_is : shot_of m values words ≡ sim.shot
  shot_is =
      ap (λ (v : List ℕ). shot_of m v words) sim.slots_are
      ∙ ap (λ (l : List (List ℕ)). shot_of m (all_values sim.shot) l) sim.words
      ∙ shot_flat m sim.shot sim.ready.shape

  pub values_are : values ≡ all_values (shot_of m values words)
  values_are = sim.slots_are ∙ ap (λ (s : Snapshot). all_values s) (sym shot_is)

  pub outputs_within : length m.inputs + length m.outputs ≤ length values
  outputs_within = omega (arith, slots_long m order p values staged words sim, length-all_widths m)

  pub regs_within : p.first_reg + length staged ≤ length values
  regs_within = omega (arith, sim.staged, sim.program.first_reg, slots_long m order p values staged words sim, length-all_widths m)

  fit : ArraysFit m sim.shot.contents.arrays
  fit = subst (λ (l : List (List ℕ)). ArraysFit m l) sim.words sim.fit

  -- no access is outside its array, over slots as in the netlist
  range_of : All (IsAccessInside words values) p.accesses.items → IsInRange m (shot_of m values words)
  range_of h =
      let inside : All (IsAccessInside sim.shot.contents.arrays (all_values sim.shot)) (map (access m) (accesses m)) = rw (← sim.words, ← sim.slots_are, ← sim.program.accessing) h in
      subst (λ (s : Snapshot). IsInRange m s) (sym shot_is) (in_range m sim.rules sim.shot sim.ready.shape fit inside)

  stop_of : (range : IndexRange) → IsFirstOutside words values p.accesses.items range → StopsAt m (shot_of m values words) range.array range.index
  stop_of range h =
      subst (λ (s : Snapshot). StopsAt m s range.array range.index) (sym shot_is)
      (stops_at m sim.rules sim.shot sim.ready.shape fit range (rw (← sim.words, ← sim.slots_are, ← sim.program.accessing) h))

  in_range_ok : (r : Result (Unit {0}) IndexRange) → OnOk r (All (IsAccessInside words values) p.accesses.items) → OnOk r (IsInRange m (shot_of m values words))
  in_range_ok (Ok u) h = range_of h
  in_range_ok (Err e) h = tt

  stops_err : (r : Result (Unit {0}) IndexRange) → IfErr r (IsFirstOutside words values p.accesses.items) → IfErr r (λ (range : IndexRange). StopsAt m (shot_of m values words) range.array range.index)
  stops_err (Ok u) h = tt
  stops_err (Err e) h = stop_of e h

  module _ (h : IsInRange m (shot_of m values words)) where
    inside : IsInRange m sim.shot
    inside = subst (λ (s : Snapshot). IsInRange m s) shot_is h

    pub edges_safe : EdgesAreSafe values p.edges.items (length staged) words
    edges_safe =
        let safe = all_edges_safe m sim.rules sim.shot sim.ready.shape fit (length staged) sim.staged inside in
        let at_words = subst (λ (l : List (List ℕ)). EdgesAreSafe (all_values sim.shot) (map (edge m) m.updates) (length staged) l) (sym sim.words) safe in
        let at_edges = subst (λ (es : List Edge). EdgesAreSafe (all_values sim.shot) es (length staged) words) (sym sim.program.edges) at_words in
        subst (λ (v : List ℕ). EdgesAreSafe v p.edges.items (length staged) words) (sym sim.slots_are) at_edges

    module _ (new_values new_staged : List ℕ) (new_words : List (List ℕ)) (staged_are : new_staged ≡ run_sets values p.edges.items staged)
        (values_become : new_values ≡ take p.first_reg values ++ new_staged ++ drop (p.first_reg + length new_staged) values) (words_become : new_words ≡ run_puts values p.edges.items words) where
      abbrev next_contents : Contents
      next_contents = record { regs = new_staged; arrays = new_words }

      staged_is : new_staged ≡ run_sets (all_values sim.shot) (map (edge m) m.updates) staged
      staged_is =
          staged_are
          ∙ ap (λ (v : List ℕ). run_sets v p.edges.items staged) sim.slots_are
          ∙ ap (λ (es : List Edge). run_sets (all_values sim.shot) es staged) sim.program.edges

      words_after : new_words ≡ run_puts (all_values sim.shot) (map (edge m) m.updates) sim.shot.contents.arrays
      words_after =
          words_become
          ∙ ap (λ (v : List ℕ). run_puts v p.edges.items words) sim.slots_are
          ∙ ap (λ (es : List Edge). run_puts (all_values sim.shot) es words) sim.program.edges
          ∙ ap (λ (l : List (List ℕ)). run_puts (all_values sim.shot) (map (edge m) m.updates) l) sim.words

      next : IsNext m sim.shot next_contents
      next = rw (staged_is, words_after) (is_next m sim.rules sim.shot sim.ready.shape fit staged sim.staged)

      length_staged : length new_staged ≡ length m.regs
      length_staged = ap length staged_is ∙ length-run_sets m (all_values sim.shot) m.updates staged ∙ sim.staged

      abbrev after : Snapshot
      after = later m sim.rules sim.shot next_contents sim.ready fit next

      values_after : new_values ≡ all_values after
      values_after =
          values_become ∙ rw sim.slots_are
          (new_regs sim.shot.inputs sim.shot.outputs sim.shot.wires sim.shot.contents.regs new_staged p.first_reg (length_staged ∙ sym sim.ready.shape.regs)
          (omega (arith, sim.ready.shape.inputs, sim.ready.shape.outputs, sim.ready.shape.wires, sim.program.first_reg)))

      pub after_edge : IsCircuit m order p new_values new_staged new_words
      after_edge = record {
        rules = sim.rules;
        ordered = sim.ordered;
        program = sim.program;
        staged = length_staged;
        shot = after;
        slots_are = values_after;
        words = refl;
        ready = later_ready m sim.rules sim.shot next_contents sim.ready fit next;
        fit = later_fit m sim.rules sim.shot next_contents sim.ready fit next;
      }

      contents_after : contents_of m new_values new_words ≡ next_contents
      contents_after = rw values_after (contents_flat m after (later_ready m sim.rules sim.shot next_contents sim.ready fit next).shape)

      pub next_of : IsNext m (shot_of m values words) (contents_of m new_values new_words)
      next_of =
          let at_next : IsNext m sim.shot (contents_of m new_values new_words) = subst (λ (c : Contents). IsNext m sim.shot c) (sym contents_after) next in
          subst (λ (s : Snapshot). IsNext m s (contents_of m new_values new_words)) (sym shot_is) at_next

module _ (m : Netlist) (order : List ℕ) (p : Program) (values staged : List ℕ) (words : List (List ℕ)) (sim : IsCircuit m order p values staged words)
    (given : List ℕ) (fits : Fit m.inputs given) where
  -- the snapshot with these inputs, before it settles
  abbrev start : Snapshot
  start = record { inputs = given; outputs = sim.shot.outputs; wires = sim.shot.wires; contents = sim.shot.contents }

  start_nets : (n : Net) → IsDeclared m n → net_value start n < 2 ^ net_width m n
  start_nets (Input i) d = fit_at m.inputs given i fits
  start_nets (Output i) d = sim.ready.nets (Output i) d
  start_nets (Wire i) d = sim.ready.nets (Wire i) d
  start_nets (Reg i) d = sim.ready.nets (Reg i) d

  start_ready : IsReady m start
  start_ready = record {
    shape = record { inputs = length_fit m.inputs given fits; regs = sim.ready.shape.regs; wires = sim.ready.shape.wires; outputs = sim.ready.shape.outputs };
    nets = start_nets;
    words = sim.ready.words;
  }

  start_flat : with_inputs given values ≡ all_values start
  start_flat =
      ap (λ (l : List ℕ). given ++ drop (length given) l) sim.slots_are
      ∙ new_inputs sim.shot.inputs sim.shot.outputs sim.shot.wires sim.shot.contents.regs given (length_fit m.inputs given fits ∙ sym sim.ready.shape.inputs)

  run : Settles m sim.rules order sim.ordered order p.code.items 0 start
  run = code_settles m sim.rules order sim.ordered order p.code.items 0 start start_ready sim.program.code
      (λ i. ap (λ (q : ℕ). slice_get order q) (let e : i ≡ 0 + i = omega arith in e)) (settled_none m sim.rules order sim.ordered start)

  code_safe : CodeIsSafe p.widths.items words p.code.items (with_inputs given values)
  code_safe = rw (start_flat, sim.program.widths, sim.words) run.safe

  settled_flat : settled_values p words given values ≡ all_values run.settled
  settled_flat =
      ap (λ (vs : List ℕ). run_code p.widths.items words p.code.items vs) start_flat
      ∙ ap (λ (ws : List ℕ). run_code ws words p.code.items (all_values start)) sim.program.widths
      ∙ ap (λ (hs : List (List ℕ)). run_code (all_widths m) hs p.code.items (all_values start)) sim.words
      ∙ run.run

  settled : IsSettled m run.settled
  settled = settled_all m sim.rules order sim.ordered run.settled (0 + length order) (record { outputs = run.ready.shape.outputs; wires = run.ready.shape.wires }) (omega arith) run.upto

  -- the contents before the clock
  abbrev old : Contents
  old = contents_of m values words

  old_is : run.settled.contents ≡ old
  old_is = run.contents ∙ ap (λ (s : Snapshot). s.contents) (sym (shot_is m order p values staged words sim))

  snapshot : SnapshotOf m old given run.settled
  snapshot = record { inputs = run.inputs; contents = old_is; settled = settled }

  words_are : words ≡ run.settled.contents.arrays
  words_are = sim.words ∙ ap (λ (c : Contents). c.arrays) (sym run.contents)

  pub settled_circuit : IsCircuit m order p (settled_values p words given values) staged words
  settled_circuit = record {
    rules = sim.rules;
    ordered = sim.ordered;
    program = sim.program;
    staged = sim.staged;
    shot = run.settled;
    slots_are = settled_flat;
    words = words_are;
    ready = run.ready;
    fit = sim.fit;
  }

  settled_is : shot_of m (settled_values p words given values) words ≡ run.settled
  settled_is =
      ap (λ (v : List ℕ). shot_of m v words) settled_flat
      ∙ ap (λ (l : List (List ℕ)). shot_of m (all_values run.settled) l) words_are
      ∙ shot_flat m run.settled run.ready.shape

  pub settled_shot : SnapshotOf m old given (shot_of m (settled_values p words given values) words)
  settled_shot = subst (λ (s : Snapshot). SnapshotOf m old given s) (sym settled_is) snapshot

-- a clock by what its ports are given
module _ (m : Netlist) (order : List ℕ) (p : Program) (values staged : List ℕ) (words : List (List ℕ)) (sim : IsCircuit m order p values staged words)
    (clock : Clock) (fits : Fit m.inputs (given m clock)) where
  abbrev pub ports : List ℕ
  ports = port_values p.enable clock.reset clock.enable clock.dins

  same_ports : ports ≡ given m clock
  same_ports = ap (λ (b : Bool). port_values b clock.reset clock.enable clock.dins) sim.program.enable

  ports_fit : Fit m.inputs ports
  ports_fit = subst (λ (l : List ℕ). Fit m.inputs l) (sym same_ports) fits

  pub ports_within : length ports ≤ length values
  ports_within = omega (arith, length_fit m.inputs ports ports_fit, slots_long m order p values staged words sim, length-all_widths m)

  pub ports_code : CodeIsSafe p.widths.items words p.code.items (with_inputs ports values)
  ports_code = code_safe m order p values staged words sim ports ports_fit

  module _ (new_values : List ℕ) (settle : new_values ≡ settled_values p words ports values) where
    pub clock_circuit : IsCircuit m order p new_values staged words
    clock_circuit = subst (λ (v : List ℕ). IsCircuit m order p v staged words) (sym settle) (settled_circuit m order p values staged words sim ports ports_fit)

    pub clock_shot : SnapshotOf m (contents_of m values words) (given m clock) (shot_of m new_values words)
    clock_shot =
        let at_ports = settled_shot m order p values staged words sim ports ports_fit in
        let at_given = subst (λ (g : List ℕ). SnapshotOf m (contents_of m values words) g (shot_of m (settled_values p words ports values) words)) same_ports at_ports in
        subst (λ (v : List ℕ). SnapshotOf m (contents_of m values words) (given m clock) (shot_of m v words)) (sym settle) at_given

    pub clock_range : (r : Result (Unit {0}) IndexRange) → OnOk r (All (IsAccessInside words (settled_values p words ports values)) p.accesses.items) → OnOk r (IsInRange m (shot_of m new_values words))
    clock_range r h = in_range_ok m order p new_values staged words clock_circuit r (subst (λ (v : List ℕ). OnOk r (All (IsAccessInside words v) p.accesses.items)) (sym settle) h)

    pub clock_stop : (r : Result (Unit {0}) IndexRange) → IfErr r (IsFirstOutside words (settled_values p words ports values) p.accesses.items) →
        IfErr r (λ (range : IndexRange). StopsAt m (shot_of m new_values words) range.array range.index)
    clock_stop r h = stops_err m order p new_values staged words clock_circuit r (subst (λ (v : List ℕ). IfErr r (IsFirstOutside words v p.accesses.items)) (sym settle) h)
