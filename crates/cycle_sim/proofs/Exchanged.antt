-- A simulator whose registers and arrays are exchanged for others that fit.
use Rattle.std.proofs.Common.{◌≡◌, ℕ, zero, suc, ◌+◌, ◌^◌, ◌<◌, List, [], ◌∷◌, ◌++◌, length, take, drop, refl, ap, ◌∙◌, inl, inr, arith, length-append}
use Rattle.std.specs.Prelude.{All, slice_get, slice_index, slice_index_or, unwrap_or}
use Rattle.std.specs.Option.{option_map}
use Rattle.std.specs.List.{AllZip}
use Rattle.std.proofs.Math.Pow.{pow_pos}
use Rattle.std.proofs.lemmas.List.{take_at, get_or_past}
use Rattle.std.proofs.lemmas.Bool.{cases_lt}
use Rattle.std.proofs.lemmas.List.Elements.{All-get_or}
use Rattle.wiring.specs.declared.netlist.Shape.{Shape}
use Rattle.wiring.specs.declared.netlist.Net.{Net}
use Rattle.wiring.specs.declared.netlist.Net.TheVariants.{Input, Output, Wire, Reg}
use Rattle.wiring.specs.Netlist.{Netlist, net_width, IsDeclared}
use Rattle.wiring.specs.Snapshot.{Snapshot, FitsContents, net_value}
use Rattle.cycle_sim.specs.declared.machine.Program.{Program}
use Rattle.cycle_sim.specs.Slots.{all_values, depth_at}
use Rattle.cycle_sim.specs.Ready.{IsReady}
use Rattle.cycle_sim.specs.Simulated.{contents_of, held_contents, IsCircuit}
use Rattle.cycle_sim.proofs.Flat.{length-all_widths}
use Rattle.cycle_sim.proofs.Pieces.{fit_at, length_fit}
use Rattle.cycle_sim.proofs.Simulates.{slots_long, contents_flat}

abbrev AreWords : Shape → List ℕ → Type 0
AreWords s words = (length words ≡ s.depth) × All (λ w. w < 2 ^ s.width) words

words_below : (bound : ℕ) (words : List ℕ) → 0 < bound → All (λ w. w < bound) words → (i : ℕ) → slice_index words i < bound
words_below bound words some h i =
    elim (cases_lt i (length words)) as (λ _. slice_index words i < bound) [
      | inl l ↦ All-get_or (λ w. w < bound) words i 0 l h
      | inr g ↦ rw (get_or_past words i 0 g) some
    ]

arrays_count : (shapes : List Shape) (arrays : List (List ℕ)) → AllZip AreWords shapes arrays → length arrays ≡ length shapes
arrays_count [] [] h = refl
arrays_count [] (words ∷ arrays) h = absurd h
arrays_count (s ∷ shapes) [] h = absurd h
arrays_count (s ∷ shapes) (words ∷ arrays) h = ap suc (arrays_count shapes arrays h.1)

arrays_deep : (shapes : List Shape) (arrays : List (List ℕ)) → AllZip AreWords shapes arrays →
    (a : ℕ) → depth_at arrays a ≡ unwrap_or (option_map (λ (s : Shape). s.depth) (slice_get shapes a)) 0
arrays_deep [] [] h a = refl
arrays_deep [] (words ∷ arrays) h a = absurd h
arrays_deep (s ∷ shapes) [] h a = absurd h
arrays_deep (s ∷ shapes) (words ∷ arrays) h zero = h.0.0
arrays_deep (s ∷ shapes) (words ∷ arrays) h (suc a) = arrays_deep shapes arrays h.1 a

arrays_below : (shapes : List Shape) (arrays : List (List ℕ)) → AllZip AreWords shapes arrays →
    (a i : ℕ) → slice_index (slice_index_or arrays a []) i < 2 ^ unwrap_or (option_map (λ (s : Shape). s.width) (slice_get shapes a)) 0
arrays_below [] [] h a i = omega arith
arrays_below [] (words ∷ arrays) h a i = absurd h
arrays_below (s ∷ shapes) [] h a i = absurd h
arrays_below (s ∷ shapes) (words ∷ arrays) h zero i = words_below (2 ^ s.width) words (pow_pos s.width) h.0.1 i
arrays_below (s ∷ shapes) (words ∷ arrays) h (suc a) i = arrays_below shapes arrays h.1 a i

module _ (m : Netlist) (order : List ℕ) (p : Program) (values staged : List ℕ) (words : List (List ℕ)) (sim : IsCircuit m order p values staged words)
    (regs : List ℕ) (others : List (List ℕ)) (fits : FitsContents m (held_contents regs others)) where
  abbrev pub exchanged : Snapshot
  exchanged = record { inputs = sim.shot.inputs; outputs = sim.shot.outputs; wires = sim.shot.wires; contents = held_contents regs others }

  regs_long : length regs ≡ length m.regs
  regs_long = length_fit m.regs regs fits.regs

  pub slots_left : p.first_reg + length regs ≡ length values
  slots_left = omega (arith, regs_long, sim.program.first_reg, slots_long m order p values staged words sim, length-all_widths m)

  front_long : length (sim.shot.inputs ++ sim.shot.outputs ++ sim.shot.wires) ≡ p.first_reg
  front_long = omega (arith, length-append (sim.shot.inputs ++ sim.shot.outputs) sim.shot.wires, length-append sim.shot.inputs sim.shot.outputs, sim.program.first_reg, sim.ready.shape.inputs, sim.ready.shape.outputs, sim.ready.shape.wires)

  front : take p.first_reg values ≡ sim.shot.inputs ++ sim.shot.outputs ++ sim.shot.wires
  front = ap (λ (v : List ℕ). take p.first_reg v) sim.slots_are ∙ take_at (sim.shot.inputs ++ sim.shot.outputs ++ sim.shot.wires) sim.shot.contents.regs p.first_reg front_long

  slots_are : take p.first_reg values ++ regs ≡ all_values exchanged
  slots_are = ap (λ (v : List ℕ). v ++ regs) front

  nets : (n : Net) → IsDeclared m n → net_value exchanged n < 2 ^ net_width m n
  nets (Input i) d = sim.ready.nets (Input i) d
  nets (Output i) d = sim.ready.nets (Output i) d
  nets (Wire i) d = sim.ready.nets (Wire i) d
  nets (Reg i) d = fit_at m.regs regs i fits.regs

  ready : IsReady m exchanged
  ready = record {
    shape = record { inputs = sim.ready.shape.inputs; regs = regs_long; wires = sim.ready.shape.wires; outputs = sim.ready.shape.outputs };
    nets = nets;
    words = arrays_below m.arrays others fits.arrays;
  }

  pub exchanged_circuit : IsCircuit m order p (take p.first_reg values ++ regs) staged others
  exchanged_circuit = record {
    rules = sim.rules;
    ordered = sim.ordered;
    program = sim.program;
    staged = sim.staged;
    shot = exchanged;
    slots_are = slots_are;
    words = refl;
    ready = ready;
    fit = record { count = arrays_count m.arrays others fits.arrays; deep = arrays_deep m.arrays others fits.arrays };
  }

  pub exchanged_contents : contents_of m (take p.first_reg values ++ regs) others ≡ held_contents regs others
  exchanged_contents = ap (λ (v : List ℕ). contents_of m v others) slots_are ∙ contents_flat m exchanged ready.shape

  pub contents_back : held_contents (drop p.first_reg values) words ≡ contents_of m values words
  contents_back = ap (λ (n : ℕ). held_contents (drop n values) words) sim.program.first_reg
