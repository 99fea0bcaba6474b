-- A simulator at power-up.
use Rattle.std.proofs.Common.{◌≡◌, ℕ, zero, suc, ◌^◌, ◌<◌, List, [], ◌∷◌, length, map, replicate, refl, ap, ◌∙◌, inl, inr, arith}
use Rattle.std.specs.Prelude.{slice_get, slice_index, slice_index_or, unwrap_or}
use Rattle.std.specs.Option.{option_map}
use Rattle.std.proofs.Math.Pow.{pow_pos}
use Rattle.std.proofs.lemmas.List.{map-append, length-map, get_or-map, length-replicate, get_or-replicate, get_or_past}
use Rattle.std.proofs.lemmas.Bool.{cases_lt}
use Rattle.wiring.specs.declared.netlist.Net.{Net}
use Rattle.wiring.specs.declared.netlist.Net.TheVariants.{Input, Output, Wire, Reg}
use Rattle.wiring.specs.declared.netlist.Shape.{Shape}
use Rattle.wiring.specs.Netlist.{Netlist, net_width, IsDeclared}
use Rattle.wiring.specs.Snapshot.{Snapshot, net_value}
use Rattle.wiring.specs.Order.{IsEvaluationOrder}
use Rattle.wiring.specs.Rules.{KeepsRules}
use Rattle.cycle_sim.specs.declared.machine.Program.{Program}
use Rattle.cycle_sim.specs.declared.fill.Fill.{Fill}
use Rattle.cycle_sim.specs.declared.fill.Fill.TheVariants.{Zeros, Ones}
use Rattle.cycle_sim.specs.Slots.{all_values, all_widths, depth_at}
use Rattle.cycle_sim.specs.Filled.{fill_value, filled_words, filled_contents}
use Rattle.cycle_sim.specs.Simulated.{IsProgram, IsCircuit}

fill_lt : (f : Fill) (w : ℕ) → fill_value f w < 2 ^ w
fill_lt Zeros w = pow_pos w
fill_lt Ones w = omega (arith, pow_pos w)

map_lt : (f : Fill) (ws : List ℕ) (i : ℕ) → i < length ws → slice_index (map (fill_value f) ws) i < 2 ^ slice_index ws i
map_lt f ws i l = rw (get_or-map (fill_value f) ws i 0 0 l) (fill_lt f (slice_index ws i))

module _ (f : Fill) (m : Netlist) where
  abbrev pub power_up : Snapshot
  power_up = record { inputs = map (fill_value f) m.inputs; outputs = map (fill_value f) m.outputs; wires = map (fill_value f) m.wires; contents = filled_contents f m }

  nets : (n : Net) → IsDeclared m n → net_value power_up n < 2 ^ net_width m n
  nets (Input i) d = map_lt f m.inputs i d
  nets (Output i) d = map_lt f m.outputs i d
  nets (Wire i) d = map_lt f m.wires i d
  nets (Reg i) d = map_lt f m.regs i d

words_lt : (f : Fill) (shapes : List Shape) (a i : ℕ) → slice_index (slice_index_or (map (filled_words f) shapes) a []) i < 2 ^ unwrap_or (option_map (λ (s : Shape). s.width) (slice_get shapes a)) 0
words_lt f [] a i = omega arith
words_lt f (s ∷ ss) zero i =
    elim (cases_lt i s.depth) as (λ _. slice_index (replicate s.depth (fill_value f s.width)) i < 2 ^ s.width) [
      | inl l ↦ rw (get_or-replicate s.depth i (fill_value f s.width) 0 l) (fill_lt f s.width)
      | inr g ↦ rw (get_or_past (replicate s.depth (fill_value f s.width)) i 0 (omega (arith, g, length-replicate s.depth (fill_value f s.width)))) (pow_pos s.width)
    ]
words_lt f (s ∷ ss) (suc a) i = words_lt f ss a i

depths : (f : Fill) (shapes : List Shape) (a : ℕ) → depth_at (map (filled_words f) shapes) a ≡ unwrap_or (option_map (λ (s : Shape). s.depth) (slice_get shapes a)) 0
depths f [] a = refl
depths f (s ∷ ss) zero = length-replicate s.depth (fill_value f s.width)
depths f (s ∷ ss) (suc a) = depths f ss a

slots_filled : (f : Fill) (m : Netlist) → map (fill_value f) (all_widths m) ≡ all_values (power_up f m)
slots_filled f m = simp map-append

pub initial : (f : Fill) (m : Netlist) (order : List ℕ) (p : Program) → KeepsRules m → IsEvaluationOrder m.assigns order → IsProgram m order p →
    IsCircuit m order p (map (fill_value f) p.widths.items) (map (fill_value f) m.regs) (map (filled_words f) m.arrays)
initial f m order p rules ordered program = record {
  rules = rules;
  ordered = ordered;
  program = program;
  staged = length-map m.regs (fill_value f);
  shot = power_up f m;
  slots_are = ap (λ (l : List ℕ). map (fill_value f) l) program.widths ∙ slots_filled f m;
  words = refl;
  ready = record {
    shape = record { inputs = length-map m.inputs (fill_value f); regs = length-map m.regs (fill_value f); wires = length-map m.wires (fill_value f); outputs = length-map m.outputs (fill_value f) };
    nets = nets f m;
    words = words_lt f m.arrays;
  };
  fit = record { count = length-map m.arrays (filled_words f); deep = depths f m.arrays };
}
