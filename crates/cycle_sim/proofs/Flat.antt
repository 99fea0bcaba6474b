-- The slots of the nets.
use Rattle.std.proofs.Common.{◌≡◌, ℕ, ◌+◌, ◌-◌, ◌<◌, List, ◌++◌, length, get_or, set, refl, ap, ◌∙◌, arith, length-append}
use Rattle.std.specs.Prelude.{slice_index, slice_set}
use Rattle.std.proofs.lemmas.List.{get_or_append_left, get_or-append_right, set-append_left, set-append_right}
use Rattle.wiring.specs.declared.netlist.Net.{Net}
use Rattle.wiring.specs.declared.netlist.Net.TheVariants.{Input, Output, Wire, Reg}
use Rattle.wiring.specs.Netlist.{Netlist, net_width, IsDeclared, IsDriven}
use Rattle.wiring.specs.Snapshot.{Snapshot, net_value}
use Rattle.wiring.proofs.Settle.{put_net}
use Rattle.cycle_sim.specs.Slots.{slot, all_values, all_widths}
use Rattle.cycle_sim.specs.Ready.{HasShape}

-- places in two lists, one after the other
left_at : (xs ys : List ℕ) (i : ℕ) → i < length xs → get_or (xs ++ ys) i 0 ≡ get_or xs i 0
left_at xs ys i l = get_or_append_left xs ys 0 i l

right_at : (xs ys : List ℕ) (n i : ℕ) → length xs ≡ n → get_or (xs ++ ys) (n + i) 0 ≡ get_or ys i 0
right_at xs ys n i e = get_or-append_right xs ys n (n + i) 0 e (omega arith) ∙ ap (λ k. get_or ys k 0) (let g : n + i - n ≡ i = omega arith in g)

left_set : (xs ys : List ℕ) (i x : ℕ) → i < length xs → set (xs ++ ys) i x ≡ set xs i x ++ ys
left_set xs ys i x l = set-append_left xs ys i x l

right_set : (xs ys : List ℕ) (n i x : ℕ) → length xs ≡ n → set (xs ++ ys) (n + i) x ≡ xs ++ set ys i x
right_set xs ys n i x e = set-append_right xs ys n (n + i) x e (omega arith) ∙ ap (λ k. xs ++ set ys k x) (let g : n + i - n ≡ i = omega arith in g)

module _ (a b c d : List ℕ) where
  length_2 : length (a ++ b) ≡ length a + length b
  length_2 = length-append a b

  length_3 : length (a ++ b ++ c) ≡ length a + length b + length c
  length_3 = omega (arith, length-append (a ++ b) c, length-append a b)

  at_1 : (i : ℕ) → i < length a → get_or (a ++ b ++ c ++ d) i 0 ≡ get_or a i 0
  at_1 i l = left_at (a ++ b ++ c) d i (omega (arith, length_3)) ∙ left_at (a ++ b) c i (omega (arith, length_2)) ∙ left_at a b i l

  at_2 : (i : ℕ) → i < length b → get_or (a ++ b ++ c ++ d) (length a + i) 0 ≡ get_or b i 0
  at_2 i l = left_at (a ++ b ++ c) d (length a + i) (omega (arith, length_3)) ∙ left_at (a ++ b) c (length a + i) (omega (arith, length_2)) ∙ right_at a b (length a) i refl

  at_3 : (i : ℕ) → i < length c → get_or (a ++ b ++ c ++ d) (length a + length b + i) 0 ≡ get_or c i 0
  at_3 i l = left_at (a ++ b ++ c) d (length a + length b + i) (omega (arith, length_3)) ∙ right_at (a ++ b) c (length a + length b) i length_2

  at_4 : (i : ℕ) → get_or (a ++ b ++ c ++ d) (length a + length b + length c + i) 0 ≡ get_or d i 0
  at_4 i = right_at (a ++ b ++ c) d (length a + length b + length c) i length_3

  set_3 : (i x : ℕ) → i < length c → set (a ++ b ++ c ++ d) (length a + length b + i) x ≡ a ++ b ++ set c i x ++ d
  set_3 i x l = left_set (a ++ b ++ c) d (length a + length b + i) x (omega (arith, length_3)) ∙ ap (λ z. z ++ d) (right_set (a ++ b) c (length a + length b) i x length_2)

  set_2 : (i x : ℕ) → i < length b → set (a ++ b ++ c ++ d) (length a + i) x ≡ a ++ set b i x ++ c ++ d
  set_2 i x l =
      left_set (a ++ b ++ c) d (length a + i) x (omega (arith, length_3))
      ∙ ap (λ z. z ++ d) (left_set (a ++ b) c (length a + i) x (omega (arith, length_2)) ∙ ap (λ z. z ++ c) (right_set a b (length a) i x refl))

pub flat_at : (m : Netlist) (s : Snapshot) (n : Net) → HasShape m s → IsDeclared m n → slice_index (all_values s) (slot m n) ≡ net_value s n
flat_at m s (Input i) h d = at_1 s.inputs s.outputs s.wires s.contents.regs i (omega (arith, h.inputs, d))
flat_at m s (Output i) h d = rw (← h.inputs) (at_2 s.inputs s.outputs s.wires s.contents.regs i (omega (arith, h.outputs, d)))
flat_at m s (Wire i) h d = rw (← h.inputs, ← h.outputs) (at_3 s.inputs s.outputs s.wires s.contents.regs i (omega (arith, h.wires, d)))
flat_at m s (Reg i) h d = rw (← h.inputs, ← h.outputs, ← h.wires) (at_4 s.inputs s.outputs s.wires s.contents.regs i)

pub flat_width_at : (m : Netlist) (n : Net) → IsDeclared m n → slice_index (all_widths m) (slot m n) ≡ net_width m n
flat_width_at m (Input i) d = at_1 m.inputs m.outputs m.wires m.regs i d
flat_width_at m (Output i) d = at_2 m.inputs m.outputs m.wires m.regs i d
flat_width_at m (Wire i) d = at_3 m.inputs m.outputs m.wires m.regs i d
flat_width_at m (Reg i) d = at_4 m.inputs m.outputs m.wires m.regs i

pub flat_put : (m : Netlist) (s : Snapshot) (n : Net) (x : ℕ) → HasShape m s → IsDriven m n → slice_set (all_values s) (slot m n) x ≡ all_values (put_net s n x)
flat_put m s (Input i) x h d = absurd d
flat_put m s (Reg i) x h d = absurd d
flat_put m s (Output i) x h d = rw (← h.inputs) (set_2 s.inputs s.outputs s.wires s.contents.regs i x (omega (arith, h.outputs, d)))
flat_put m s (Wire i) x h d = rw (← h.inputs, ← h.outputs) (set_3 s.inputs s.outputs s.wires s.contents.regs i x (omega (arith, h.wires, d)))

pub length-all_values : (s : Snapshot) → length (all_values s) ≡ length s.inputs + length s.outputs + length s.wires + length s.contents.regs
length-all_values s = omega (arith, length-append (s.inputs ++ s.outputs ++ s.wires) s.contents.regs, length_3 s.inputs s.outputs s.wires s.contents.regs)

pub length-all_widths : (m : Netlist) → length (all_widths m) ≡ length m.inputs + length m.outputs + length m.wires + length m.regs
length-all_widths m = omega (arith, length-append (m.inputs ++ m.outputs ++ m.wires) m.regs, length_3 m.inputs m.outputs m.wires m.regs)

-- the slot of a driven net is there
pub slot_within : (m : Netlist) (s : Snapshot) (n : Net) → HasShape m s → IsDriven m n → slot m n < length (all_values s)
slot_within m s (Input i) h d = absurd d
slot_within m s (Reg i) h d = absurd d
slot_within m s (Output i) h d = omega (arith, length-all_values s, h.inputs, h.outputs, d)
slot_within m s (Wire i) h d = omega (arith, length-all_values s, h.inputs, h.outputs, h.wires, d)
