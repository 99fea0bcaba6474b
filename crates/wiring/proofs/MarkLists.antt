-- A mark more, in the list of its sort.
use Rattle.std.proofs.Common.{◌≡◌, ◌≢◌, ℕ, zero, suc, true, false, set, get_or, replicate, refl, ap, subst, sym, ◌∙◌, arith}
use Rattle.std.specs.Vec.{with_item}
use Rattle.std.proofs.lemmas.List.{get_or-set_same, get_or-set_other, length-set}
use Rattle.wiring.specs.declared.netlist.Net.TheVariants.{Input, Output, Wire, Reg}
use Rattle.wiring.specs.declared.netlist.Holder.{Holder}
use Rattle.wiring.specs.declared.netlist.Holder.TheVariants.{OfNet, OfArray}
use Rattle.wiring.specs.declared.marks.Marks.{Marks}
use Rattle.wiring.specs.Marks.{is_marked, HasMark, unmarked, Adds}
use Rattle.wiring.proofs.MarkSpread.{unmarked-set}

-- no mark in a list of none
pub none_at : (n i : ℕ) → get_or (replicate n false) i false ≡ false
none_at zero i = refl
none_at (suc n) zero = refl
none_at (suc n) (suc i) = none_at n i

abbrev pub with_inputs : Marks → ℕ → Marks
with_inputs d i = record { inputs = with_item d.inputs i true; outputs = d.outputs; wires = d.wires; regs = d.regs; arrays = d.arrays }

at_inputs : (d : Marks) (i : ℕ) → HasMark d (OfNet (Input i)) → is_marked d (OfNet (Input i)) ≡ false → Adds d (with_inputs d i) (OfNet (Input i))
at_inputs d i l e = record {
  added = get_or-set_same d.inputs.items i true false l;
  others = other;
  nearer = let less : suc (unmarked (set d.inputs.items i true)) ≡ unmarked d.inputs.items = unmarked-set d.inputs.items i l e in omega (arith, less);
  size = λ m s. record { inputs = length-set d.inputs.items i true ∙ s.inputs; outputs = s.outputs; wires = s.wires; regs = s.regs; arrays = s.arrays };
}
  where
    other : (k : Holder) → k ≢ (OfNet (Input i)) → is_marked (with_inputs d i) k ≡ is_marked d k
    other (OfNet (Input k)) ne = get_or-set_other d.inputs.items i k true false (λ same. ne (ap (λ (z : ℕ). OfNet (Input z)) same))
    other h ne = refl

abbrev pub with_outputs : Marks → ℕ → Marks
with_outputs d i = record { inputs = d.inputs; outputs = with_item d.outputs i true; wires = d.wires; regs = d.regs; arrays = d.arrays }

at_outputs : (d : Marks) (i : ℕ) → HasMark d (OfNet (Output i)) → is_marked d (OfNet (Output i)) ≡ false → Adds d (with_outputs d i) (OfNet (Output i))
at_outputs d i l e = record {
  added = get_or-set_same d.outputs.items i true false l;
  others = other;
  nearer = let less : suc (unmarked (set d.outputs.items i true)) ≡ unmarked d.outputs.items = unmarked-set d.outputs.items i l e in omega (arith, less);
  size = λ m s. record { inputs = s.inputs; outputs = length-set d.outputs.items i true ∙ s.outputs; wires = s.wires; regs = s.regs; arrays = s.arrays };
}
  where
    other : (k : Holder) → k ≢ (OfNet (Output i)) → is_marked (with_outputs d i) k ≡ is_marked d k
    other (OfNet (Output k)) ne = get_or-set_other d.outputs.items i k true false (λ same. ne (ap (λ (z : ℕ). OfNet (Output z)) same))
    other h ne = refl

abbrev pub with_wires : Marks → ℕ → Marks
with_wires d i = record { inputs = d.inputs; outputs = d.outputs; wires = with_item d.wires i true; regs = d.regs; arrays = d.arrays }

at_wires : (d : Marks) (i : ℕ) → HasMark d (OfNet (Wire i)) → is_marked d (OfNet (Wire i)) ≡ false → Adds d (with_wires d i) (OfNet (Wire i))
at_wires d i l e = record {
  added = get_or-set_same d.wires.items i true false l;
  others = other;
  nearer = let less : suc (unmarked (set d.wires.items i true)) ≡ unmarked d.wires.items = unmarked-set d.wires.items i l e in omega (arith, less);
  size = λ m s. record { inputs = s.inputs; outputs = s.outputs; wires = length-set d.wires.items i true ∙ s.wires; regs = s.regs; arrays = s.arrays };
}
  where
    other : (k : Holder) → k ≢ (OfNet (Wire i)) → is_marked (with_wires d i) k ≡ is_marked d k
    other (OfNet (Wire k)) ne = get_or-set_other d.wires.items i k true false (λ same. ne (ap (λ (z : ℕ). OfNet (Wire z)) same))
    other h ne = refl

abbrev pub with_regs : Marks → ℕ → Marks
with_regs d i = record { inputs = d.inputs; outputs = d.outputs; wires = d.wires; regs = with_item d.regs i true; arrays = d.arrays }

at_regs : (d : Marks) (i : ℕ) → HasMark d (OfNet (Reg i)) → is_marked d (OfNet (Reg i)) ≡ false → Adds d (with_regs d i) (OfNet (Reg i))
at_regs d i l e = record {
  added = get_or-set_same d.regs.items i true false l;
  others = other;
  nearer = let less : suc (unmarked (set d.regs.items i true)) ≡ unmarked d.regs.items = unmarked-set d.regs.items i l e in omega (arith, less);
  size = λ m s. record { inputs = s.inputs; outputs = s.outputs; wires = s.wires; regs = length-set d.regs.items i true ∙ s.regs; arrays = s.arrays };
}
  where
    other : (k : Holder) → k ≢ (OfNet (Reg i)) → is_marked (with_regs d i) k ≡ is_marked d k
    other (OfNet (Reg k)) ne = get_or-set_other d.regs.items i k true false (λ same. ne (ap (λ (z : ℕ). OfNet (Reg z)) same))
    other h ne = refl

abbrev pub with_arrays : Marks → ℕ → Marks
with_arrays d i = record { inputs = d.inputs; outputs = d.outputs; wires = d.wires; regs = d.regs; arrays = with_item d.arrays i true }

at_arrays : (d : Marks) (i : ℕ) → HasMark d (OfArray i) → is_marked d (OfArray i) ≡ false → Adds d (with_arrays d i) (OfArray i)
at_arrays d i l e = record {
  added = get_or-set_same d.arrays.items i true false l;
  others = other;
  nearer = let less : suc (unmarked (set d.arrays.items i true)) ≡ unmarked d.arrays.items = unmarked-set d.arrays.items i l e in omega (arith, less);
  size = λ m s. record { inputs = s.inputs; outputs = s.outputs; wires = s.wires; regs = s.regs; arrays = length-set d.arrays.items i true ∙ s.arrays };
}
  where
    other : (k : Holder) → k ≢ (OfArray i) → is_marked (with_arrays d i) k ≡ is_marked d k
    other (OfArray k) ne = get_or-set_other d.arrays.items i k true false (λ same. ne (ap (λ (z : ℕ). OfArray z) same))
    other h ne = refl

pub adds_inputs : (d : Marks) (h : Holder) (i : ℕ) → h ≡ OfNet (Input i) → HasMark d h → is_marked d h ≡ false → Adds d (with_inputs d i) h
adds_inputs d h i e l free = subst (Adds d (with_inputs d i)) (sym e) (at_inputs d i (subst (HasMark d) e l) (ap (is_marked d) (sym e) ∙ free))

pub adds_outputs : (d : Marks) (h : Holder) (i : ℕ) → h ≡ OfNet (Output i) → HasMark d h → is_marked d h ≡ false → Adds d (with_outputs d i) h
adds_outputs d h i e l free = subst (Adds d (with_outputs d i)) (sym e) (at_outputs d i (subst (HasMark d) e l) (ap (is_marked d) (sym e) ∙ free))

pub adds_wires : (d : Marks) (h : Holder) (i : ℕ) → h ≡ OfNet (Wire i) → HasMark d h → is_marked d h ≡ false → Adds d (with_wires d i) h
adds_wires d h i e l free = subst (Adds d (with_wires d i)) (sym e) (at_wires d i (subst (HasMark d) e l) (ap (is_marked d) (sym e) ∙ free))

pub adds_regs : (d : Marks) (h : Holder) (i : ℕ) → h ≡ OfNet (Reg i) → HasMark d h → is_marked d h ≡ false → Adds d (with_regs d i) h
adds_regs d h i e l free = subst (Adds d (with_regs d i)) (sym e) (at_regs d i (subst (HasMark d) e l) (ap (is_marked d) (sym e) ∙ free))

pub adds_arrays : (d : Marks) (h : Holder) (i : ℕ) → h ≡ OfArray i → HasMark d h → is_marked d h ≡ false → Adds d (with_arrays d i) h
adds_arrays d h i e l free = subst (Adds d (with_arrays d i)) (sym e) (at_arrays d i (subst (HasMark d) e l) (ap (is_marked d) (sym e) ∙ free))
