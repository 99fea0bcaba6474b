-- Instructions of assigns.
use Rattle.std.proofs.Common.{◌≡◌, ℕ, ◌<◌, ◌≤◌, Bool, true, false, List, [], ◌∷◌, ◌++◌, length, ◌⊎◌, inl, inr, replicate, ap, sym, subst, ◌∙◌, arith, Some, lit<, length-set}
use Rattle.std.specs.Prelude.{None, Contains, slice_get, slice_index_or, slice_set}
use Rattle.std.proofs.lemmas.Bool.{cases_eq, cases_lt}
use Rattle.std.proofs.lemmas.List.{get_or-set_other, length-replicate, get_or-replicate, get_or_past}
use Rattle.std.proofs.lemmas.List.Elements.{All-append, All-nil, All-cons, Contains-append_left, Contains-append_right}
use Rattle.wiring.specs.declared.right.Right.{Right}
use Rattle.wiring.specs.declared.netlist.Assign.{Assign}
use Rattle.wiring.specs.Rights.{array_of}
use Rattle.wiring.specs.Netlist.{Netlist}
use Rattle.wiring.proofs.Lists.{at_one}
use Rattle.cycle_sim.specs.Slots.{slot, rename}
use Rattle.batch_rows.specs.declared.code.Instruction.{Instruction}
use Rattle.batch_code.specs.Code.{IsPlain, instruction}
use Rattle.batch_code.specs.Parts.{IsInstructionOf, AreInstructions, HasInstructions, AreReadWhereMarked}

pub instruction_is : (m : Netlist) (a : Assign) (target : ℕ) (right : Right ℕ ℕ) → target ≡ slot m a.target → right ≡ rename (slot m) a.right → (let i : Instruction = record { target = target; right = right } in i) ≡ instruction m a
instruction_is m a target right e f = ap (λ n. let i : Instruction = record { target = n; right = right } in i) e ∙ ap (λ r. let i : Instruction = record { target = slot m a.target; right = r } in i) f

pub one_more : (m : Netlist) (k : ℕ) (code : List Instruction) (marks : List Bool) (i : Instruction) → AreInstructions m code marks → IsInstructionOf m k i → ((a : Assign) → slice_get m.assigns k ≡ Some a → array_of a.right ≡ None) →
    AreInstructions m (code ++ i ∷ []) (slice_set marks k true)
one_more m k code marks i before of plain = record {
  count = length-set marks k true ∙ before.count;
  plain = All-append (IsPlain m) code (i ∷ []) before.plain (All-cons (IsPlain m) i [] (k, of.0, of.1, plain of.0 of.1, of.2) (All-nil (IsPlain m)));
  marked = λ j a at mark. by_place j a at mark (cases_eq j k);
}
  where
    by_place : (j : ℕ) (a : Assign) → slice_get m.assigns j ≡ Some a → slice_index_or (slice_set marks k true) j false ≡ true → (j ≡ k) ⊎ (j ≡ k → ⊥) → Contains (code ++ i ∷ []) (instruction m a)
    by_place j a at mark (inl e) =
        let same : of.0 ≡ a = at_one m.assigns k of.0 a of.1 (subst (λ (n : ℕ). slice_get m.assigns n ≡ Some a) e at) in
        let here : Contains (i ∷ []) (instruction m a) = (0, lit< tt, of.2 ∙ ap (λ (b : Assign). instruction m b) same) in
        Contains-append_right code (i ∷ []) (instruction m a) here
    by_place j a at mark (inr other) = Contains-append_left code (i ∷ []) (instruction m a) (before.marked j a at (sym (get_or-set_other marks k j true false other) ∙ mark))

bare_at : (count k : ℕ) → slice_index_or (replicate count false) k false ≡ true → ⊥
bare_at count k e = at (cases_lt k count)
  where
    at : (k < count) ⊎ (count ≤ k) → ⊥
    at (inl l) = cc (sym (get_or-replicate count k false false l) ∙ e)
    at (inr l) = cc (sym (get_or_past (replicate count false) k false (let n : length (replicate count false) ≡ count = length-replicate count false in omega (arith, n, l))) ∙ e)

pub all_there : (m : Netlist) (code : List Instruction) (marks : List Bool) → AreInstructions m code marks → ((k : ℕ) (a : Assign) → slice_get m.assigns k ≡ Some a → array_of a.right ≡ None → slice_index_or marks k false ≡ true) → HasInstructions m code
all_there m code marks are covered = record { plain = are.plain; all = λ k a at plain. are.marked k a at (covered k a at plain) }

pub none_read : (m : Netlist) (count : ℕ) (marks : List Bool) → marks ≡ replicate count false → AreReadWhereMarked m marks
none_read m count marks is x marked = absurd (bare_at count x (sym (ap (λ (bs : List Bool). slice_index_or bs x false) is) ∙ marked))
