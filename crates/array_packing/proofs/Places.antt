-- Slots of the first arrays, and of one more.
use Rattle.std.proofs.Common.{◌≡◌, ℕ, ◌+◌, List, length, subst, arith, inl, inr, Some}
use Rattle.std.specs.Prelude.{slice_get}
use Rattle.std.specs.List.{AllZip}
use Rattle.std.proofs.lemmas.Bool.{cases_lt}
use Rattle.std.proofs.lemmas.Option.{slice_get_within}
use Rattle.wiring.specs.declared.netlist.Shape.{Shape}
use Rattle.wiring.specs.Netlist.{Netlist}
use Rattle.array_packing.specs.declared.slots.Slot.{Slot}
use Rattle.array_packing.specs.Packing.{HasSlot, HaveSlotsTo}
use Rattle.array_packing.proofs.Simulating.{zip_from}

pub one_more : (m : Netlist) (slots : List Slot) (arrays : List Shape) (n : ℕ) → ((k : Slot) (s : Shape) → slice_get slots n ≡ Some k → slice_get arrays n ≡ Some s → HasSlot m k s) → HaveSlotsTo m slots arrays n →
    HaveSlotsTo m slots arrays (n + 1)
one_more m slots arrays n here before x k s l at_k at_s =
    elim (cases_lt x n) as (λ _. HasSlot m k s) [
      | inl less ↦ before x k s less at_k at_s
      | inr most ↦
          let same : x ≡ n = omega (arith, l, most) in
          here k s (subst (λ (i : ℕ). slice_get slots i ≡ Some k) same at_k) (subst (λ (i : ℕ). slice_get arrays i ≡ Some s) same at_s)
    ]

pub all_slots : (m : Netlist) (slots : List Slot) (arrays : List Shape) → length slots ≡ length arrays → HaveSlotsTo m slots arrays (length arrays) →
    AllZip (λ (k : Slot) (s : Shape). HasSlot m k s) slots arrays
all_slots m slots arrays long all =
    zip_from (λ (k : Slot) (s : Shape). HasSlot m k s) slots arrays long (λ x k s e f. all x k s (slice_get_within arrays x s f) e f)
