-- How far up slots fill arrays.
use Rattle.std.proofs.Common.{◌≡◌, ◌≢◌, ◌⊎◌, ℕ, ◌+◌, ◌<◌, List, length, get_or, set, replicate, ap, subst, sym, ◌∙◌, arith, inl, inr, Some}
use Rattle.std.specs.Prelude.{slice_get, slice_index, slice_set}
use Rattle.std.proofs.lemmas.List.{length-replicate, get_or-replicate, get_or-set_other, get_or-set_same, get_or_past}
use Rattle.std.proofs.lemmas.Bool.{cases_lt}
use Rattle.std.proofs.lemmas.Option.{get_or_from_slice_get}
use Rattle.wiring.specs.declared.netlist.Shape.{Shape}
use Rattle.wiring.specs.Netlist.{Netlist}
use Rattle.array_packing.specs.declared.slots.Slot.{Slot}
use Rattle.array_packing.specs.Packing.{IsFilledTo, AreFilled, AreFilledTo, widths_of, empty, more}
use Rattle.array_packing.proofs.Simulating.{at_map}

abbrev zeros : ℕ → List ℕ
zeros n = replicate n 0

at_zeros : (n g : ℕ) → get_or (zeros n) g 0 ≡ 0
at_zeros n g =
    elim (cases_lt g (length (zeros n))) as (λ _. get_or (zeros n) g 0 ≡ 0) [
      | inl l ↦ get_or-replicate n g 0 0 (let long : length (zeros n) ≡ n = length-replicate n 0 in omega (arith, l, long))
      | inr past ↦ get_or_past (zeros n) g 0 past
    ]

-- nothing is filled at first
pub none_filled : (slots : List Slot) (n : ℕ) → AreFilledTo slots (replicate n 0)
none_filled slots n g = subst (IsFilledTo slots g) (sym (at_zeros n g)) empty

compare : (m n : ℕ) → (m ≡ n) ⊎ (m ≢ n)
compare m n =
    elim (cases_lt m n) as (λ _. (m ≡ n) ⊎ (m ≢ n)) [
      | inl l ↦ inr (λ e. omega (arith, l, e))
      | inr g ↦ elim (cases_lt n m) as (λ _. (m ≡ n) ⊎ (m ≢ n)) [ inl l ↦ inr (λ e. omega (arith, l, e)) | inr h ↦ inl (omega (arith, g, h)) ]
    ]

-- a slot that begins where its array is filled up to fills it further
pub slot_filled : (slots : List Slot) (reached : List ℕ) (x : ℕ) (k : Slot) → slice_get slots x ≡ Some k → k.array < length reached → slice_index reached k.array ≡ k.low → AreFilledTo slots reached →
    AreFilledTo slots (slice_set reached k.array (k.low + k.width))
slot_filled slots reached x k at within low filled g =
    elim (compare g k.array) as (λ _. IsFilledTo slots g (get_or (set reached k.array (k.low + k.width)) g 0)) [
      | inl e ↦
          let high : get_or (set reached k.array (k.low + k.width)) g 0 ≡ k.low + k.width =
          ap (λ (h : ℕ). get_or (set reached k.array (k.low + k.width)) h 0) e ∙ get_or-set_same reached k.array (k.low + k.width) 0 within in
          let below : IsFilledTo slots g k.low = subst (IsFilledTo slots g) (ap (λ (h : ℕ). get_or reached h 0) e ∙ low) (filled g) in
          subst (IsFilledTo slots g) (sym high) (more x k at (sym e) below)
      | inr ne ↦ subst (IsFilledTo slots g) (sym (get_or-set_other reached k.array g (k.low + k.width) 0 ne)) (filled g)
    ]

-- filled up to the widths
pub all_filled : (new : Netlist) (slots : List Slot) → AreFilledTo slots (widths_of new.arrays) → AreFilled new slots
all_filled new slots filled g s at =
    subst (IsFilledTo slots g) (get_or_from_slice_get (widths_of new.arrays) g s.width 0 (at_map (λ (s : Shape). s.width) new.arrays g s at)) (filled g)
