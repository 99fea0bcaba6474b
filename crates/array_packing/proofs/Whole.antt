-- A netlist whose arrays stay as they are is a packing of itself.
use Rattle.std.proofs.Common.{◌≡◌, ℕ, zero, suc, ◌+◌, ◌<◌, List, [], ◌∷◌, length, refl, ap, subst, sym, ◌∙◌, arith, inl, inr, Some}
use Rattle.std.specs.Prelude.{Contains, slice_get, unwrap_or}
use Rattle.std.specs.Option.{option_map}
use Rattle.std.specs.List.{AllZip}
use Rattle.std.proofs.lemmas.List.{take_all}
use Rattle.std.proofs.lemmas.List.Elements.{All-contains}
use Rattle.std.proofs.lemmas.Option.{same_Some, slice_get_within, slice_get_cases}
use Rattle.wiring.specs.declared.right.Right.{Right}
use Rattle.wiring.specs.declared.right.Right.TheVariants.{Copy, Not, Binary, Choose, Join, Repeat, Bit, Slice, Word}
use Rattle.wiring.specs.declared.netlist.Net.{Net}
use Rattle.wiring.specs.declared.netlist.Shape.{Shape}
use Rattle.wiring.specs.declared.netlist.Assign.{Assign}
use Rattle.wiring.specs.declared.netlist.Update.{Update}
use Rattle.wiring.specs.declared.netlist.Update.TheVariants.{Set, Put}
use Rattle.wiring.specs.Netlist.{Netlist, word_width}
use Rattle.wiring.specs.Rules.{KeepsRules, AssignIsSound, UpdateIsSound, ArrayIsDeclared}
use Rattle.wiring.proofs.Lists.{All-from_contains}
use Rattle.array_packing.specs.declared.slots.Slot.{Slot}
use Rattle.array_packing.specs.Packing.{assign, PutsJoined, one, whole_slot, whole_slots, IsAssigned, IsUpdated, IsReadOf, IsPutOf, HasSlot, IsPacked, IsFilledTo, IsPacking, as_word, itself, empty, more}
use Rattle.array_packing.proofs.Simulating.{zip_from}

whole_at : (x : ℕ) (arrays : List Shape) (k : ℕ) (s : Shape) → slice_get arrays k ≡ Some s → slice_get (whole_slots x arrays) k ≡ Some (whole_slot (x + k) s)
whole_at x [] k s e = absurd (omega (arith, slice_get_within [] k s e))
whole_at x (q ∷ arrays) zero s e =
    ap (λ (r : Shape). Some (whole_slot x r)) (same_Some q s e) ∙ ap (λ (n : ℕ). Some (whole_slot n s)) (let h : x ≡ x + zero = omega arith in h)
whole_at x (q ∷ arrays) (suc k) s e =
    whole_at (suc x) arrays k s e ∙ ap (λ (n : ℕ). Some (whole_slot n s)) (let h : suc x + k ≡ x + suc k = omega arith in h)

whole_long : (x : ℕ) (arrays : List Shape) → length (whole_slots x arrays) ≡ length arrays
whole_long x [] = refl
whole_long x (s ∷ arrays) = ap suc (whole_long (suc x) arrays)

module _ (m : Netlist) (rules : KeepsRules m) where
  abbrev slots : List Slot
  slots = whole_slots 0 m.arrays

  slot_at : (x : ℕ) (s : Shape) → slice_get m.arrays x ≡ Some s → slice_get slots x ≡ Some (whole_slot x s)
  slot_at x s e = whole_at 0 m.arrays x s e ∙ ap (λ (n : ℕ). Some (whole_slot n s)) (let h : 0 + x ≡ x = omega arith in h)

  record Found (x : ℕ) : Type 0 where
    shape : Shape
    at : slice_get m.arrays x ≡ Some shape

  find : (x : ℕ) → x < length m.arrays → Found x
  find x l =
      elim (slice_get_cases m.arrays x).1 as (λ _. Found x) [
        | inl found ↦ record { shape = found.0; at = found.2 }
        | inr past ↦ absurd (omega (arith, past.0, l))
      ]

  places : AllZip (λ (k : Slot) (s : Shape). HasSlot m k s) slots m.arrays
  places = zip_from (λ (k : Slot) (s : Shape). HasSlot m k s) slots m.arrays (whole_long 0 m.arrays) (λ x k s e f.
      subst (λ (z : Slot). HasSlot m z s) (same_Some (whole_slot x s) k (sym (slot_at x s f) ∙ e)) (record { width = refl; there = s; at = f; depth = refl }))

  width_is : (x : ℕ) (s : Shape) → slice_get m.arrays x ≡ Some s → word_width m x ≡ s.width
  width_is x s e = ap (λ o. unwrap_or (option_map (λ (s : Shape). s.width) o) 0) e

  assigned : (n : Net) (r : Right Net ℕ) → Contains m.assigns (assign n r) → ArrayIsDeclared m r → IsAssigned m slots n r
  assigned n (Word x i) c l =
      let f = find x l in
      (whole_slot x f.shape, slot_at x f.shape f.at, as_word refl (width_is x f.shape f.at) c)
  assigned n (Copy a) c l = c
  assigned n (Not a) c l = c
  assigned n (Binary o a b) c l = c
  assigned n (Choose d a b) c l = c
  assigned n (Join a b) c l = c
  assigned n (Repeat k a) c l = c
  assigned n (Bit v k) c l = c
  assigned n (Slice v h l) c d = c

  read_of : (n : Net) (r : Right Net ℕ) → Contains m.assigns (assign n r) → ArrayIsDeclared m r → IsReadOf m slots r
  read_of n (Word x i) c l =
      let f = find x l in
      (x, whole_slot x f.shape, n, slot_at x f.shape f.at, refl, c)
  read_of n (Copy a) c l = tt
  read_of n (Not a) c l = tt
  read_of n (Binary o a b) c l = tt
  read_of n (Choose d a b) c l = tt
  read_of n (Join a b) c l = tt
  read_of n (Repeat k a) c l = tt
  read_of n (Bit v k) c l = tt
  read_of n (Slice v h l) c d = tt

  updated : (u : Update) → Contains m.updates u → UpdateIsSound m u → IsUpdated m slots u
  updated (Set r a) c ok = c
  updated (Put x i a) c ok =
      let f = find x ok.0 in
      (whole_slot x f.shape, a, slot_at x f.shape f.at, c, itself)

  put_of : (u : Update) → Contains m.updates u → UpdateIsSound m u → IsPutOf m slots u
  put_of (Set r a) c ok = tt
  put_of (Put x i a) c ok =
      let f = find x ok.0 in
      (x, whole_slot x f.shape, a, slot_at x f.shape f.at, refl, c)

  joined_of : (u : Update) → Contains m.updates u → PutsJoined m m u
  joined_of (Set r a) c = tt
  joined_of (Put x i a) c = one (x, c)

  array_there : (a : Assign) → Contains m.assigns a → ArrayIsDeclared m a.right
  array_there a c = (All-contains (AssignIsSound m) m.assigns a rules.assigns c).right.array

  update_sound : (u : Update) → Contains m.updates u → UpdateIsSound m u
  update_sound u c = All-contains (UpdateIsSound m) m.updates u rules.updates c

  packed_whole : IsPacked m m slots
  packed_whole = record {
    enable = refl;
    inputs = refl;
    outputs = refl;
    regs = refl;
    wires = take_all (length m.wires) m.wires (omega arith);
    places = places;
    assigns = All-from_contains (λ (a : Assign). IsAssigned m slots a.target a.right) m.assigns (λ a c. assigned a.target a.right c (array_there a c));
    updates = All-from_contains (IsUpdated m slots) m.updates (λ u c. updated u c (update_sound u c));
    reads = All-from_contains (λ (a : Assign). IsReadOf m slots a.right) m.assigns (λ a c. read_of a.target a.right c (array_there a c));
    puts = All-from_contains (IsPutOf m slots) m.updates (λ u c. put_of u c (update_sound u c));
    joined = All-from_contains (PutsJoined m m) m.updates joined_of;
  }

  pub whole_packing : IsPacking m m slots
  whole_packing = record {
    packed = packed_whole;
    filled = λ g s e. subst (IsFilledTo slots g) (let h : 0 + s.width ≡ s.width = omega arith in h) (more g (whole_slot g s) (slot_at g s e) refl empty);
    arrays = refl;
    bits = λ k. (λ is. is, λ is. is);
    once = λ are. are;
  }
