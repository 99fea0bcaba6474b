-- A snapshot with the contents after the edge is one that a simulator can be in.
use Rattle.std.proofs.Common.{◌≡◌, ℕ, ◌^◌, ◌<◌, List, [], length, get_or, set, ap, sym, subst, ◌∙◌, inl, inr, arith, Some}
use Rattle.std.specs.Prelude.{slice_get, slice_index, slice_index_or, slice_set}
use Rattle.std.proofs.Math.Pow.{pow_pos}
use Rattle.std.proofs.lemmas.List.{length-set, get_or-set_same, get_or-set_other, get_or_past, set_past}
use Rattle.std.proofs.lemmas.List.Elements.{All-contains}
use Rattle.std.proofs.lemmas.Option.{get_or_from_slice_get}
use Rattle.std.proofs.lemmas.Bool.{cases_eq, cases_lt}
use Rattle.wiring.specs.declared.right.Atom.{Atom}
use Rattle.wiring.specs.declared.netlist.Net.{Net}
use Rattle.wiring.specs.declared.netlist.Net.TheVariants.{Input, Output, Wire, Reg}
use Rattle.wiring.specs.declared.netlist.Update.{Update}
use Rattle.wiring.specs.declared.netlist.Update.TheVariants as update
use Rattle.wiring.specs.Rights.{atom_nets, atom_value, atom_width}
use Rattle.wiring.specs.Netlist.{Netlist, net_width, word_width, IsDeclared, update_target}
use Rattle.wiring.specs.Snapshot.{Contents, Snapshot, net_value, word_value, IsNext, TakesPlace}
use Rattle.wiring.specs.Rules.{KeepsRules, AtomIsSound, UpdateIsSound}
use Rattle.wiring.specs.declared.netlist.Holder.TheVariants.{OfNet, OfArray}
use Rattle.wiring.proofs.Lists.{All-at}
use Rattle.wiring.proofs.Fits.{atom_lt}
use Rattle.cycle_sim.specs.Slots.{depth_at}
use Rattle.cycle_sim.specs.Ready.{IsReady, ArraysFit}

-- a list with one number changed has numbers below the bound
set_below : (xs : List ℕ) (i x bound : ℕ) → x < bound → ((j : ℕ) → get_or xs j 0 < bound) → (j : ℕ) → get_or (set xs i x) j 0 < bound
set_below xs i x bound l h j =
    elim (cases_eq j i) as (λ _. get_or (set xs i x) j 0 < bound) [
      | inl e ↦ elim (cases_lt i (length xs)) as (λ _. get_or (set xs i x) j 0 < bound) [
        | inl within ↦ subst (λ (k : ℕ). get_or (set xs i x) k 0 < bound) (sym e) (rw (get_or-set_same xs i x 0 within) l)
        | inr past ↦ rw (set_past xs i x past) (h j)
      ]
      | inr ne ↦ rw (get_or-set_other xs i j x 0 ne) (h j)
    ]

same_reg : (t r : ℕ) → OfNet (Reg t) ≡ OfNet (Reg r) → r ≡ t
same_reg t r e = cc

same_array : (y x : ℕ) → OfArray y ≡ OfArray x → x ≡ y
same_array y x e = cc

not_reg : (x r : ℕ) → OfArray x ≡ OfNet (Reg r) → ⊥
not_reg x r e = cc

module _ (m : Netlist) (rules : KeepsRules m) (s : Snapshot) (new : Contents) (ready : IsReady m s) (fit : ArraysFit m s.contents.arrays) (next : IsNext m s new) where
  abbrev pub later : Snapshot
  later = record { inputs = s.inputs; outputs = s.outputs; wires = s.wires; contents = new }

  atom_fits : (a : Atom Net) → AtomIsSound m a → atom_value (net_value s) a < 2 ^ atom_width (net_width m) a
  atom_fits a sound = atom_lt (net_width m) (word_width m) (word_value s) (net_value s) ready.words a (λ n c. ready.nets n (All-contains (IsDeclared m) (atom_nets a) n sound.nets c)) sound.constants

  takes : (k : ℕ) (u : Update) → slice_get m.updates k ≡ Some u → TakesPlace s new u
  takes k u at = All-at (TakesPlace s new) m.updates k u next.updates at

  reg_fits : (u : Update) (r : ℕ) → update_target u ≡ OfNet (Reg r) → UpdateIsSound m u → TakesPlace s new u → slice_index new.regs r < 2 ^ net_width m (Reg r)
  reg_fits (update.Put x i a) r e sound takes = absurd (not_reg x r e)
  reg_fits (update.Set q a) r e sound takes =
      let v : slice_index new.regs q ≡ atom_value (net_value s) a = get_or_from_slice_get new.regs q (atom_value (net_value s) a) 0 takes in
      let lt = atom_fits a sound.1 in
      let here : slice_index new.regs q < 2 ^ net_width m (Reg q) = rw v (subst (λ (w : ℕ). atom_value (net_value s) a < 2 ^ w) sound.2 lt) in
      subst (λ (z : ℕ). slice_index new.regs z < 2 ^ net_width m (Reg z)) (sym (same_reg q r e)) here

  nets : (n : Net) → IsDeclared m n → net_value later n < 2 ^ net_width m n
  nets (Input i) d = ready.nets (Input i) d
  nets (Output i) d = ready.nets (Output i) d
  nets (Wire i) d = ready.nets (Wire i) d
  nets (Reg r) d =
      let u = rules.updated.some (OfNet (Reg r)) d in
      reg_fits u.1 r u.3 (All-at (UpdateIsSound m) m.updates u.0 u.1 rules.updates u.2) (takes u.0 u.1 u.2)

  array_fits : (u : Update) (x : ℕ) → update_target u ≡ OfArray x → UpdateIsSound m u → TakesPlace s new u →
      ((j : ℕ) → slice_index (slice_index_or new.arrays x []) j < 2 ^ word_width m x) × (depth_at new.arrays x ≡ depth_at s.contents.arrays x)
  array_fits (update.Set q a) x e sound takes = absurd (not_reg x q (sym e))
  array_fits (update.Put y i a) x e sound takes =
      let words = slice_index_or s.contents.arrays y [] in
      let index = atom_value (net_value s) i in
      let value = atom_value (net_value s) a in
      let v : slice_index_or new.arrays y [] ≡ slice_set words index value = get_or_from_slice_get new.arrays y (slice_set words index value) [] takes in
      let lt : value < 2 ^ word_width m y = subst (λ (w : ℕ). value < 2 ^ w) sound.3 (atom_fits a sound.2) in
      let below : (j : ℕ) → slice_index (slice_index_or new.arrays y []) j < 2 ^ word_width m y =
      λ j. subst (λ (l : List ℕ). slice_index l j < 2 ^ word_width m y) (sym v) (set_below words index value (2 ^ word_width m y) lt (λ k. ready.words y k) j) in
      let deep : depth_at new.arrays y ≡ depth_at s.contents.arrays y = ap length v ∙ length-set words index value in
      subst (λ (z : ℕ). ((j : ℕ) → slice_index (slice_index_or new.arrays z []) j < 2 ^ word_width m z) × (depth_at new.arrays z ≡ depth_at s.contents.arrays z)) (sym (same_array y x e)) (below, deep)

  each_array : (x : ℕ) → ((j : ℕ) → slice_index (slice_index_or new.arrays x []) j < 2 ^ word_width m x) × (depth_at new.arrays x ≡ depth_at s.contents.arrays x)
  each_array x =
      elim (cases_lt x (length m.arrays)) as (λ _. ((j : ℕ) → slice_index (slice_index_or new.arrays x []) j < 2 ^ word_width m x) × (depth_at new.arrays x ≡ depth_at s.contents.arrays x)) [
        | inl l ↦
            let u = rules.updated.some (OfArray x) l in
            array_fits u.1 x u.3 (All-at (UpdateIsSound m) m.updates u.0 u.1 rules.updates u.2) (takes u.0 u.1 u.2)
        | inr g ↦
            let none : slice_index_or new.arrays x [] ≡ [] = get_or_past new.arrays x [] (omega (arith, g, next.arrays, fit.count)) in
            let before : slice_index_or s.contents.arrays x [] ≡ [] = get_or_past s.contents.arrays x [] (omega (arith, g, fit.count)) in
            (λ j. subst (λ (l : List ℕ). slice_index l j < 2 ^ word_width m x) (sym none) (pow_pos (word_width m x)), ap length none ∙ sym (ap length before))
      ]

  pub later_ready : IsReady m later
  later_ready = record {
    shape = record { inputs = ready.shape.inputs; regs = next.regs ∙ ready.shape.regs; wires = ready.shape.wires; outputs = ready.shape.outputs };
    nets = nets;
    words = λ a i. (each_array a).0 i;
  }

  pub later_fit : ArraysFit m new.arrays
  later_fit = record {
    count = next.arrays ∙ fit.count;
    deep = λ a. (each_array a).1 ∙ fit.deep a;
  }
