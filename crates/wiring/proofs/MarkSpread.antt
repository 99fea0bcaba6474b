-- Marks spread along what reads what.
use Rattle.std.proofs.Common.{◌≡◌, ℕ, zero, suc, ◌<◌, ◌≤◌, Bool, true, false, ◌||◌, List, [], ◌∷◌, ◌++◌, length, set, get_or, refl, ap, subst, sym, ◌∙◌, inl, inr, arith, Some}
use Rattle.std.specs.Prelude.{Contains, All, map, slice_get}
use Rattle.std.specs.Option.{option_map}
use Rattle.std.proofs.lemmas.Option.{slice_get-map}
use Rattle.std.proofs.lemmas.List.Elements.{All-contains, All-append, All-map, Contains-append_left, Contains-append_right}
use Rattle.wiring.specs.declared.netlist.Net.{Net}
use Rattle.wiring.specs.declared.netlist.Net.TheVariants.{Input, Output, Wire, Reg}
use Rattle.wiring.specs.declared.netlist.Holder.{Holder}
use Rattle.wiring.specs.declared.netlist.Holder.TheVariants.{OfNet}
use Rattle.wiring.specs.declared.netlist.Assign.{Assign}
use Rattle.wiring.specs.declared.netlist.Update.{Update}
use Rattle.wiring.specs.declared.marks.Marks.{Marks}
use Rattle.wiring.specs.Netlist.{Netlist, first_din, IsDriven, update_target}
use Rattle.wiring.specs.BufferBits.{Drive, IsFed, by_port, by_drive, drives, assign_drive, update_drive}
use Rattle.wiring.specs.Marks.{is_marked, any_marked, HasMark, HasMarks, unmarked, Adds, IsSound, Spreads, IsOpen, IsClosed}
use Rattle.wiring.specs.declared.netlist.Update.TheVariants.{Set, Put}
use Rattle.wiring.specs.Rules.{KeepsRules, AssignIsSound, UpdateIsSound}
use Rattle.wiring.proofs.Lists.{Contains-at, All-at}
use Rattle.wiring.proofs.Nets.{holder_cases}

pub any_append : (d : Marks) (xs ys : List Holder) → any_marked d (xs ++ ys) ≡ (any_marked d xs || any_marked d ys)
any_append d [] ys = refl
any_append d (x ∷ xs) ys = grouped (is_marked d x) (any_marked d xs) (any_marked d (xs ++ ys)) (any_marked d ys) (any_append d xs ys)
  where
    grouped : (a b e c : Bool) → e ≡ (b || c) → (a || e) ≡ ((a || b) || c)
    grouped true b e c h = refl
    grouped false b e c h = h

-- a mark in the place of none
pub unmarked-set : (marks : List Bool) (i : ℕ) → i < length marks → get_or marks i false ≡ false → suc (unmarked (set marks i true)) ≡ unmarked marks
unmarked-set [] i l e = absurd (omega (arith, l))
unmarked-set (true ∷ marks) zero l e = cc
unmarked-set (false ∷ marks) zero l e = refl
unmarked-set (true ∷ marks) (suc i) l e = unmarked-set marks i (omega (arith, l)) e
unmarked-set (false ∷ marks) (suc i) l e = ap suc (unmarked-set marks i (omega (arith, l)) e)

-- something that is read has a mark
pub any_read : (d : Marks) (hs : List Holder) → any_marked d hs ≡ true → (h : Holder) × Contains hs h × (is_marked d h ≡ true)
any_read d [] e = cc
any_read d (x ∷ xs) e = either (is_marked d x) refl e (any_read d xs)
  where
    either : (b : Bool) → is_marked d x ≡ b → (b || any_marked d xs) ≡ true → (any_marked d xs ≡ true → (h : Holder) × Contains xs h × (is_marked d h ≡ true)) → (h : Holder) × Contains (x ∷ xs) h × (is_marked d h ≡ true)
    either true is e later = (x, (0, omega arith, refl), is)
    either false is e later = let there = later e in (there.0, (suc there.1.0, omega (arith, there.1.1), there.1.2), there.2)

pub read_any : (d : Marks) (hs : List Holder) (h : Holder) → Contains hs h → is_marked d h ≡ true → any_marked d hs ≡ true
read_any d [] h (k, l, e) is = absurd (omega (arith, l))
read_any d (x ∷ xs) h (zero, l, e) is = ap (λ (b : Bool). b || any_marked d xs) (ap (is_marked d) e ∙ is)
read_any d (x ∷ xs) h (suc k, l, e) is = later (is_marked d x) (any_marked d xs) (read_any d xs h (k, omega (arith, l), e) is)
  where
    later : (a b : Bool) → b ≡ true → (a || b) ≡ true
    later true b e = refl
    later false b e = e

module _ (m : Netlist) where
  pub Spreads-refl : (d : Marks) → Spreads m d d
  Spreads-refl d = record { kept = λ h is. is; sound = λ s. s; nearer = omega arith; size = λ s. s }

  pub Spreads-trans : (d e f : Marks) → Spreads m d e → Spreads m e f → Spreads m d f
  Spreads-trans d e f a b = record {
    kept = λ h is. b.kept h (a.kept h is);
    sound = λ s. b.sound (a.sound s);
    nearer = omega (arith, a.nearer, b.nearer);
    size = λ s. b.size (a.size s);
  }

  pub none_sound : (d : Marks) → ((h : Holder) → is_marked d h ≡ false) → IsSound m d
  none_sound d none h is = absurd (apart (sym (none h) ∙ is))
    where
      apart : false ≡ true → ⊥
      apart e = cc

  -- a mark more on what is in the set
  pub add_spreads : (old new : Marks) (h : Holder) → (IsSound m old → IsFed m h) → Adds old new h → Spreads m old new
  add_spreads old new h fed adds = record {
    kept = λ k is. elim (holder_cases k h) as (λ _. is_marked new k ≡ true) [
      | inl e ↦ ap (is_marked new) e ∙ adds.added
      | inr ne ↦ adds.others k ne ∙ is
    ];
    sound = λ s k is. elim (holder_cases k h) as (λ _. IsFed m k) [
      | inl e ↦ subst (IsFed m) (sym e) (fed s)
      | inr ne ↦ s k (sym (adds.others k ne) ∙ is)
    ];
    nearer = omega (arith, adds.nearer);
    size = adds.size m;
  }

  pub open_spreads : (old new : Marks) (d : Drive) (h : Holder) → Contains (drives m) d → IsOpen old d h → Adds old new h → Spreads m old new
  open_spreads old new d h in' open' adds =
      let read = any_read old d.reads open'.reads in
      add_spreads old new h (λ s. by_drive d in' read.1 open'.target (s read.0 read.2)) adds

  -- marks on each din that are closed are on all that is in the set
  pub closed_complete : (d : Marks) → ((i : ℕ) → first_din m ≤ i → i < length m.inputs → is_marked d (OfNet (Input i)) ≡ true) → All (IsClosed d) (drives m) → (h : Holder) → IsFed m h → is_marked d h ≡ true
  closed_complete d dins closed h (by_port i le l) = dins i le l
  closed_complete d dins closed h (by_drive {from = from} drive in' read is fed) =
      ap (is_marked d) (sym is) ∙ All-contains (IsClosed d) (drives m) drive closed in' (read_any d drive.reads from read (closed_complete d dins closed from fed))

  pub assign_in : (k : ℕ) (a : Assign) → slice_get m.assigns k ≡ Some a → Contains (drives m) (assign_drive a)
  assign_in k a at = Contains-append_left (map assign_drive m.assigns) (map update_drive m.updates) (assign_drive a) (Contains-at (map assign_drive m.assigns) k (assign_drive a) (slice_get-map assign_drive m.assigns k ∙ ap (option_map assign_drive) at))

  pub update_in : (k : ℕ) (u : Update) → slice_get m.updates k ≡ Some u → Contains (drives m) (update_drive u)
  update_in k u at = Contains-append_right (map assign_drive m.assigns) (map update_drive m.updates) (update_drive u) (Contains-at (map update_drive m.updates) k (update_drive u) (slice_get-map update_drive m.updates k ∙ ap (option_map update_drive) at))

  pub all_drives : (d : Marks) → All (λ (a : Assign). IsClosed d (assign_drive a)) m.assigns → All (λ (u : Update). IsClosed d (update_drive u)) m.updates → All (IsClosed d) (drives m)
  all_drives d a u = All-append (IsClosed d) (map assign_drive m.assigns) (map update_drive m.updates) (All-map (IsClosed d) assign_drive m.assigns a) (All-map (IsClosed d) update_drive m.updates u)

  pub assign_spreads : (old new : Marks) (k : ℕ) (a : Assign) → slice_get m.assigns k ≡ Some a → IsOpen old (assign_drive a) (assign_drive a).target → Adds old new (assign_drive a).target → Spreads m old new
  assign_spreads old new k a at is adds = open_spreads old new (assign_drive a) (assign_drive a).target (assign_in k a at) is adds

  pub update_spreads : (old new : Marks) (k : ℕ) (u : Update) → slice_get m.updates k ≡ Some u → IsOpen old (update_drive u) (update_drive u).target → Adds old new (update_drive u).target → Spreads m old new
  update_spreads old new k u at is adds = open_spreads old new (update_drive u) (update_drive u).target (update_in k u at) is adds

  pub din_spreads : (old new : Marks) (i : ℕ) → first_din m ≤ i → i < length m.inputs → Adds old new (OfNet (Input i)) → Spreads m old new
  din_spreads old new i le l adds = add_spreads old new (OfNet (Input i)) (λ s. by_port i le l) adds

  pub assign_opens : (old new : Marks) (k : ℕ) (a : Assign) (h : Holder) → slice_get m.assigns k ≡ Some a → IsOpen old (assign_drive a) h → Adds old new h → Spreads m old new
  assign_opens old new k a h at is adds = open_spreads old new (assign_drive a) h (assign_in k a at) is adds

  pub update_opens : (old new : Marks) (k : ℕ) (u : Update) (h : Holder) → slice_get m.updates k ≡ Some u → IsOpen old (update_drive u) h → Adds old new h → Spreads m old new
  update_opens old new k u h at is adds = open_spreads old new (update_drive u) h (update_in k u at) is adds

  -- each target has a place for its mark
  module _ (rules : KeepsRules m) (d : Marks) (size : HasMarks m d) where
    driven_mark : (n : Net) → IsDriven m n → HasMark d (OfNet n)
    driven_mark (Input i) l = absurd l
    driven_mark (Output i) l = omega (arith, l, size.outputs)
    driven_mark (Wire i) l = omega (arith, l, size.wires)
    driven_mark (Reg i) l = absurd l

    sound_mark : (u : Update) → UpdateIsSound m u → HasMark d (update_target u)
    sound_mark (Set r a) s = omega (arith, s.0, size.regs)
    sound_mark (Put x i a) s = omega (arith, s.0, size.arrays)

    pub assign_place : (k : ℕ) (a : Assign) → slice_get m.assigns k ≡ Some a → HasMark d (OfNet a.target)
    assign_place k a at = driven_mark a.target (All-at (AssignIsSound m) m.assigns k a rules.assigns at).target

    pub update_place : (k : ℕ) (u : Update) → slice_get m.updates k ≡ Some u → HasMark d (update_target u)
    update_place k u at = sound_mark u (All-at (UpdateIsSound m) m.updates k u rules.updates at)
