-- What is added beside the counters: wires, and registers that test them.
use Rattle.std.proofs.Common.{◌≡◌, ℕ, zero, suc, ◌<◌, ◌≤◌, ◌==◌, Bool, true, false, List, [], ◌∷◌, ◌++◌, length, Option, None, Some, refl, sym, ap, subst, ◌∙◌, inl, inr, arith}
use Rattle.std.specs.Prelude.{All, Contains, IfSome, IsTrue, not, slice_get, if◌then◌else◌}
use Rattle.std.specs.List.{list_any}
use Rattle.std.proofs.lemmas.List.Elements.{All-contains, Contains-append_cases}
use Rattle.wiring.specs.declared.right.Atom.TheVariants as atom
use Rattle.wiring.specs.declared.right.Right.TheVariants.{Choose}
use Rattle.wiring.specs.declared.netlist.Net.{Net}
use Rattle.wiring.specs.declared.netlist.Net.TheVariants.{Reg}
use Rattle.wiring.specs.declared.netlist.Holder.{Holder}
use Rattle.wiring.specs.declared.netlist.Holder.TheVariants.{OfNet}
use Rattle.wiring.specs.declared.netlist.Update.{Update}
use Rattle.wiring.specs.declared.netlist.Update.TheVariants.{Set}
use Rattle.wiring.specs.Netlist.{Netlist, net_width}
use Rattle.wiring.specs.Snapshot.{Snapshot, net_value}
use Rattle.net_build.specs.Includes.{Includes, InEach, AtEachEdge}
use Rattle.net_build.specs.Draft.{IsNet, UpdatedBut, number, with_reg, with_update}
use Rattle.net_build.specs.Runs.{NeverStops, IsStill, StillBut}
use Rattle.net_build.specs.Control.{IsMadeOf, by_itself, is_control_but, IsControlBut, IsControlled, AddsNoReads}
use Rattle.net_build.specs.Depth.{IsWithin, is_start, control_levels}
use Rattle.net_build.specs.Logic.{AddsLogic, AreMadeOf, Computes, IsGate}
use Rattle.net_build.specs.Counters.{control_nets, taken}
use Rattle.net_build.proofs.Parts.{Includes-refl, Includes-trans}
use Rattle.net_build.proofs.Grown.{net_more, width_more}
use Rattle.net_build.proofs.Drafts.{includes_update, includes_reg}
use Rattle.net_build.proofs.Logic.{given_source, choose_computes, first_in, second_in}
use Rattle.net_build.proofs.Control.{made_more, copy_cases}
use Rattle.net_build.proofs.Updating.{but_reg, but_wires, but_update}
use Rattle.net_build.proofs.Standing.{still_reg, still_wires, still_update, still_said, still_ready}
use Rattle.net_build.proofs.Reading.{reads_none, reads_joined}
use Rattle.edge_select.specs.declared.counters.Counters.{Counters}
use Rattle.edge_select.specs.Logic.{IsBit}
use Rattle.edge_select.specs.Pixels.{AddsCounters}
use Rattle.edge_select.specs.Counters.{TakesNext}
use Rattle.edge_select.specs.FrameTests.{band_levels, takes, sources, TakesTest, AddsRegisterOf, ArePlainly, AddsBeside}
use Rattle.edge_select.proofs.Testing.{test_still}

-- the test where `load` is 1, and else what the register has
pub load_is : (b0 b1 : Netlist) (load : Option Net) (l test register n : Net) → load ≡ Some l → Includes b1 b0 → IsBit b0 load → IsNet b0 test → net_width b0 test ≡ 1 → IsNet b0 register → net_width b0 register ≡ 1 →
    IsGate b1 b0 (Choose (atom.Net l) (atom.Net test) (atom.Net register)) n → Computes b1 b0 (sources load test register) 1 (takes load test register) n
load_is b0 b1 load l test register n e grows bit is wide has long g =
    let from : List Net = l ∷ (test ∷ (register ∷ [])) in
    let b : IsNet b0 l × (net_width b0 l ≡ 1) = subst (IsBit b0) e bit in
    let c : Computes b1 b0 (l ∷ (test ∷ (register ∷ []))) 1 (λ s. if net_value s l == 1 then net_value s test else net_value s register) n =
    choose_computes b1 b0 b0 from grows 1 (λ s. net_value s l) (λ s. net_value s test) (λ s. net_value s register) (atom.Net l) (atom.Net test) (atom.Net register) n
    (given_source b0 b0 from 1 l (Includes-refl b0) b.0 b.1 (first_in l (test ∷ (register ∷ []))))
    (given_source b0 b0 from 1 test (Includes-refl b0) is wide (second_in l test (register ∷ [])))
    (given_source b0 b0 from 1 register (Includes-refl b0) has long (suc (suc zero), omega arith, refl)) g in
    subst (λ (o : Option Net). Computes b1 b0 (sources o test register) 1 (takes o test register) n) (sym e) c

-- a register that is made, and takes a test
module _ (b0 b1 b2 b3 b4 : Netlist) (load : Option Net) (first : ℕ) (test register next value : Net) (made : b1 ≡ with_reg b0 1) (at : register ≡ Reg (length b0.regs)) (l2 : AddsLogic b2 b1) (l3 : AddsLogic b3 b2)
    (put : b4 ≡ with_update b3 (Set (number register) (atom.Net value))) (c2 : Computes b2 b1 (sources load test register) 1 (takes load test register) next)
    (c3 : Computes b3 b2 (control_nets b2.enable ++ register ∷ (next ∷ [])) 1 (λ s. taken b2.enable first (net_value s register) (net_value s next) s) value) where
  k : ℕ
  k = length b0.regs

  u : Update
  u = Set (number register) (atom.Net value)

  f10 : Includes b1 b0
  f10 = subst (λ (b : Netlist). Includes b b0) (sym made) (includes_reg b0 1)

  f43 : Includes b4 b3
  f43 = subst (λ (b : Netlist). Includes b b3) (sym put) (includes_update b3 (Set (number register) (atom.Net value)))

  f42 : Includes b4 b2
  f42 = Includes-trans b4 b3 b2 f43 l3.includes

  f41 : Includes b4 b1
  f41 = Includes-trans b4 b2 b1 f42 l2.includes

  f40 : Includes b4 b0
  f40 = Includes-trans b4 b1 b0 f41 f10

  numbered : number register ≡ length b0.regs
  numbered = ap number at

  value_here : InEach b4 (λ m s. net_value s value ≡ taken b4.enable first (net_value s register) (takes load test register s) s)
  value_here m s part settled =
      c3.value m s (Includes-trans m b4 b3 part f43) settled
      ∙ ap (λ (v : ℕ). taken b2.enable first (net_value s register) v s) (c2.value m s (Includes-trans m b4 b2 part f42) settled)
      ∙ ap (λ (e : Bool). taken e first (net_value s register) (takes load test register s) s) (sym f42.enable)

  pub takes_here : AtEachEdge b4 (λ s t. slice_get t.regs (number register) ≡ Some (net_value s value)) → TakesTest b4 load first test register
  takes_here edge = record {
    number = length b0.regs;
    at = at;
    value = value;
    edge = subst (λ (j : ℕ). AtEachEdge b4 (λ s t. slice_get t.regs j ≡ Some (net_value s value))) numbered edge;
    value_is = value_here;
  }

  none_read : AddsNoReads b4 b0
  none_read =
      let none : ℕ → Bool = λ x. false in
      let r2 = reads_joined b2 b1 b0 none l2.includes l2.reads (reads_none b1 b0 none (ap (λ (b : Netlist). b.assigns) made)) in
      let r3 = reads_joined b3 b2 b0 none l3.includes l3.reads r2 in
      reads_joined b4 b3 b0 none f43 (reads_none b4 b3 none (ap (λ (b : Netlist). b.assigns) put)) r3

  all_updated : (free : List Holder) → UpdatedBut b0 free → UpdatedBut b4 free
  all_updated free but =
      let g : Holder = OfNet (Reg (length b0.regs)) in
      let with : UpdatedBut b1 (g ∷ free) = subst (λ (b : Netlist). UpdatedBut b (g ∷ free)) (sym made) (but_reg b0 1 free but) in
      subst (λ (b : Netlist). UpdatedBut b free) (sym put) (but_update b3 (Set (number register) (atom.Net value)) g free (ap (λ (j : ℕ). OfNet (Reg j)) numbered) (but_wires b3 b2 (g ∷ free) l3.wires (but_wires b2 b1 (g ∷ free) l2.wires with)))

  all_still : IsStill b4 [] (OfNet (Reg (length b0.regs))) → (copies : List ℕ) (free : List Holder) → StillBut b0 copies free → StillBut b4 copies free
  all_still still copies free but =
      let g : Holder = OfNet (Reg (length b0.regs)) in
      let with : StillBut b1 copies (g ∷ free) = subst (λ (b : Netlist). StillBut b copies (g ∷ free)) (sym made) (still_reg b0 1 copies free but) in
      let wired : StillBut b3 copies (g ∷ free) = still_wires b3 b2 copies (g ∷ free) l3.includes l3.wires (still_wires b2 b1 copies (g ∷ free) l2.includes l2.wires with) in
      still_said b4 copies g free (still_ready b4 [] copies g (λ before ready. tt) still)
      (subst (λ (b : Netlist). StillBut b copies (g ∷ free)) (sym put) (still_update b3 (Set (number register) (atom.Net value)) copies (g ∷ free) wired))

  -- what it takes is made of rst, en and registers that are no copies
  pub value_control : (copies : List ℕ) → IsControlled b0 copies → IsControlBut b0 copies (OfNet test) → IfSome load (λ l. IsControlBut b0 copies (OfNet l)) → IsControlBut b4 copies (OfNet value)
  value_control copies is of_test of_load =
      let base : Holder → Bool = is_control_but b0.enable copies in
      let own : IsMadeOf b1 (is_control_but b0.enable copies) (OfNet register) = subst (λ (n : Net). IsMadeOf b1 (is_control_but b0.enable copies) (OfNet n)) (sym at) (by_itself own_free) in
      let next_made : IsMadeOf b2 (is_control_but b0.enable copies) (OfNet next) = c2.made_of (is_control_but b0.enable copies) (from_sources load own of_load) in
      let through : AreMadeOf b2 (is_control_but b0.enable copies) (control_nets b2.enable ++ register ∷ (next ∷ [])) =
      λ n c. elim (Contains-append_cases (control_nets b2.enable) (register ∷ (next ∷ [])) n c) as (λ _. IsMadeOf b2 (is_control_but b0.enable copies) (OfNet n)) [
        | inl h ↦ by_itself (port b0.enable n (subst (λ (e : Bool). Contains (control_nets e) n) (Includes-trans b2 b1 b0 l2.includes f10).enable h))
        | inr h ↦ of_two n h (made_more b2 b1 (is_control_but b0.enable copies) l2.includes own) next_made
      ] in
      subst (λ (e : Bool). IsMadeOf b4 (is_control_but e copies) (OfNet value)) (sym f40.enable) (made_more b4 b3 (is_control_but b0.enable copies) f43 (c3.made_of (is_control_but b0.enable copies) through))
    where
      own_free : IsTrue (is_control_but b0.enable copies (OfNet (Reg (length b0.regs))))
      own_free =
          elim (copy_cases copies (length b0.regs)) as (λ _. IsTrue (not (list_any (λ (r : ℕ). r == length b0.regs) copies))) [
            | inl c ↦ absurd (let low : length b0.regs < length b0.regs = All-contains (λ (r : ℕ). r < length b0.regs) copies (length b0.regs) is.there c in omega (arith, low))
            | inr free ↦ free
          ]

      port : (e : Bool) (n : Net) → Contains (control_nets e) n → IsTrue (is_control_but e copies (OfNet n))
      port true n (zero, l, e) = subst (λ (x : Net). IsTrue (is_control_but true copies (OfNet x))) e refl
      port false n (zero, l, e) = subst (λ (x : Net). IsTrue (is_control_but false copies (OfNet x))) e refl
      port true n (suc zero, l, e) = subst (λ (x : Net). IsTrue (is_control_but true copies (OfNet x))) e refl
      port true n (suc (suc i), l, e) = absurd (omega (arith, l))
      port false n (suc i, l, e) = absurd (omega (arith, l))

      of_two : (n : Net) → Contains (register ∷ (next ∷ [])) n → IsMadeOf b2 (is_control_but b0.enable copies) (OfNet register) → IsMadeOf b2 (is_control_but b0.enable copies) (OfNet next) → IsMadeOf b2 (is_control_but b0.enable copies) (OfNet n)
      of_two n (zero, l, e) p q = subst (λ (x : Net). IsMadeOf b2 (is_control_but b0.enable copies) (OfNet x)) e p
      of_two n (suc zero, l, e) p q = subst (λ (x : Net). IsMadeOf b2 (is_control_but b0.enable copies) (OfNet x)) e q
      of_two n (suc (suc i), l, e) p q = absurd (omega (arith, l))

      test_made : IsMadeOf b1 (is_control_but b0.enable copies) (OfNet test)
      test_made = made_more b1 b0 (is_control_but b0.enable copies) f10 of_test

      from_sources : (o : Option Net) → IsMadeOf b1 (is_control_but b0.enable copies) (OfNet register) → IfSome o (λ l. IsControlBut b0 copies (OfNet l)) → AreMadeOf b1 (is_control_but b0.enable copies) (sources o test register)
      from_sources None own of n (zero, l, e) = subst (λ (x : Net). IsMadeOf b1 (is_control_but b0.enable copies) (OfNet x)) e test_made
      from_sources None own of n (suc i, l, e) = absurd (omega (arith, l))
      from_sources (Some x) own of n (zero, l, e) = subst (λ (x : Net). IsMadeOf b1 (is_control_but b0.enable copies) (OfNet x)) e (made_more b1 b0 (is_control_but b0.enable copies) f10 of)
      from_sources (Some x) own of n (suc zero, l, e) = subst (λ (x : Net). IsMadeOf b1 (is_control_but b0.enable copies) (OfNet x)) e test_made
      from_sources (Some x) own of n (suc (suc zero), l, e) = subst (λ (x : Net). IsMadeOf b1 (is_control_but b0.enable copies) (OfNet x)) e own
      from_sources (Some x) own of n (suc (suc (suc i)), l, e) = absurd (omega (arith, l))

  pub register_adds : IsNet b1 register → net_width b1 register ≡ 1 → AtEachEdge b4 (λ s t. slice_get t.regs (number register) ≡ Some (net_value s value)) → (NeverStops b0 → NeverStops b4) →
      ((copies : List ℕ) → IsControlled b0 copies → IsControlBut b4 copies (OfNet value) → IsWithin b4 is_start (control_levels b4.enable) (OfNet value) → IsControlled b4 copies) → (IsWithin b0 is_start band_levels (OfNet test) → IfSome load (λ l. IsWithin b0 is_start band_levels (OfNet l)) → IsWithin b4 is_start (control_levels b4.enable) (OfNet value)) → AddsRegisterOf b4 b0 load first test register
  unfolding takes_here
  register_adds net width edge stops control short = record {
    includes = f40;
    net = net_more b4 b1 f41 register net;
    width = width_more b4 b1 f41 register net.declared ∙ width;
    regs = ap (λ (b : Netlist). b.regs) put ∙ l3.wires.regs ∙ l2.wires.regs ∙ ap (λ (b : Netlist). b.regs) made;
    arrays = ap (λ (b : Netlist). b.arrays) put ∙ l3.wires.arrays ∙ l2.wires.arrays ∙ ap (λ (b : Netlist). b.arrays) made;
    reads = none_read;
    takes_test = takes_here edge;
    updated = all_updated;
    still = all_still (test_still b4 load first test register (takes_here edge));
    stops = stops;
    control = λ copies is of_test of_load test_short load_short. control copies is (value_control copies is of_test of_load) (short test_short load_short);
  }

-- the counters' registers are no copies
module _ (b : Netlist) (first : ℕ) (k : Counters) (is : TakesNext b first k) (copies : List ℕ) (plain : ArePlainly copies k) where
  register_free : (e : Bool) (j : ℕ) → (Contains copies j → ⊥) → IsTrue (is_control_but e copies (OfNet (Reg j)))
  register_free e j none = elim (copy_cases copies j) as (λ _. IsTrue (not (list_any (λ (r : ℕ). r == j) copies))) [ inl c ↦ absurd (none c) | inr free ↦ free ]

  register_control : (n : Net) (j : ℕ) → n ≡ Reg j → (Contains copies j → ⊥) → IsControlBut b copies (OfNet n)
  register_control n j e none = subst (λ (x : Net). IsControlBut b copies (OfNet x)) (sym e) (by_itself (register_free b.enable j none))

  pub column_control : IsControlBut b copies (OfNet k.pixel.column)
  column_control = register_control k.pixel.column first is.column_at (plain.column first is.column_at)

  pub row_control : IsControlBut b copies (OfNet k.pixel.row)
  row_control = register_control k.pixel.row (suc first) is.row_at (plain.row (suc first) is.row_at)

-- and so are tests of it
pub test_control : (new old : Netlist) (copies : List ℕ) (x n : Net) (bits : ℕ) (worth : Snapshot → ℕ) → Includes new old → Computes new old (x ∷ []) bits worth n → IsControlBut old copies (OfNet x) → IsControlBut new copies (OfNet n)
test_control new old copies x n bits worth grows is of = subst (λ (e : Bool). IsMadeOf new (is_control_but e copies) (OfNet n)) (sym grows.enable) (is.made_of (is_control_but old.enable copies) from)
  where
    from : AreMadeOf old (is_control_but old.enable copies) (x ∷ [])
    from y (zero, l, e) = subst (λ (z : Net). IsMadeOf old (is_control_but old.enable copies) (OfNet z)) e of
    from y (suc i, l, e) = absurd (omega (arith, l))

-- one after another
pub beside_none : (b : Netlist) (k : Option Counters) → AddsBeside b b k k
beside_none b k = record {
  includes = Includes-refl b;
  arrays = refl;
  reads = reads_none b b (λ x. false) refl;
  updated = λ free but. but;
  still = λ copies free but. but;
  stops = λ h. h;
  control = λ copies is. is;
}

pub beside_logic : (new old : Netlist) (k : Option Counters) → AddsLogic new old → AddsBeside new old k k
beside_logic new old k is = record {
  includes = is.includes;
  arrays = is.wires.arrays;
  reads = is.reads;
  updated = λ free but. but_wires new old free is.wires but;
  still = λ copies free but. still_wires new old copies free is.includes is.wires but;
  stops = is.stops;
  control = λ copies h. record { controlled = is.control copies h.controlled; apart = h.apart };
}

pub beside_on : (a b c : Netlist) (i j k : Option Counters) → AddsBeside b a j i → AddsBeside c b k j → AddsBeside c a k i
beside_on a b c i j k f g = record {
  includes = Includes-trans c b a g.includes f.includes;
  arrays = g.arrays ∙ f.arrays;
  reads = reads_joined c b a (λ x. false) g.includes g.reads f.reads;
  updated = λ free but. g.updated free (f.updated free but);
  still = λ copies free but. g.still copies free (f.still copies free but);
  stops = λ h. g.stops (f.stops h);
  control = λ copies h. g.control copies (f.control copies h);
}

pub beside_register : (new old : Netlist) (load : Option Net) (first : ℕ) (test register : Net) (k : Counters) → AddsRegisterOf new old load first test register →
    ((copies : List ℕ) → ArePlainly copies k → IsControlBut old copies (OfNet test) × IfSome load (λ l. IsControlBut old copies (OfNet l))) → IsWithin old is_start band_levels (OfNet test) → IfSome load (λ l. IsWithin old is_start band_levels (OfNet l)) → AddsBeside new old (Some k) (Some k)
beside_register new old load first test register k is of test_short load_short = record {
  includes = is.includes;
  arrays = is.arrays;
  reads = is.reads;
  updated = is.updated;
  still = is.still;
  stops = is.stops;
  control = λ copies h. record { controlled = (let p = of copies h.apart in is.control copies h.controlled p.0 p.1 test_short load_short); apart = h.apart };
}

-- counters that are added are none of the copies that an older netlist has
pub beside_counters : (new old : Netlist) (first second : ℕ) (k : Counters) (before : Option Counters) → Includes new old → AddsCounters new old first second → k.pixel.column ≡ Reg (length old.regs) → k.pixel.row ≡ Reg (suc (length old.regs)) →
    ((free : List Holder) → UpdatedBut old free → UpdatedBut new free) → ((copies : List ℕ) (free : List Holder) → StillBut old copies free → StillBut new copies free) → (NeverStops old → NeverStops new) → ((copies : List ℕ) → IsControlled old copies → IsControlled new copies) → AddsBeside new old (Some k) before
beside_counters new old first second k before grows is at_column at_row updated still stops control = record {
  includes = grows;
  arrays = is.arrays;
  reads = is.reads;
  updated = updated;
  still = still;
  stops = stops;
  control = λ copies h. record {
    controlled = control copies h.controlled;
    apart = record {
      column = λ r e c. not_copy copies h.controlled.there r (length old.regs) (same_register (sym e ∙ at_column)) c (omega arith);
      row = λ r e c. not_copy copies h.controlled.there r (suc (length old.regs)) (same_register (sym e ∙ at_row)) c (omega arith);
    };
  };
}
  where
    same_register : {r i : ℕ} → Reg r ≡ Reg i → r ≡ i
    same_register e = cc

    not_copy : (copies : List ℕ) → All (λ r. r < length old.regs) copies → (r i : ℕ) → r ≡ i → Contains copies r → length old.regs ≤ i → ⊥
    not_copy copies there r i e c high = let low : r < length old.regs = All-contains (λ (j : ℕ). j < length old.regs) copies r there c in omega (arith, low, e, high)
