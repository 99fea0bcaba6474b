-- An added register, and the nets around it; one that counts.
use Rattle.std.proofs.Common.{◌≡◌, ◌⊎◌, ℕ, ◌<◌, ◌^◌, zero, suc, ◌==◌, Bool, false, List, [], ◌∷◌, ◌++◌, length, Some, refl, sym, ap, subst, ◌∙◌, inl, inr, arith}
use Rattle.std.specs.Prelude.{if◌then◌else◌, Contains, slice_get}
use Rattle.std.proofs.lemmas.List.Elements.{Contains-append_right, Contains-append_left, Contains-append_cases}
use Rattle.wiring.specs.declared.right.Atom.{Atom}
use Rattle.wiring.specs.declared.right.Atom.TheVariants as atom
use Rattle.wiring.specs.declared.right.Right.TheVariants.{Choose}
use Rattle.wiring.specs.declared.netlist.Net.{Net}
use Rattle.wiring.specs.declared.netlist.Net.TheVariants.{Reg}
use Rattle.wiring.specs.declared.netlist.Holder.{Holder}
use Rattle.wiring.specs.declared.netlist.Holder.TheVariants.{OfNet}
use Rattle.wiring.specs.declared.netlist.Update.TheVariants.{Set}
use Rattle.wiring.specs.Sizes.{IsWidth}
use Rattle.wiring.specs.Netlist.{Netlist, net_width, reset_net}
use Rattle.wiring.specs.Snapshot.{Snapshot, IsSettled, net_value}
use Rattle.net_build.specs.Includes.{Includes, AtEachEdge}
use Rattle.net_build.specs.Draft.{IsNet, UpdatedBut, number, with_reg, with_update}
use Rattle.net_build.specs.Runs.{NeverStops, IsStill, StillBut, StaysBelow}
use Rattle.net_build.specs.Control.{IsMadeOf, by_itself, IsControlBut, IsControlled, AddsNoReads}
use Rattle.net_build.proofs.Control.{made_more, register_control}
use Rattle.net_build.proofs.Parts.{Includes-refl, Includes-trans}
use Rattle.net_build.specs.Logic.{AddsLogic, Computes, IsGate, AreMadeOf}
use Rattle.net_build.specs.Depth.{IsWithin, is_start, control_levels}
use Rattle.net_build.specs.Counters.{after, reached, control_nets, taken, Counts, IsMadeOfRegister, IsBehindReset, AddsRegister}
use Rattle.net_build.proofs.Logic.{Source, number_source, choose_computes, computes_through, computes_as, first_in}
use Rattle.net_build.proofs.Counting.{input_source, reset_in}
use Rattle.net_build.proofs.Reaching.{index_counts, register_still, goes_on, begins_at, counts_below}
use Rattle.net_build.proofs.Drafts.{includes_reg, includes_update}
use Rattle.net_build.proofs.Reading.{reads_none, reads_joined}
use Rattle.net_build.proofs.Updating.{but_reg, but_wires, but_update}
use Rattle.net_build.proofs.Standing.{still_reg, still_wires, still_update, still_said, still_ready}
use Rattle.net_build.proofs.Grown.{net_more, width_more}
use Rattle.std.proofs.lemmas.List.Elements.{All-nil, All-cons}
use Rattle.wiring.specs.declared.netlist.Update.{Update}

abbrev pub index_worth : (first : ℕ) → Net → Snapshot → ℕ
index_worth first register s = if net_value s reset_net == 1 then first else net_value s register

abbrev pub next_worth : (enable wraps : Bool) (last : ℕ) (index : Net) → Snapshot → ℕ
next_worth enable wraps last index s = taken enable 0 (net_value s index) (after wraps last (net_value s index)) s

-- a number in a reset clock, and else what the register holds
pub index_is : (b0 b1 : Netlist) (register reset index : Net) (start : Atom Net) (bits first : ℕ) → Includes b1 b0 → reset ≡ reset_net → IsNet b0 reset → net_width b0 reset ≡ 1 → start ≡ atom.Constant (record { width = bits; value = first }) → IsWidth bits → first < 2 ^ bits → IsNet b0 register → net_width b0 register ≡ bits →
    IsGate b1 b0 (Choose (atom.Net reset) start (atom.Net register)) index → Computes b1 b0 (control_nets b0.enable ++ register ∷ []) bits (index_worth first register) index
index_is b0 b1 register reset index start bits first f reset_is is_reset reset_wide start_is wide fits is_register register_wide g =
    let from : List Net = control_nets b0.enable ++ register ∷ [] in
    let same : Includes b0 b0 = Includes-refl b0 in
    let s1 : Source b0 b0 from 1 (λ s. net_value s reset) (atom.Net reset) = input_source b0 b0 from 1 reset same is_reset reset_wide (subst (Contains from) (sym reset_is) (reset_in b0.enable (register ∷ []))) in
    let s2 : Source b0 b0 from bits (λ s. first) start = number_source b0 b0 from bits first start start_is (record { width = wide; fits = fits }) in
    let s3 : Source b0 b0 from bits (λ s. net_value s register) (atom.Net register) = input_source b0 b0 from bits register same is_register register_wide (Contains-append_right (control_nets b0.enable) (register ∷ []) register (first_in register [])) in
    computes_as b1 b0 from bits bits (λ s. if net_value s reset == 1 then first else net_value s register) (index_worth first register) index refl
    (choose_computes b1 b0 b0 from f bits (λ s. net_value s reset) (λ s. first) (λ s. net_value s register) (atom.Net reset) start (atom.Net register) index s1 s2 s3 g)
    (λ s. ap (λ (x : Net). if net_value s x == 1 then first else net_value s register) reset_is)

-- the nets that one, or two, are made of
pub one_made : (b : Netlist) (base : Holder → Bool) (y : Net) → IsMadeOf b base (OfNet y) → AreMadeOf b base (y ∷ [])
one_made b base y p x (zero, l, e) = subst (λ (w : Net). IsMadeOf b base (OfNet w)) e p
one_made b base y p x (suc k, l, e) = absurd (omega (arith, l))

pub two_made : (b : Netlist) (base : Holder → Bool) (y z : Net) → IsMadeOf b base (OfNet y) → IsMadeOf b base (OfNet z) → AreMadeOf b base (y ∷ (z ∷ []))
two_made b base y z p q x (zero, l, e) = subst (λ (w : Net). IsMadeOf b base (OfNet w)) e p
two_made b base y z p q x (suc zero, l, e) = subst (λ (w : Net). IsMadeOf b base (OfNet w)) e q
two_made b base y z p q x (suc (suc k), l, e) = absurd (omega (arith, l))

-- what the register takes
pub next_is : (b0 b1 b2 b3 : Netlist) (register index more next : Net) (bits last : ℕ) (wraps : Bool) → Includes b1 b0 → Includes b2 b1 → Includes b3 b2 → Computes b1 b0 (control_nets b0.enable ++ register ∷ []) bits (index_worth 0 register) index →
    Computes b2 b1 (index ∷ []) bits (λ s. after wraps last (net_value s index)) more → Computes b3 b2 (control_nets b2.enable ++ index ∷ (more ∷ [])) bits (λ s. taken b2.enable 0 (net_value s index) (net_value s more) s) next →
    Computes b3 b0 (control_nets b0.enable ++ register ∷ []) bits (next_worth b0.enable wraps last index) next
next_is b0 b1 b2 b3 register index more next bits last wraps f1 f2 f3 c1 c2 c3 =
    let from : List Net = control_nets b0.enable ++ register ∷ [] in
    let via : List Net = control_nets b2.enable ++ index ∷ (more ∷ []) in
    let f20 : Includes b2 b0 = Includes-trans b2 b1 b0 f2 f1 in
    computes_through b3 b2 b0 from via bits (λ s. taken b2.enable 0 (net_value s index) (net_value s more) s) (next_worth b0.enable wraps last index) next c3
    (λ base all x in_via.
    let index_made : IsMadeOf b1 base (OfNet index) = c1.made_of base all in
    elim (Contains-append_cases (control_nets b2.enable) (index ∷ (more ∷ [])) x in_via) as (λ _. IsMadeOf b2 base (OfNet x)) [
      | inl k ↦ made_more b2 b0 base f20 (all x (Contains-append_left (control_nets b0.enable) (register ∷ []) x (subst (λ (e : Bool). Contains (control_nets e) x) f20.enable k)))
      | inr k ↦ two_made b2 base index more (made_more b2 b1 base f2 index_made) (c2.made_of base (one_made b1 base index index_made)) x k
    ])
    (λ m s part settled.
    ap (λ (e : Bool). taken e 0 (net_value s index) (net_value s more) s) f20.enable
    ∙ ap (λ (v : ℕ). taken b0.enable 0 (net_value s index) v s) (c2.value m s (Includes-trans m b3 b2 part f3) settled))

-- a register that is added and set once, with wires between
module _ (b0 b1 b2 b3 : Netlist) (register next : Net) (bits : ℕ) (made : b1 ≡ with_reg b0 bits) (at : register ≡ Reg (length b0.regs)) (logic : AddsLogic b2 b1) (put : b3 ≡ with_update b2 (Set (number register) (atom.Net next))) where
  abbrev k : ℕ
  k = length b0.regs

  abbrev u : Update
  u = Set (number register) (atom.Net next)

  f10 : Includes b1 b0
  f10 = subst (λ (b : Netlist). Includes b b0) (sym made) (includes_reg b0 bits)

  pub f32 : Includes b3 b2
  f32 = subst (λ (b : Netlist). Includes b b2) (sym put) (includes_update b2 u)

  pub f31 : Includes b3 b1
  f31 = Includes-trans b3 b2 b1 f32 logic.includes

  numbered : number register ≡ k
  numbered = ap number at

  pub edge_here : AtEachEdge b3 (λ s t. slice_get t.regs (number register) ≡ Some (net_value s next)) → AtEachEdge b3 (λ s t. slice_get t.regs k ≡ Some (net_value s next))
  edge_here edge = subst (λ (j : ℕ). AtEachEdge b3 (λ s t. slice_get t.regs j ≡ Some (net_value s next))) numbered edge

  pub made_here : (n : Net) (worth : Snapshot → ℕ) → Computes b2 b1 (control_nets b1.enable ++ register ∷ []) bits worth n → IsMadeOfRegister b3 k (OfNet n)
  made_here n worth is base all = made_more b3 b2 base f32 (is.made_of base (λ x c. by_itself (all x (from_here x c))))
    where
      from_here : (x : Net) → Contains (control_nets b1.enable ++ register ∷ []) x → Contains (control_nets b3.enable ++ Reg k ∷ []) x
      from_here x c = subst (λ (e : Bool). Contains (control_nets e ++ Reg k ∷ []) x) (sym f31.enable) (subst (λ (r : Net). Contains (control_nets b1.enable ++ r ∷ []) x) at c)

  regs_are : b3.regs ≡ b0.regs ++ bits ∷ []
  regs_are = ap (λ (b : Netlist). b.regs) put ∙ logic.wires.regs ∙ ap (λ (b : Netlist). b.regs) made

  arrays_are : b3.arrays ≡ b0.arrays
  arrays_are = ap (λ (b : Netlist). b.arrays) put ∙ logic.wires.arrays ∙ ap (λ (b : Netlist). b.arrays) made

  updates_are : b3.updates ≡ b0.updates ++ Set k (atom.Net next) ∷ []
  updates_are =
      ap (λ (b : Netlist). b.updates) put ∙ ap (λ (us : List Update). us ++ u ∷ []) (logic.wires.updates ∙ ap (λ (b : Netlist). b.updates) made)
      ∙ ap (λ (j : ℕ). b0.updates ++ Set j (atom.Net next) ∷ []) numbered

  reads_are : AddsNoReads b3 b0
  reads_are =
      let none : ℕ → Bool = λ x. false in
      let r2 = reads_joined b2 b1 b0 none logic.includes logic.reads (reads_none b1 b0 none (ap (λ (b : Netlist). b.assigns) made)) in
      reads_joined b3 b2 b0 none f32 (reads_none b3 b2 none (ap (λ (b : Netlist). b.assigns) put)) r2

  abbrev g : Holder
  g = OfNet (Reg k)

  updated_are : (free : List Holder) → UpdatedBut b0 free → UpdatedBut b3 free
  updated_are free but =
      let with : UpdatedBut b1 (g ∷ free) = subst (λ (b : Netlist). UpdatedBut b (g ∷ free)) (sym made) (but_reg b0 bits free but) in
      subst (λ (b : Netlist). UpdatedBut b free) (sym put) (but_update b2 u g free (ap (λ (j : ℕ). OfNet (Reg j)) numbered) (but_wires b2 b1 (g ∷ free) logic.wires with))

  still_are : IsStill b3 [] g → (copies : List ℕ) (free : List Holder) → StillBut b0 copies free → StillBut b3 copies free
  still_are still copies free but =
      let with : StillBut b1 copies (g ∷ free) = subst (λ (b : Netlist). StillBut b copies (g ∷ free)) (sym made) (still_reg b0 bits copies free but) in
      still_said b3 copies g free (still_ready b3 [] copies g (λ before ready. tt) still)
      (subst (λ (b : Netlist). StillBut b copies (g ∷ free)) (sym put) (still_update b2 u copies (g ∷ free) (still_wires b2 b1 copies (g ∷ free) logic.includes logic.wires with)))

  -- what the set of the register must take
  pub next_takes : IsMadeOfRegister b3 k (OfNet next) → (copies : List ℕ) → IsControlled b0 copies → Contains copies (number register) ⊎ IsControlBut b3 copies (OfNet next)
  next_takes is copies controlled = inr (register_control b3 k copies (OfNet next) controlled.there is)

  pub register_added : IsStill b3 [] g → IsMadeOfRegister b3 k (OfNet next) → (NeverStops b0 → NeverStops b3) → ((copies : List ℕ) → IsControlled b0 copies → IsControlled b3 copies) → IsWithin b3 is_start (control_levels b3.enable) (OfNet next) → AddsRegister b3 b0 bits
  register_added still is stops control short = record {
    includes = Includes-trans b3 b1 b0 f31 f10;
    regs = regs_are;
    arrays = arrays_are;
    next = atom.Net next;
    updates = updates_are;
    next_control = All-cons (IsMadeOfRegister b3 k) (OfNet next) [] is (All-nil (IsMadeOfRegister b3 k));
    next_levels = All-cons (IsWithin b3 is_start (control_levels b3.enable)) (OfNet next) [] short (All-nil (IsWithin b3 is_start (control_levels b3.enable)));
    reads = reads_are;
    register_still = still;
    updated = updated_are;
    still = still_are still;
    stops = stops;
    control = control;
  }

-- one that counts
module _ (b0 b1 b2 b3 : Netlist) (register index next : Net) (bits last : ℕ) (wraps : Bool) (made : b1 ≡ with_reg b0 bits) (at : register ≡ Reg (length b0.regs)) (logic : AddsLogic b2 b1) (put : b3 ≡ with_update b2 (Set (number register) (atom.Net next)))
    (c1 : Computes b2 b1 (control_nets b1.enable ++ register ∷ []) bits (index_worth 0 register) index) (c2 : Computes b2 b1 (control_nets b1.enable ++ register ∷ []) bits (next_worth b1.enable wraps last index) next) (edge : AtEachEdge b3 (λ s t. slice_get t.regs (number register) ≡ Some (net_value s next))) where
  abbrev of : ℕ
  of = length b0.regs

  g32 : Includes b3 b2
  g32 = f32 b0 b1 b2 b3 register next bits made at logic put

  g31 : Includes b3 b1
  g31 = f31 b0 b1 b2 b3 register next bits made at logic put

  here : AtEachEdge b3 (λ s t. slice_get t.regs of ≡ Some (net_value s next))
  here = edge_here b0 b1 b2 b3 register next bits made at logic put edge

  counter_index : (m : Netlist) (s : Snapshot) → Includes m b3 → IsSettled m s → net_value s index ≡ (if net_value s reset_net == 1 then 0 else net_value s (Reg of))
  counter_index m s part settled = c1.value m s (Includes-trans m b3 b2 part g32) settled ∙ ap (λ (n : Net). if net_value s reset_net == 1 then 0 else net_value s n) at

  counter_next : (m : Netlist) (s : Snapshot) → Includes m b3 → IsSettled m s → net_value s next ≡ taken b3.enable 0 (net_value s index) (after wraps last (net_value s index)) s
  counter_next m s part settled =
      c2.value m s (Includes-trans m b3 b2 part g32) settled
      ∙ ap (λ (e : Bool). taken e 0 (net_value s index) (after wraps last (net_value s index)) s) (sym g31.enable)

  pub counter_counts : Counts b3 (reached wraps last) index
  counter_counts = index_counts b3 of (reached wraps last) (after wraps last) (begins_at wraps last) (goes_on wraps last) index next counter_index counter_next here

  pub counter_below : StaysBelow b3 (suc last) index
  counter_below = counts_below b3 wraps last index counter_counts

  pub counter_net : IsBehindReset b3 of index
  counter_net = record {
    there = net_more b3 b2 g32 index c1.net;
    value = counter_index;
    made_of = made_here b0 b1 b2 b3 register next bits made at logic put index (index_worth 0 register) c1;
  }

  pub counter_width : net_width b3 index ≡ bits
  counter_width = width_more b3 b2 g32 index c1.net.declared ∙ c1.width

  next_made : IsMadeOfRegister b3 of (OfNet next)
  next_made = made_here b0 b1 b2 b3 register next bits made at logic put next (next_worth b1.enable wraps last index) c2

  pub counter_takes : (copies : List ℕ) → IsControlled b0 copies → Contains copies (number register) ⊎ IsControlBut b3 copies (OfNet next)
  counter_takes copies controlled = next_takes b0 b1 b2 b3 register next bits made at logic put next_made copies controlled

  still_here : IsStill b3 [] (OfNet (Reg of))
  still_here = register_still b3 of (reached wraps last) (after wraps last) (begins_at wraps last) (goes_on wraps last) index next counter_index counter_next here

  pub counter_adds : (NeverStops b0 → NeverStops b3) → ((copies : List ℕ) → IsControlled b0 copies → IsControlled b3 copies) → IsWithin b3 is_start (control_levels b3.enable) (OfNet next) → AddsRegister b3 b0 bits
  counter_adds stops control short = register_added b0 b1 b2 b3 register next bits made at logic put still_here next_made stops control short
