-- Indices in a cycle, from a register that is still in held clocks only.
use Rattle.std.proofs.Common.{◌≡◌, ◌⊎◌, ℕ, suc, ◌+◌, ◌%◌, ◌<◌, ◌==◌, Bool, true, false, List, [], ◌∷◌, ◌++◌, length, Some, refl, sym, ap, subst, ◌∙◌, inl, inr, arith}
use Rattle.std.specs.Prelude.{◌^◌, if◌then◌else◌, ◌&&◌, not, bit_or, IsTrue, Contains, slice_get}
use Rattle.std.proofs.lemmas.Bool.{eq-eqb}
use Rattle.std.proofs.lemmas.Nat.{mod_below}
use Rattle.dk_base.specs.Numbers.{bit_count}
use Rattle.std.proofs.lemmas.Option.{get_or_from_slice_get, slice_get_within, slice_get_cases}
use Rattle.std.proofs.lemmas.List.Elements.{Contains-append_left, Contains-append_right, Contains-append_cases}
use Rattle.wiring.specs.declared.right.Atom.TheVariants as atom
use Rattle.wiring.specs.declared.right.Operator.TheVariants.{Or}
use Rattle.wiring.specs.declared.right.Right.TheVariants.{Binary, Choose}
use Rattle.wiring.specs.declared.netlist.Net.{Net}
use Rattle.wiring.specs.declared.netlist.Net.TheVariants.{Reg}
use Rattle.wiring.specs.declared.netlist.Holder.TheVariants.{OfNet}
use Rattle.wiring.specs.declared.netlist.Update.TheVariants.{Set}
use Rattle.wiring.specs.Netlist.{Netlist, net_width, reset_net, enable_net}
use Rattle.wiring.specs.Snapshot.{Contents, Snapshot, IsNext, net_value}
use Rattle.wiring.specs.Clock.{Clock, bit}
use Rattle.wiring.specs.History.{was_reset, is_held, counted}
use Rattle.net_build.specs.Includes.{Includes, InEach, AtEachEdge}
use Rattle.net_build.specs.Draft.{IsNet, number, with_reg, with_update}
use Rattle.net_build.specs.Runs.{IsClockOf, NeverStops, IsKept, IsStill}
use Rattle.net_build.specs.Control.{IsMadeOf, IsControlBut, IsControlled}
use Rattle.net_build.specs.Logic.{AddsLogic, Computes, IsGate}
use Rattle.net_build.specs.Depth.{IsWithin, is_start, control_levels}
use Rattle.net_build.specs.Counters.{after, control_nets, loaded, IsLoaded, IsMadeOfRegister, AddsRegister, IsIndexNet, Cycles}
use Rattle.net_build.proofs.Parts.{Includes-refl, Includes-trans}
use Rattle.net_build.proofs.Grown.{net_more, width_more, contains_begins}
use Rattle.net_build.proofs.Control.{made_more}
use Rattle.net_build.proofs.Runs.{clock_before, reset_shown, enable_shown}
use Rattle.net_build.proofs.Clocks.{bool_cases, never, was_off, not_reset, enable_same, count_of}
use Rattle.net_build.proofs.Logic.{Source, net_source, given_source, computes_as, computes_more, computes_through, binary_computes, choose_computes, first_in, second_in}
use Rattle.net_build.proofs.Counting.{enable_in, reset_in, no_lt}
use Rattle.net_build.proofs.Reaching.{goes_on, begins_at}
use Rattle.net_build.proofs.Registers.{index_worth, one_made, two_made, f31, f32, edge_here, made_here, next_takes, register_added}

-- what is next in a reset clock or with en, and else what is now
pub loaded_is : (b0 b1 b2 : Netlist) (now next reset en going n : Net) (bits : ℕ) → b0.enable ≡ true → reset ≡ reset_net → en ≡ enable_net → Includes b1 b0 → Includes b2 b1 → IsNet b0 reset → net_width b0 reset ≡ 1 → IsNet b0 en → net_width b0 en ≡ 1 →
    IsNet b0 now → net_width b0 now ≡ bits → IsNet b0 next → net_width b0 next ≡ bits → IsGate b1 b0 (Binary Or (atom.Net reset) (atom.Net en)) going → IsGate b2 b1 (Choose (atom.Net going) (atom.Net next) (atom.Net now)) n →
    Computes b2 b0 (control_nets b0.enable ++ now ∷ (next ∷ [])) bits (λ s. loaded b0.enable (net_value s now) (net_value s next) s) n
loaded_is b0 b1 b2 now next reset en going n bits on reset_is en_is f1 f2 is_reset reset_wide is_en en_wide is_now now_wide is_next next_wide g1 g2 =
    let e : Bool = b0.enable in
    let rest : List Net = now ∷ (next ∷ []) in
    let from : List Net = control_nets e ++ rest in
    let same : Includes b0 b0 = Includes-refl b0 in
    let s1 : Source b0 b0 from 1 (λ s. net_value s reset) (atom.Net reset) = given_source b0 b0 from 1 reset same is_reset reset_wide (subst (Contains from) (sym reset_is) (reset_in e rest)) in
    let s2 : Source b0 b0 from 1 (λ s. net_value s en) (atom.Net en) = given_source b0 b0 from 1 en same is_en en_wide (subst (Contains from) (sym en_is) (enable_in e rest on)) in
    let c1 : Computes b1 b0 from 1 (λ s. bit_or (net_value s reset) (net_value s en)) going = binary_computes b1 b0 b0 from f1 1 Or (λ s. net_value s reset) (λ s. net_value s en) (atom.Net reset) (atom.Net en) going s1 s2 g1 in
    let s3 : Source b1 b0 from bits (λ s. net_value s next) (atom.Net next) = given_source b1 b0 from bits next f1 is_next next_wide (Contains-append_right (control_nets e) rest next (second_in now next [])) in
    let s4 : Source b1 b0 from bits (λ s. net_value s now) (atom.Net now) = given_source b1 b0 from bits now f1 is_now now_wide (Contains-append_right (control_nets e) rest now (first_in now (next ∷ []))) in
    computes_as b2 b0 from bits bits (λ s. if bit_or (net_value s reset) (net_value s en) == 1 then net_value s next else net_value s now) (λ s. loaded e (net_value s now) (net_value s next) s) n refl
    (choose_computes b2 b1 b0 from f2 bits (λ s. bit_or (net_value s reset) (net_value s en)) (λ s. net_value s next) (λ s. net_value s now) (atom.Net going) (atom.Net next) (atom.Net now) n
    (net_source b1 b0 from 1 (λ s. bit_or (net_value s reset) (net_value s en)) going c1) s3 s4 g2)
    (λ s.
    ap (λ (x : Net). if bit_or (net_value s x) (net_value s en) == 1 then net_value s next else net_value s now) reset_is
    ∙ ap (λ (x : Net). if bit_or (net_value s reset_net) (net_value s x) == 1 then net_value s next else net_value s now) en_is
    ∙ ap (λ (t : Bool). loaded t (net_value s now) (net_value s next) s) (sym on))

-- and which assigns drive it
pub loaded_right : (b0 b1 b2 : Netlist) (now next reset en going n : Net) → b0.enable ≡ true → reset ≡ reset_net → en ≡ enable_net → Includes b1 b0 → Includes b2 b1 → Contains b1.assigns (record { target = going; right = Binary Or (atom.Net reset) (atom.Net en) }) →
    Contains b2.assigns (record { target = n; right = Choose (atom.Net going) (atom.Net next) (atom.Net now) }) → IsLoaded b2 now next n
loaded_right b0 b1 b2 now next reset en going n on reset_is en_is f1 f2 made1 made2 = record {
  plain = λ off. absurd (let e : true ≡ false = sym on ∙ sym f1.enable ∙ sym f2.enable ∙ off in cc);
  held = λ _. (
    going,
    subst (λ (x : Net). Contains b2.assigns (record { target = going; right = Binary Or (atom.Net x) (atom.Net enable_net) })) reset_is
        (subst (λ (x : Net). Contains b2.assigns (record { target = going; right = Binary Or (atom.Net reset) (atom.Net x) })) en_is (contains_begins b1.assigns b2.assigns _ f2.assigns made1)),
    made2,
  );
}

pub loaded_plain : (b : Netlist) (now next : Net) → b.enable ≡ false → IsLoaded b now next next
loaded_plain b now next off = record { plain = λ e. refl; held = λ on. absurd (let e : true ≡ false = sym on ∙ off in cc) }

-- the step of a cycle, and what its register takes
pub step_is : (b0 b1 b2 b3 : Netlist) (register now next : Net) (bits last : ℕ) → Includes b3 b2 → Computes b1 b0 (control_nets b0.enable ++ register ∷ []) bits (index_worth last register) now →
    Computes b2 b1 (now ∷ []) bits (λ s. after true last (net_value s now)) next → Computes b3 b0 (control_nets b0.enable ++ register ∷ []) bits (λ s. after true last (net_value s now)) next
step_is b0 b1 b2 b3 register now next bits last f c1 c2 =
    let from : List Net = control_nets b0.enable ++ register ∷ [] in
    let worth : Snapshot → ℕ = λ s. after true last (net_value s now) in
    computes_more b3 b2 b0 from bits worth next f
    (computes_through b2 b1 b0 from (now ∷ []) bits worth worth next c2 (λ base all. one_made b1 base now (c1.made_of base all)) (λ m s part settled. refl))

pub loads_is : (b0 b2 b3 : Netlist) (register next taken : Net) (bits : ℕ) (worth : Snapshot → ℕ) → Includes b2 b0 → Computes b2 b0 (control_nets b0.enable ++ register ∷ []) bits worth next →
    Computes b3 b2 (control_nets b2.enable ++ register ∷ (next ∷ [])) bits (λ s. loaded b2.enable (net_value s register) (net_value s next) s) taken →
    Computes b3 b0 (control_nets b0.enable ++ register ∷ []) bits (λ s. loaded b0.enable (net_value s register) (net_value s next) s) taken
loads_is b0 b2 b3 register next taken bits worth f20 c2 c3 =
    let from : List Net = control_nets b0.enable ++ register ∷ [] in
    let via : List Net = control_nets b2.enable ++ register ∷ (next ∷ []) in
    computes_through b3 b2 b0 from via bits (λ s. loaded b2.enable (net_value s register) (net_value s next) s) (λ s. loaded b0.enable (net_value s register) (net_value s next) s) taken c3
    (λ base all x in_via.
    elim (Contains-append_cases (control_nets b2.enable) (register ∷ (next ∷ [])) x in_via) as (λ _. IsMadeOf b2 base (OfNet x)) [
      | inl k ↦ made_more b2 b0 base f20 (all x (Contains-append_left (control_nets b0.enable) (register ∷ []) x (subst (λ (e : Bool). Contains (control_nets e) x) f20.enable k)))
      | inr k ↦ two_made b2 base register next (made_more b2 b0 base f20 (all register (Contains-append_right (control_nets b0.enable) (register ∷ []) register (first_in register [])))) (c2.made_of base all) x k
    ])
    (λ m s part settled. ap (λ (e : Bool). loaded e (net_value s register) (net_value s next) s) f20.enable)

-- by the clock
loaded_by : (e r n : Bool) (reset_value enable_value now next : ℕ) → reset_value ≡ bit r → (IsTrue e → enable_value ≡ bit n) →
    (if e then (if bit_or reset_value enable_value == 1 then next else now) else next) ≡ (if (e && not r) && not n then now else next)
loaded_by false r n rv ev now next p q = refl
loaded_by true true true rv ev now next p q = ap (λ (v : ℕ). if bit_or v ev == 1 then next else now) p ∙ ap (λ (v : ℕ). if bit_or 1 v == 1 then next else now) (q refl)
loaded_by true true false rv ev now next p q = ap (λ (v : ℕ). if bit_or v ev == 1 then next else now) p ∙ ap (λ (v : ℕ). if bit_or 1 v == 1 then next else now) (q refl)
loaded_by true false true rv ev now next p q = ap (λ (v : ℕ). if bit_or v ev == 1 then next else now) p ∙ ap (λ (v : ℕ). if bit_or 0 v == 1 then next else now) (q refl)
loaded_by true false false rv ev now next p q = ap (λ (v : ℕ). if bit_or v ev == 1 then next else now) p ∙ ap (λ (v : ℕ). if bit_or 0 v == 1 then next else now) (q refl)

pub loaded_here : (b m : Netlist) (from : Contents) (before : List Clock) (c : Clock) (s : Snapshot) → IsClockOf b m from before c s → (now next : ℕ) → loaded b.enable now next s ≡ (if is_held m c then now else next)
loaded_here b m from before c s is now next =
    ap (λ (e : Bool). loaded e now next s) (sym (enable_same b m from before c s is))
    ∙ loaded_by m.enable c.reset c.enable (net_value s reset_net) (net_value s enable_net) now next (reset_shown m from before c s is.at) (enable_shown m from before c s is.at)

-- after the last comes 0
turned_over : (last : ℕ) → after true last last ≡ 0
turned_over last =
    let on : ℕ = (last + 1) % 2 ^ bit_count last in
    ap (λ (t : Bool). if t then last + 1 else if last == last then 0 else on) (no_lt last last (omega arith)) ∙ ap (λ (t : Bool). if t then 0 else on) (eq-eqb last last refl)

module _ (b : Netlist) (k last : ℕ) (now next taken : Net) (now_is : InEach b (λ m s. net_value s now ≡ (if net_value s reset_net == 1 then last else net_value s (Reg k)))) (next_is : InEach b (λ m s. net_value s next ≡ after true last (net_value s now)))
    (taken_is : InEach b (λ m s. net_value s taken ≡ loaded b.enable (net_value s (Reg k)) (net_value s next) s)) (edge : AtEachEdge b (λ s t. slice_get t.regs k ≡ Some (net_value s taken))) where
  abbrev at : ℕ → ℕ
  at t = t % suc last

  module _ (m : Netlist) (from : Contents) where
    now_on : (before : List Clock) (c : Clock) (s : Snapshot) → IsClockOf b m from before c s → c.reset ≡ true → net_value s now ≡ last
    now_on before c s is on = now_is m s is.whole.includes is.at.snapshot.settled ∙ ap (λ (r : ℕ). if r == 1 then last else net_value s (Reg k)) (reset_shown m from before c s is.at ∙ ap bit on)

    now_off : (before : List Clock) (c : Clock) (s : Snapshot) → IsClockOf b m from before c s → c.reset ≡ false → net_value s now ≡ net_value s (Reg k)
    now_off before c s is off = now_is m s is.whole.includes is.at.snapshot.settled ∙ ap (λ (r : ℕ). if r == 1 then last else net_value s (Reg k)) (reset_shown m from before c s is.at ∙ ap bit off)

    next_of : (before : List Clock) (c : Clock) (s : Snapshot) → IsClockOf b m from before c s → (v : ℕ) → net_value s now ≡ v → net_value s next ≡ after true last v
    next_of before c s is v e = next_is m s is.whole.includes is.at.snapshot.settled ∙ ap (after true last) e

    taken_here : (before : List Clock) (c : Clock) (s : Snapshot) → IsClockOf b m from before c s → net_value s taken ≡ (if is_held m c then net_value s (Reg k) else net_value s next)
    taken_here before c s is = taken_is m s is.whole.includes is.at.snapshot.settled ∙ loaded_here b m from before c s is (net_value s (Reg k)) (net_value s next)

    register : (before : List Clock) (d : Clock) (t s : Snapshot) → IsClockOf b m from before d t → IsNext m t s.contents → net_value s (Reg k) ≡ (if is_held m d then net_value t (Reg k) else net_value t next)
    register before d t s is goes = get_or_from_slice_get s.contents.regs k (net_value t taken) 0 (edge m t s.contents is.whole.includes goes) ∙ taken_here before d t is

    not_held : (d : Clock) → d.reset ≡ true → is_held m d ≡ false
    not_held d on = by (bool_cases (is_held m d))
      where
        by : (is_held m d ≡ true) ⊎ (is_held m d ≡ false) → is_held m d ≡ false
        by (inl e) = absurd (let g : d.reset ≡ false = not_reset m.enable d.reset d.enable (subst IsTrue (sym e) refl) in let f : true ≡ false = sym on ∙ g in cc)
        by (inr e) = e

    register_counts : (before : List Clock) (c : Clock) (s : Snapshot) → IsClockOf b m from before c s → IsTrue (was_reset before) → net_value s (Reg k) ≡ at (length (counted m before))
    register_counts [] c s is since = absurd (never since)
    register_counts (d ∷ before) c s is since =
        let prior = clock_before b m from before d c s is in
        let stepped : net_value s (Reg k) ≡ (if is_held m d then net_value prior.0 (Reg k) else net_value prior.0 next) = register before d prior.0 s prior.1 prior.3 in
        elim (bool_cases d.reset) as (λ _. net_value s (Reg k) ≡ at (length (counted m (d ∷ before)))) [
          | inl on ↦
              stepped
              ∙ ap (λ (h : Bool). if h then net_value prior.0 (Reg k) else net_value prior.0 next) (not_held d on)
              ∙ next_of before d prior.0 prior.1 last (now_on before d prior.0 prior.1 on)
              ∙ turned_over last
              ∙ sym (begins_at true last)
              ∙ ap at (sym (count_of m d before ∙ ap (λ (r : Bool). if r then 0 else if is_held m d then length (counted m before) else suc (length (counted m before))) on))
          | inr off ↦
              let here : net_value prior.0 (Reg k) ≡ at (length (counted m before)) = register_counts before d prior.0 prior.1 (was_off d before off since) in
              let long : length (counted m (d ∷ before)) ≡ (if is_held m d then length (counted m before) else suc (length (counted m before))) =
              count_of m d before ∙ ap (λ (r : Bool). if r then 0 else if is_held m d then length (counted m before) else suc (length (counted m before))) off in
              stepped
              ∙ turned (is_held m d) (net_value prior.0 (Reg k)) (net_value prior.0 next) (length (counted m before)) here (next_of before d prior.0 prior.1 (at (length (counted m before))) (now_off before d prior.0 prior.1 off ∙ here) ∙ goes_on true last (length (counted m before)))
              ∙ ap at (sym long)
        ]
      where
        turned : (h : Bool) (x y t : ℕ) → x ≡ at t → y ≡ at (suc t) → (if h then x else y) ≡ at (if h then t else suc t)
        turned true x y t e f = e
        turned false x y t e f = f

    now_here : (before : List Clock) (c : Clock) (s : Snapshot) → IsClockOf b m from before c s → IsTrue (was_reset (c ∷ before)) → net_value s now ≡ (if c.reset then last else at (length (counted m before)))
    now_here before c s is since =
        elim (bool_cases c.reset) as (λ _. net_value s now ≡ (if c.reset then last else at (length (counted m before)))) [
          | inl on ↦ now_on before c s is on ∙ ap (λ (r : Bool). if r then last else at (length (counted m before))) (sym on)
          | inr off ↦ now_off before c s is off ∙ register_counts before c s is (was_off c before off since) ∙ ap (λ (r : Bool). if r then last else at (length (counted m before))) (sym off)
        ]

    next_here : (before : List Clock) (c : Clock) (s : Snapshot) → IsClockOf b m from before c s → IsTrue (was_reset (c ∷ before)) → net_value s next ≡ (if c.reset then 0 else at (suc (length (counted m before))))
    next_here before c s is since =
        next_of before c s is (if c.reset then last else at (length (counted m before))) (now_here before c s is since)
        ∙ by c.reset (length (counted m before))
      where
        by : (r : Bool) (t : ℕ) → after true last (if r then last else at t) ≡ (if r then 0 else at (suc t))
        by true t = turned_over last
        by false t = goes_on true last t

    kept_reg : (s : Snapshot) (to : Contents) (v : ℕ) → IsNext m s to → slice_get to.regs k ≡ Some v → v ≡ net_value s (Reg k) → slice_get to.regs k ≡ slice_get s.contents.regs k
    kept_reg s to v goes there e =
        elim (slice_get_cases s.contents.regs k).1 as (λ _. slice_get to.regs k ≡ slice_get s.contents.regs k) [
          | inl h ↦ there ∙ ap (λ (n : ℕ). Some n) (e ∙ get_or_from_slice_get s.contents.regs k h.0 0 h.2) ∙ sym h.2
          | inr past ↦ absurd (omega (arith, past.0, slice_get_within to.regs k v there, goes.regs))
        ]

    kept : (before : List Clock) (c : Clock) (s : Snapshot) → IsClockOf b m from before c s → IsTrue (is_held m c) → (to : Contents) → IsNext m s to → IsKept s to (OfNet (Reg k))
    kept before c s is held to goes =
        kept_reg s to (net_value s taken) goes (edge m s to is.whole.includes goes)
        (taken_here before c s is ∙ by (is_held m c) (net_value s (Reg k)) (net_value s next) held)
      where
        by : (h : Bool) (x y : ℕ) → IsTrue h → (if h then x else y) ≡ x
        by true x y t = refl
        by false x y t = absurd (never t)

  pub index_cycles : Cycles b last now next
  index_cycles = record {
    now_is = λ m from before c s is since. now_here m from before c s is since;
    next_is = λ m from before c s is since. next_here m from before c s is since;
  }

  pub cycle_still : IsStill b [] (OfNet (Reg k))
  cycle_still = record { kept = λ m from before c s is ready held to goes. kept m from before c s is held to goes }

below_last : (r : Bool) (t last : ℕ) → (if r then last else t % suc last) < suc last
below_last true t last = omega arith
below_last false t last = mod_below t (suc last) (omega arith)

below_next : (r : Bool) (t last : ℕ) → (if r then 0 else suc t % suc last) < suc last
below_next true t last = omega arith
below_next false t last = mod_below (suc t) (suc last) (omega arith)

-- a register that is added and turns
module _ (b0 b1 b2 b3 : Netlist) (register now next taken : Net) (bits last : ℕ) (made : b1 ≡ with_reg b0 bits) (at : register ≡ Reg (length b0.regs)) (logic : AddsLogic b2 b1) (put : b3 ≡ with_update b2 (Set (number register) (atom.Net taken)))
    (c1 : Computes b2 b1 (control_nets b1.enable ++ register ∷ []) bits (index_worth last register) now) (c2 : Computes b2 b1 (control_nets b1.enable ++ register ∷ []) bits (λ s. after true last (net_value s now)) next)
    (c3 : Computes b2 b1 (control_nets b1.enable ++ register ∷ []) bits (λ s. loaded b1.enable (net_value s register) (net_value s next) s) taken) (edge : AtEachEdge b3 (λ s t. slice_get t.regs (number register) ≡ Some (net_value s taken))) where
  abbrev k : ℕ
  k = length b0.regs

  g32 : Includes b3 b2
  g32 = f32 b0 b1 b2 b3 register taken bits made at logic put

  g31 : Includes b3 b1
  g31 = f31 b0 b1 b2 b3 register taken bits made at logic put

  now_value : InEach b3 (λ m s. net_value s now ≡ (if net_value s reset_net == 1 then last else net_value s (Reg k)))
  now_value m s part settled = c1.value m s (Includes-trans m b3 b2 part g32) settled ∙ ap (λ (n : Net). if net_value s reset_net == 1 then last else net_value s n) at

  next_value : InEach b3 (λ m s. net_value s next ≡ after true last (net_value s now))
  next_value m s part settled = c2.value m s (Includes-trans m b3 b2 part g32) settled

  taken_value : InEach b3 (λ m s. net_value s taken ≡ loaded b3.enable (net_value s (Reg k)) (net_value s next) s)
  taken_value m s part settled =
      c3.value m s (Includes-trans m b3 b2 part g32) settled
      ∙ ap (λ (n : Net). loaded b1.enable (net_value s n) (net_value s next) s) at
      ∙ ap (λ (e : Bool). loaded e (net_value s (Reg k)) (net_value s next) s) (sym g31.enable)

  here : AtEachEdge b3 (λ s t. slice_get t.regs k ≡ Some (net_value s taken))
  here = edge_here b0 b1 b2 b3 register taken bits made at logic put edge

  pub cycle_cycles : Cycles b3 last now next
  cycle_cycles = index_cycles b3 k last now next taken now_value next_value taken_value here

  pub now_net : IsIndexNet b3 k bits last now
  now_net = record {
    there = net_more b3 b2 g32 now c1.net;
    width = width_more b3 b2 g32 now c1.net.declared ∙ c1.width;
    below = record { below = λ m from before c s is since. subst (λ (v : ℕ). v < suc last) (sym (cycle_cycles.now_is m from before c s is since)) (below_last c.reset (length (counted m before)) last) };
    made_of = made_here b0 b1 b2 b3 register taken bits made at logic put now (index_worth last register) c1;
  }

  pub next_net : IsIndexNet b3 k bits last next
  next_net = record {
    there = net_more b3 b2 g32 next c2.net;
    width = width_more b3 b2 g32 next c2.net.declared ∙ c2.width;
    below = record { below = λ m from before c s is since. subst (λ (v : ℕ). v < suc last) (sym (cycle_cycles.next_is m from before c s is since)) (below_next c.reset (length (counted m before)) last) };
    made_of = made_here b0 b1 b2 b3 register taken bits made at logic put next (λ s. after true last (net_value s now)) c2;
  }

  taken_made : IsMadeOfRegister b3 k (OfNet taken)
  taken_made = made_here b0 b1 b2 b3 register taken bits made at logic put taken (λ s. loaded b1.enable (net_value s register) (net_value s next) s) c3

  pub cycle_takes : (copies : List ℕ) → IsControlled b0 copies → Contains copies (number register) ⊎ IsControlBut b3 copies (OfNet taken)
  cycle_takes copies controlled = next_takes b0 b1 b2 b3 register taken bits made at logic put taken_made copies controlled

  pub cycle_adds : (NeverStops b0 → NeverStops b3) → ((copies : List ℕ) → IsControlled b0 copies → IsControlled b3 copies) → IsWithin b3 is_start (control_levels b3.enable) (OfNet taken) → AddsRegister b3 b0 bits
  cycle_adds stops control short = register_added b0 b1 b2 b3 register taken bits made at logic put (cycle_still b3 k last now next taken now_value next_value taken_value here) taken_made stops control short
