-- A register that is set at one pixel of the first frame, and is 1 from then on.
use Rattle.std.proofs.Common.{◌≡◌, ◌≢◌, ℕ, zero, suc, ◌*◌, ◌-◌, ◌/◌, ◌%◌, ◌<◌, ◌≤◌, ◌==◌, nat_le, Bool, true, false, List, [], ◌∷◌, length, Option, Some, refl, sym, ap, subst, ◌∙◌, inl, inr, arith, lit≤}
use Rattle.std.specs.Prelude.{if◌then◌else◌, ◌&&◌, IsTrue, IfSome, bit_and}
use Rattle.std.proofs.lemmas.Nat.{div-add-mod'}
use Rattle.std.proofs.lemmas.Bool.{cases_lt, cases_eq, eq-eqb, ne_eqb}
use Rattle.std.proofs.Math.Nat.{mod-eq_of_lt}
use Rattle.dk_base.specs.Frames.{Size, area, column, row}
use Rattle.dk_base.specs.FrameSizes.{size_of}
use Rattle.wiring.specs.declared.right.Atom.{Atom}
use Rattle.wiring.specs.declared.right.Operator.TheVariants.{And}
use Rattle.wiring.specs.declared.right.Right.TheVariants.{Binary, Choose}
use Rattle.wiring.specs.declared.right.Atom.TheVariants as atom
use Rattle.wiring.specs.declared.netlist.Net.{Net}
use Rattle.wiring.specs.declared.netlist.Holder.{Holder}
use Rattle.wiring.specs.declared.netlist.Holder.TheVariants.{OfNet}
use Rattle.wiring.specs.Netlist.{Netlist, net_width, reset_net}
use Rattle.wiring.specs.Snapshot.{Snapshot, net_value}
use Rattle.wiring.specs.Clock.{bit}
use Rattle.wiring.specs.History.{was_reset, is_held, counted}
use Rattle.net_build.specs.Includes.{Includes, InEach}
use Rattle.net_build.specs.Draft.{IsNet}
use Rattle.net_build.specs.Runs.{InEachRun}
use Rattle.net_build.specs.Control.{IsMadeOf, is_control_but, IsControlBut}
use Rattle.net_build.specs.Logic.{AddsLogic, AreMadeOf, Computes, IsGate}
use Rattle.net_build.specs.Counters.{AddsControl, Starts}
use Rattle.net_build.proofs.Parts.{Includes-refl, Includes-trans}
use Rattle.net_build.proofs.Runs.{clock_more, clock_before, reset_shown}
use Rattle.net_build.proofs.Clocks.{bool_cases, never, was_off}
use Rattle.net_build.proofs.Control.{control_but_more}
use Rattle.net_build.proofs.Counting.{one_wide}
use Rattle.net_build.proofs.Logic.{logic_on, given_source, number_source, net_source, choose_computes, binary_computes, computes_more, computes_from, computes_since, first_in, second_in, none_in, more_in}
use Rattle.edge_select.specs.declared.counters.Counters.{Counters}
use Rattle.edge_select.specs.declared.frame_tests.FrameTests.{FrameTests}
use Rattle.edge_select.specs.FrameTests.{AreCounters, AreFrameTests, TakesTest, AddsRegisterOf, AddsBeside, IsStartTest}
use Rattle.edge_select.proofs.Testing.{stepped, in_reset, in_held, in_other, now_is, held_long, going_long, reset_long}
use Rattle.net_build.specs.Depth.{IsOver}
use Rattle.edge_select.proofs.Depth.{register_within}
use Rattle.edge_select.proofs.Levels.{constant_starts, here_starts}
use Rattle.edge_select.proofs.Beside.{beside_logic, beside_on, beside_register, column_control, row_control}
use Rattle.edge_select.proofs.Framed.{counters_more}

yes_le : (a b : ℕ) → a ≤ b → nat_le a b ≡ true
yes_le a b h = grind arith

no_le : (a b : ℕ) → b < a → nat_le a b ≡ false
no_le a b h = grind arith

-- both of two bits
and_bits : (a b : Bool) → bit_and (bit a) (bit b) ≡ bit (a && b)
and_bits true true = refl
and_bits true false = refl
and_bits false true = refl
and_bits false false = refl

pub both_here : (new two one old : Netlist) (x y left right n : Net) (f g : Snapshot → Bool) → Includes one old → Includes two one → Includes new two → Computes one old (x ∷ []) 1 (λ s. bit (f s)) left → Computes two one (y ∷ []) 1 (λ s. bit (g s)) right → IsGate new two (Binary And (atom.Net left) (atom.Net right)) n →
    Computes new old (x ∷ (y ∷ [])) 1 (λ s. bit (f s && g s)) n
both_here new two one old x y left right n f g f1 f2 f3 first second gate =
    let from : List Net = x ∷ (y ∷ []) in
    let of_left : Computes two old from 1 (λ s. bit (f s)) left = computes_more two one old from 1 (λ s. bit (f s)) left f2 (computes_from one old from (x ∷ []) 1 (λ s. bit (f s)) left (more_in from x [] (first_in x (y ∷ [])) (none_in from)) first) in
    let of_right : Computes two old from 1 (λ s. bit (g s)) right = computes_since two one old from 1 (λ s. bit (g s)) right f1 (computes_from two one from (y ∷ []) 1 (λ s. bit (g s)) right (more_in from y [] (second_in x y []) (none_in from)) second) in
    let both : Computes new old from 1 (λ s. bit_and (bit (f s)) (bit (g s))) n =
    binary_computes new two old from f3 1 And (λ s. bit (f s)) (λ s. bit (g s)) (atom.Net left) (atom.Net right) n (net_source two old from 1 (λ s. bit (f s)) left of_left) (net_source two old from 1 (λ s. bit (g s)) right of_right) gate in
    record { net = both.net; width = both.width; value = λ m s part settled. both.value m s part settled ∙ and_bits (f s) (g s); made_of = both.made_of }

-- the pixel `last - 1` of the first frame, and the number of pixels after it
module _ (size : Size) (some : 1 ≤ size.width) (tall : 1 ≤ size.height) (last : ℕ) (above : 0 < last) (most : last ≤ area size) where
  first_frame : (n : ℕ) → n < area size → (column size n ≡ n % size.width) × (row size n ≡ n / size.width)
  first_frame n lt = (ap (λ (r : ℕ). r % size.width) (mod-eq_of_lt lt), ap (λ (r : ℕ). r / size.width) (mod-eq_of_lt lt))

  abbrev is_there : ℕ → Bool
  is_there n = column size n == column size (last - 1) && row size n == row size (last - 1)

  there_yes : (n : ℕ) → suc n ≡ last → is_there n ≡ true
  there_yes n e =
      let f : n ≡ last - 1 = omega (arith, e) in
      ap (λ (t : Bool). t && row size n == row size (last - 1)) (eq-eqb (column size n) (column size (last - 1)) (ap (column size) f)) ∙ eq-eqb (row size n) (row size (last - 1)) (ap (row size) f)

  -- no two pixels of the first frame have the same column and row
  same_pixel : (n : ℕ) → n < last → column size n ≡ column size (last - 1) → row size n ≡ row size (last - 1) → suc n ≡ last
  same_pixel n lt across down =
      let w : ℕ = size.width in
      let mine = first_frame n (omega (arith, lt, most)) in
      let its = first_frame (last - 1) (omega (arith, above, most)) in
      let x : n % w ≡ (last - 1) % w = sym mine.0 ∙ across ∙ its.0 in
      let y : n / w * w ≡ (last - 1) / w * w = ap (λ (q : ℕ). q * w) (sym mine.1 ∙ down ∙ its.1) in
      let p = div-add-mod' n w in
      let q = div-add-mod' (last - 1) w in
      omega (arith, x, y, p, q, above)

  there_no : (n : ℕ) → n < last → suc n ≢ last → is_there n ≡ false
  there_no n lt other =
      elim (cases_eq (column size n) (column size (last - 1))) as (λ _. is_there n ≡ false) [
        | inl e ↦
            ap (λ (t : Bool). t && row size n == row size (last - 1)) (eq-eqb (column size n) (column size (last - 1)) e)
            ∙ ne_eqb (row size n) (row size (last - 1)) (λ f. other (same_pixel n lt e f))
        | inr ne ↦ ap (λ (t : Bool). t && row size n == row size (last - 1)) (ne_eqb (column size n) (column size (last - 1)) ne)
      ]

  -- what a register has after pixel n that is set there
  pub set_after : (n v one has : ℕ) → v ≡ bit (is_there n) → one ≡ 1 → has ≡ bit (nat_le last n) → (if v == 1 then one else has) ≡ bit (nat_le last (suc n))
  set_after n v one has e is was =
      elim (cases_lt n last) as (λ _. (if v == 1 then one else has) ≡ bit (nat_le last (suc n))) [
        | inl lt ↦ elim (cases_eq (suc n) last) as (λ _. (if v == 1 then one else has) ≡ bit (nat_le last (suc n))) [
          | inl there ↦ ap (λ (x : ℕ). if x == 1 then one else has) (e ∙ ap bit (there_yes n there)) ∙ is ∙ ap bit (sym (yes_le last (suc n) (omega (arith, there))))
          | inr other ↦ ap (λ (x : ℕ). if x == 1 then one else has) (e ∙ ap bit (there_no n lt other)) ∙ was ∙ ap bit (no_le last n lt ∙ sym (no_le last (suc n) (omega (arith, lt, other))))
        ]
        | inr ge ↦ elim (bool_cases (is_there n)) as (λ _. (if v == 1 then one else has) ≡ bit (nat_le last (suc n))) [
          | inl there ↦ ap (λ (x : ℕ). if x == 1 then one else has) (e ∙ ap bit there) ∙ is ∙ ap bit (sym (yes_le last (suc n) (omega (arith, ge))))
          | inr other ↦ ap (λ (x : ℕ). if x == 1 then one else has) (e ∙ ap bit other) ∙ was ∙ ap bit (yes_le last n ge ∙ sym (yes_le last (suc n) (omega (arith, ge))))
        ]
      ]

-- the register over runs
module _ (b : Netlist) (size : Size) (k : Counters) (counters : AreCounters b size k) (last across down : ℕ) (here one register : Net) (takes_test : TakesTest b (Some here) 0 one register) (some : 1 ≤ size.width) (tall : 1 ≤ size.height) (above : 0 < last) (most : last ≤ area size)
    (across_is : across ≡ column size (last - 1)) (down_is : down ≡ row size (last - 1)) (here_is : InEach b (λ m s. net_value s here ≡ bit (net_value s k.pixel.column == across && net_value s k.pixel.row == down))) (one_is : InEach b (λ m s. net_value s one ≡ 1)) where
  abbrev IsSet : (s : Snapshot) (n : ℕ) → Type 0
  IsSet s n = net_value s register ≡ bit (nat_le last n)

  to_number : (s : Snapshot) (n j : ℕ) → n ≡ j → IsSet s j → IsSet s n
  to_number s n j e is = is ∙ ap (λ (i : ℕ). bit (nat_le last i)) (sym e)

  here_now : (n x y : ℕ) → x ≡ column size n → y ≡ row size n → bit (x == across && y == down) ≡ bit (column size n == column size (last - 1) && row size n == row size (last - 1))
  here_now n x y e f =
      ap (λ (v : ℕ). bit (v == across && y == down)) e
      ∙ ap (λ (v : ℕ). bit (column size n == across && v == down)) f
      ∙ ap (λ (v : ℕ). bit (column size n == v && row size n == down)) across_is
      ∙ ap (λ (v : ℕ). bit (column size n == column size (last - 1) && row size n == v)) down_is

  pub start_shown : InEachRun b (λ m before c s. IsTrue (was_reset before) → net_value s register ≡ bit (nat_le last (length (counted m before))))
  start_shown m from [] c s is since = absurd (never since)
  start_shown m from (d ∷ before) c s is since =
      let prior = clock_before b m from before d c s is in
      let t : Snapshot = prior.0 in
      let n : ℕ = length (counted m (d ∷ before)) in
      let step = stepped b (Some here) 0 one register takes_test m from before d t s prior.1 prior.3 in
      elim (bool_cases d.reset) as (λ _. IsSet s n) [
        | inl on ↦
            to_number s n 0 (reset_long b size k counters some tall m from d before on)
            (in_reset b (Some here) 0 one register takes_test m from d.reset (is_held m d) t s step on ∙ ap bit (sym (no_le last 0 above)))
        | inr off ↦
            let then_since = was_off d before off since in
            elim (bool_cases (is_held m d)) as (λ _. IsSet s n) [
              | inl held ↦
                  to_number s n (length (counted m before)) (held_long b size k counters some tall m from d before off held)
                  (in_held b (Some here) 0 one register takes_test m from d.reset (is_held m d) t s step off held ∙ start_shown m from before d t prior.1 then_since)
              | inr going ↦
                  let now = now_is b size k counters some tall m from before d t prior.1 then_since in
                  to_number s n (suc (length (counted m before))) (going_long b size k counters some tall m from d before off going)
                  (in_other b (Some here) 0 one register takes_test m from d.reset (is_held m d) t s step off going
                  ∙ set_after size some tall last above most (length (counted m before)) (net_value t here) (net_value t one) (net_value t register)
                  (here_is m t prior.1.whole.includes prior.1.at.snapshot.settled ∙ here_now (length (counted m before)) (net_value t k.pixel.column) (net_value t k.pixel.row) now.0 now.1)
                  (one_is m t prior.1.whole.includes prior.1.at.snapshot.settled) (start_shown m from before d t prior.1 then_since))
            ]
      ]

-- the register, added beside the counters
module _ (new mid one old : Netlist) (size : Size) (k : Counters) (last across down : ℕ) (here test n : Net) (counters : AreCounters old size k) where
  abbrev is_here : Snapshot → ℕ
  is_here s = bit (net_value s k.pixel.column == across && net_value s k.pixel.row == down)

  abbrev IsHere : Type 0
  IsHere = Computes one old (k.pixel.column ∷ (k.pixel.row ∷ [])) 1 is_here here

  abbrev IsOne : Type 0
  IsOne = Computes mid one [] 1 (λ s. bit true) test

  pub start_adds : AddsLogic one old → AddsLogic mid one → IsHere → IsOne → IsOver one old 2 (k.pixel.column ∷ (k.pixel.row ∷ [])) here → IsOver mid one 0 [] test → AddsRegisterOf new mid (Some here) 0 test n → AddsBeside new old (Some k) (Some k)
  start_adds first_logic logic at is here_depth test_depth adds =
      beside_on old mid new (Some k) (Some k) (Some k) (beside_logic mid old (Some k) (logic_on old one mid first_logic logic))
      (beside_register new mid (Some here) 0 test n k adds
      (λ copies plain. (
        is.made_of (is_control_but mid.enable copies) (none (is_control_but mid.enable copies)),
        control_but_more mid one copies (OfNet here) logic.includes
            (subst (λ (e : Bool). IsMadeOf one (is_control_but e copies) (OfNet here)) (sym first_logic.includes.enable)
            (at.made_of (is_control_but old.enable copies) (two copies (column_control old counters.first k counters.next copies plain) (row_control old counters.first k counters.next copies plain)))),
      ))
      (constant_starts mid one test test_depth) (here_starts mid one old k.pixel.column k.pixel.row here counters.first (suc counters.first) counters.next.column_at counters.next.row_at logic.includes here_depth))
    where
      none : (base : Holder → Bool) → AreMadeOf one base []
      none base x (i, l, e) = absurd (omega (arith, l))

      two : (copies : List ℕ) → IsControlBut old copies (OfNet k.pixel.column) → IsControlBut old copies (OfNet k.pixel.row) → AreMadeOf old (is_control_but old.enable copies) (k.pixel.column ∷ (k.pixel.row ∷ []))
      two copies p q x (zero, l, e) = subst (λ (w : Net). IsControlBut old copies (OfNet w)) e p
      two copies p q x (suc zero, l, e) = subst (λ (w : Net). IsControlBut old copies (OfNet w)) e q
      two copies p q x (suc (suc i), l, e) = absurd (omega (arith, l))

  pub start_is_test : 1 ≤ size.width → 1 ≤ size.height → 0 < last → last ≤ area size → across ≡ column size (last - 1) → down ≡ row size (last - 1) → AddsLogic one old → AddsLogic mid one → IsHere → IsOne → AddsRegisterOf new mid (Some here) 0 test n → IsStartTest new last n
  start_is_test some tall above most across_is down_is first_logic logic at is adds =
      let grows : Includes new one = Includes-trans new mid one adds.includes logic.includes in
      record {
        there = adds.net;
        width = adds.width;
        value = start_shown new size k (counters_more new old size k (Includes-trans new one old grows first_logic.includes) counters) last across down here test n adds.takes_test some tall above most across_is down_is
            (λ m s part settled. at.value m s (Includes-trans m new one part grows) settled) (λ m s part settled. is.value m s (Includes-trans m new mid part adds.includes) settled);
        depth = register_within new n adds.takes_test.number adds.takes_test.at;
      }

-- and 0 in reset clocks
pub unless_is : (b0 b1 : Netlist) (reset register n : Net) (a : Atom Net) → Includes b1 b0 → reset ≡ reset_net → IsNet b0 reset → net_width b0 reset ≡ 1 → IsNet b0 register → net_width b0 register ≡ 1 → a ≡ atom.Constant (record { width = 1; value = 0 }) → IsGate b1 b0 (Choose (atom.Net reset) a (atom.Net register)) n →
    Computes b1 b0 (reset_net ∷ (register ∷ [])) 1 (λ s. if net_value s reset_net == 1 then 0 else net_value s register) n
unless_is b0 b1 reset register n a f e is wide has long zero_is g =
    let from : List Net = reset ∷ (register ∷ []) in
    subst (λ (x : Net). Computes b1 b0 (x ∷ (register ∷ [])) 1 (λ s. if net_value s x == 1 then 0 else net_value s register) n) e
    (choose_computes b1 b0 b0 from f 1 (λ s. net_value s reset) (λ s. 0) (λ s. net_value s register) (atom.Net reset) a (atom.Net register) n (given_source b0 b0 from 1 reset (Includes-refl b0) is wide (first_in reset (register ∷ []))) (number_source b0 b0 from 1 0 a zero_is (record { width = one_wide; fits = lit≤ tt })) (given_source b0 b0 from 1 register (Includes-refl b0) has long (second_in reset register [])) g)

pub started_unless : (new old : Netlist) (last : ℕ) (register n : Net) → Includes new old → IsStartTest old last register → Computes new old (reset_net ∷ (register ∷ [])) 1 (λ s. if net_value s reset_net == 1 then 0 else net_value s register) n → Starts new last n
started_unless new old last register n grows is unless = record {
  shown = λ m from before c s clock since.
      unless.value m s clock.whole.includes clock.at.snapshot.settled
      ∙ ap (λ (v : ℕ). if v == 1 then 0 else net_value s register) (reset_shown m from before c s clock.at)
      ∙ elim (bool_cases c.reset) as (λ _. (if bit c.reset == 1 then 0 else net_value s register) ≡ (if c.reset then 0 else bit (nat_le last (length (counted m before))))) [
        | inl on ↦ subst (λ (r : Bool). (if bit r == 1 then 0 else net_value s register) ≡ (if r then 0 else bit (nat_le last (length (counted m before))))) (sym on) refl
        | inr off ↦
            subst (λ (r : Bool). (if bit r == 1 then 0 else net_value s register) ≡ (if r then 0 else bit (nat_le last (length (counted m before))))) (sym off)
            (is.value m from before c s (clock_more new old m from before c s grows clock) (was_off c before off since))
      ];
}

-- registers that are controlled by themselves
pub beside_control : (new old : Netlist) (k : Option Counters) → AddsControl new old → AddsBeside new old k k
beside_control new old k is = record {
  includes = is.includes;
  arrays = is.arrays;
  reads = is.reads;
  updated = is.updated;
  still = is.still;
  stops = is.stops;
  control = λ copies h. record { controlled = is.control copies h.controlled; apart = h.apart };
}

-- the counters of frame tests
pub counters_in : (b : Netlist) (tests : FrameTests) (k : Counters) → tests.counters ≡ Some k → AreFrameTests b (size_of tests.size) tests → AreCounters b (size_of k.pixel.size) k
counters_in b tests k e is =
    let has : AreCounters b (size_of tests.size) k = subst (λ (o : Option Counters). IfSome o (AreCounters b (size_of tests.size))) e is.counters in
    subst (λ (z : Size). AreCounters b z k) (sym has.size_is) has
