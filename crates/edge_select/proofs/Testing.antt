-- Registers of one bit that test the counters, over runs.
use Rattle.std.proofs.Common.{◌≡◌, ◌≢◌, ℕ, zero, suc, ◌+◌, ◌*◌, ◌-◌, ◌<◌, ◌≤◌, ◌==◌, Bool, true, false, List, [], ◌∷◌, length, Option, None, Some, refl, sym, ap, subst, ◌∙◌, inl, inr, arith}
use Rattle.std.specs.Prelude.{if◌then◌else◌, IsTrue, slice_get}
use Rattle.std.proofs.lemmas.Bool.{cases_eq, eq-eqb, ne_eqb}
use Rattle.std.proofs.lemmas.Option.{get_or_from_slice_get, slice_get_within, slice_get_cases}
use Rattle.dk_base.specs.Frames.{Size, area, column, row}
use Rattle.wiring.specs.declared.netlist.Net.{Net}
use Rattle.wiring.specs.declared.netlist.Net.TheVariants.{Reg}
use Rattle.wiring.specs.declared.netlist.Holder.TheVariants.{OfNet}
use Rattle.wiring.specs.Netlist.{Netlist}
use Rattle.wiring.specs.Snapshot.{Contents, Snapshot, IsNext, net_value}
use Rattle.wiring.specs.Clock.{Clock, bit}
use Rattle.wiring.specs.History.{was_reset, is_held, counted}
use Rattle.net_build.specs.Includes.{InEach}
use Rattle.net_build.specs.Runs.{IsClockOf, InEachRun, IsKept, IsStill}
use Rattle.net_build.proofs.Runs.{clock_before}
use Rattle.net_build.specs.Counters.{after}
use Rattle.net_build.proofs.Clocks.{bool_cases, never, was_off, not_reset, by_clock, taken_here, count_of}
use Rattle.edge_select.specs.declared.counters.Counters.{Counters}
use Rattle.edge_select.specs.declared.bands.Band.{Band}
use Rattle.edge_select.specs.Bands.{in_band}
use Rattle.edge_select.specs.FrameTests.{AreCounters, TakesTest, takes}
use Rattle.edge_select.proofs.Raster.{at_frame, place, followed}
use Rattle.edge_select.proofs.Shifts.{first_there, line_start, line_goes}
use Rattle.edge_select.proofs.Earlier.{row_on}

-- a register that takes a test, except in reset clocks and in held ones
module _ (b : Netlist) (load : Option Net) (first : ℕ) (test register : Net) (takes_test : TakesTest b load first test register) where
  module _ (m : Netlist) (from : Contents) where
    abbrev Stepped : (r h : Bool) → (t s : Snapshot) → Type 0
    Stepped r h t s = net_value s register ≡ by_clock r h first (net_value t register) (takes load test register t)

    pub stepped : (before : List Clock) (d : Clock) (t s : Snapshot) → IsClockOf b m from before d t → IsNext m t s.contents → Stepped d.reset (is_held m d) t s
    stepped before d t s is goes =
        ap (net_value s) takes_test.at
        ∙ get_or_from_slice_get s.contents.regs takes_test.number (net_value t takes_test.value) 0 (takes_test.edge m t s.contents is.whole.includes goes)
        ∙ takes_test.value_is m t is.whole.includes is.at.snapshot.settled
        ∙ taken_here b m from before d t is first (net_value t register) (takes load test register t)

    -- what it takes in a reset clock, in a held one, and in any other
    pub in_reset : (r h : Bool) (t s : Snapshot) → Stepped r h t s → r ≡ true → net_value s register ≡ first
    in_reset r h t s e on = e ∙ ap (λ (x : Bool). by_clock x h first (net_value t register) (takes load test register t)) on

    pub in_held : (r h : Bool) (t s : Snapshot) → Stepped r h t s → r ≡ false → h ≡ true → net_value s register ≡ net_value t register
    in_held r h t s e off held = e ∙ ap (λ (x : Bool). by_clock x h first (net_value t register) (takes load test register t)) off ∙ ap (λ (x : Bool). by_clock false x first (net_value t register) (takes load test register t)) held

    pub in_other : (r h : Bool) (t s : Snapshot) → Stepped r h t s → r ≡ false → h ≡ false → net_value s register ≡ takes load test register t
    in_other r h t s e off going = e ∙ ap (λ (x : Bool). by_clock x h first (net_value t register) (takes load test register t)) off ∙ ap (λ (x : Bool). by_clock false x first (net_value t register) (takes load test register t)) going

    kept_reg : (s : Snapshot) (to : Contents) (v : ℕ) → IsNext m s to → slice_get to.regs takes_test.number ≡ Some v → v ≡ net_value s (Reg takes_test.number) → slice_get to.regs takes_test.number ≡ slice_get s.contents.regs takes_test.number
    kept_reg s to v goes there e =
        elim (slice_get_cases s.contents.regs takes_test.number).1 as (λ _. slice_get to.regs takes_test.number ≡ slice_get s.contents.regs takes_test.number) [
          | inl h ↦ there ∙ ap (λ (n : ℕ). Some n) (e ∙ get_or_from_slice_get s.contents.regs takes_test.number h.0 0 h.2) ∙ sym h.2
          | inr past ↦ absurd (omega (arith, past.0, slice_get_within to.regs takes_test.number v there, goes.regs))
        ]

    kept : (before : List Clock) (c : Clock) (s : Snapshot) → IsClockOf b m from before c s → IsTrue (is_held m c) → (to : Contents) → IsNext m s to → IsKept s to (OfNet (Reg takes_test.number))
    kept before c s is held to goes =
        kept_reg s to (net_value s takes_test.value) goes (takes_test.edge m s to is.whole.includes goes)
        (takes_test.value_is m s is.whole.includes is.at.snapshot.settled ∙ taken_here b m from before c s is first (net_value s register) (takes load test register s)
        ∙ by c.reset (is_held m c) (net_value s register) (takes load test register s) (not_reset m.enable c.reset c.enable held) held ∙ ap (net_value s) takes_test.at)
      where
        by : (r h : Bool) (x y : ℕ) → r ≡ false → IsTrue h → by_clock r h first x y ≡ x
        by r true x y off t = ap (λ (z : Bool). if z then first else x) off
        by r false x y off t = absurd (never t)

  pub test_still : IsStill b [] (OfNet (Reg takes_test.number))
  test_still = record { kept = λ m from before c s is ready held to goes. kept m from before c s is held to goes }

-- and tests the next column or row
module _ (b : Netlist) (size : Size) (k : Counters) (counters : AreCounters b size k) (some : 1 ≤ size.width) (tall : 1 ≤ size.height) where
  module _ (m : Netlist) (from : Contents) where
    abbrev long : List Clock → ℕ
    long before = length (counted m before)

    -- the counters have the pixel of the clock's number
    pub now_is : (before : List Clock) (d : Clock) (t : Snapshot) → IsClockOf b m from before d t → IsTrue (was_reset before) → (net_value t k.pixel.column ≡ column size (long before)) × (net_value t k.pixel.row ≡ row size (long before))
    now_is before d t is since =
        let p = counters.follows.pixel m from before d t is since (long before) (omega arith) in
        (p.column ∙ ap (λ (z : Size). column z (long before)) counters.size_is, p.row ∙ ap (λ (z : Size). row z (long before)) counters.size_is)

    pub column_low : (before : List Clock) (d : Clock) (t : Snapshot) → IsClockOf b m from before d t → IsTrue (was_reset before) → net_value t k.pixel.column < size.width
    column_low before d t is since = subst (λ (x : ℕ). x < size.width) (sym (now_is before d t is since).0) (place size (long before) some tall).column_below

    pub row_low : (before : List Clock) (d : Clock) (t : Snapshot) → IsClockOf b m from before d t → IsTrue (was_reset before) → net_value t k.pixel.row < size.height
    row_low before d t is since = subst (λ (x : ℕ). x < size.height) (sym (now_is before d t is since).1) (place size (long before) some tall).row_below

    -- the number of the next clock
    pub held_long : (d : Clock) (before : List Clock) → d.reset ≡ false → is_held m d ≡ true → long (d ∷ before) ≡ long before
    held_long d before off held =
        count_of m d before ∙ ap (λ (x : Bool). if x then 0 else if is_held m d then long before else suc (long before)) off ∙ ap (λ (x : Bool). if x then long before else suc (long before)) held

    pub going_long : (d : Clock) (before : List Clock) → d.reset ≡ false → is_held m d ≡ false → long (d ∷ before) ≡ suc (long before)
    going_long d before off going =
        count_of m d before ∙ ap (λ (x : Bool). if x then 0 else if is_held m d then long before else suc (long before)) off ∙ ap (λ (x : Bool). if x then long before else suc (long before)) going

    pub reset_long : (d : Clock) (before : List Clock) → d.reset ≡ true → long (d ∷ before) ≡ 0
    reset_long d before on = count_of m d before ∙ ap (λ (x : Bool). if x then 0 else if is_held m d then long before else suc (long before)) on

-- a register of columns
module _ (b : Netlist) (size : Size) (k : Counters) (counters : AreCounters b size k) (band : Band) (first : ℕ) (test register : Net) (takes_test : TakesTest b None first test register) (some : 1 ≤ size.width) (tall : 1 ≤ size.height) (first_is : first ≡ bit (in_band size.width band 0))
    (test_is : InEach b (λ m s. net_value s k.pixel.column < size.width → net_value s test ≡ bit (in_band size.width band (after true (size.width - 1) (net_value s k.pixel.column))))) where
  abbrev HasColumn : (s : Snapshot) (n : ℕ) → Type 0
  HasColumn s n = net_value s register ≡ bit (in_band size.width band (column size n))

  to_column : (s : Snapshot) (n j : ℕ) → n ≡ j → HasColumn s j → HasColumn s n
  to_column s n j e is = is ∙ ap (λ (i : ℕ). bit (in_band size.width band (column size i))) (sym e)

  pub column_shown : InEachRun b (λ m before c s. IsTrue (was_reset before) → net_value s register ≡ bit (in_band size.width band (column size (length (counted m before)))))
  column_shown m from [] c s is since = absurd (never since)
  column_shown m from (d ∷ before) c s is since =
      let prior = clock_before b m from before d c s is in
      let t : Snapshot = prior.0 in
      let n : ℕ = length (counted m (d ∷ before)) in
      let step = stepped b None first test register takes_test m from before d t s prior.1 prior.3 in
      elim (bool_cases d.reset) as (λ _. HasColumn s n) [
        | inl on ↦
            to_column s n 0 (reset_long b size k counters some tall m from d before on)
            (in_reset b None first test register takes_test m from d.reset (is_held m d) t s step on ∙ first_is ∙ ap (λ (x : ℕ). bit (in_band size.width band x)) (sym (first_there size some tall 0 some)))
        | inr off ↦
            elim (bool_cases (is_held m d)) as (λ _. HasColumn s n) [
              | inl held ↦
                  to_column s n (length (counted m before)) (held_long b size k counters some tall m from d before off held)
                  (in_held b None first test register takes_test m from d.reset (is_held m d) t s step off held ∙ column_shown m from before d t prior.1 (was_off d before off since))
              | inr going ↦
                  let then_since = was_off d before off since in
                  to_column s n (suc (length (counted m before))) (going_long b size k counters some tall m from d before off going)
                  (in_other b None first test register takes_test m from d.reset (is_held m d) t s step off going
                  ∙ test_is m t prior.1.whole.includes prior.1.at.snapshot.settled (column_low b size k counters some tall m from before d t prior.1 then_since)
                  ∙ ap (λ (x : ℕ). bit (in_band size.width band (after true (size.width - 1) x))) (now_is b size k counters some tall m from before d t prior.1 then_since).0
                  ∙ ap (λ (x : ℕ). bit (in_band size.width band x)) (followed size (length (counted m before)) some tall).at_column)
            ]
      ]

-- a register of rows
module _ (b : Netlist) (size : Size) (k : Counters) (counters : AreCounters b size k) (start : ℕ) (band : Band) (first : ℕ) (begins test register : Net) (takes_test : TakesTest b (Some begins) first test register) (some : 1 ≤ size.width) (tall : 1 ≤ size.height) (low : start < size.width) (first_is : first ≡ bit (in_band size.height band 0))
    (begins_is : InEach b (λ m s. net_value s k.pixel.column < size.width → net_value s begins ≡ bit (after true (size.width - 1) (net_value s k.pixel.column) == start)))
    (test_is : InEach b (λ m s. net_value s k.pixel.row < size.height → net_value s test ≡ bit (in_band size.height band (if start == 0 then after true (size.height - 1) (net_value s k.pixel.row) else net_value s k.pixel.row)))) where
  abbrev HasRow : (s : Snapshot) (i : ℕ) → Type 0
  HasRow s i = net_value s register ≡ bit (in_band size.height band (row size i))

  chosen : (v test_value now : ℕ) (t : Bool) → v ≡ bit t → (if v == 1 then test_value else now) ≡ (if t then test_value else now)
  chosen v test_value now true e = ap (λ (x : ℕ). if x == 1 then test_value else now) e
  chosen v test_value now false e = ap (λ (x : ℕ). if x == 1 then test_value else now) e

  module _ (m : Netlist) (from : Contents) where
    abbrev number : List Clock → ℕ
    number before = length (counted m before)

    -- in a clock that is neither a reset clock nor held
    goes : (before : List Clock) (d : Clock) (t s : Snapshot) → IsClockOf b m from before d t → IsNext m t s.contents → IsTrue (was_reset before) → d.reset ≡ false → is_held m d ≡ false →
        net_value s register ≡ (if column size (suc (number before)) == start then net_value t test else net_value t register)
    goes before d t s was next then_since off going =
        in_other b (Some begins) first test register takes_test m from d.reset (is_held m d) t s (stepped b (Some begins) first test register takes_test m from before d t s was next) off going
        ∙ chosen (net_value t begins) (net_value t test) (net_value t register) (after true (size.width - 1) (net_value t k.pixel.column) == start)
        (begins_is m t was.whole.includes was.at.snapshot.settled (column_low b size k counters some tall m from before d t was then_since))
        ∙ ap (λ (x : ℕ). if after true (size.width - 1) x == start then net_value t test else net_value t register) (now_is b size k counters some tall m from before d t was then_since).0
        ∙ ap (λ (x : ℕ). if x == start then net_value t test else net_value t register) (followed size (number before) some tall).at_column

    -- what the test is of where the next column is the start
    tested : (before : List Clock) (d : Clock) (t : Snapshot) → IsClockOf b m from before d t → IsTrue (was_reset before) → column size (suc (number before)) ≡ start → net_value t test ≡ bit (in_band size.height band (row size (suc (number before))))
    tested before d t was then_since there =
        test_is m t was.whole.includes was.at.snapshot.settled (row_low b size k counters some tall m from before d t was then_since)
        ∙ ap (λ (y : ℕ). bit (in_band size.height band (if start == 0 then after true (size.height - 1) y else y))) (now_is b size k counters some tall m from before d t was then_since).1
        ∙ ap (λ (y : ℕ). bit (in_band size.height band y)) (row_on size some tall start (number before) ((followed size (number before) some tall).at_column ∙ there))

    -- before this column the first pixel is not there
    not_first : (n : ℕ) → column size n ≢ start → 0 + start ≡ n → ⊥
    not_first n other e = other ((let f : n ≡ start = omega (arith, e) in ap (column size) f) ∙ first_there size some tall start low)

    row_here : (before : List Clock) (c : Clock) (s : Snapshot) → IsClockOf b m from before c s → IsTrue (was_reset before) → (i : ℕ) → i + start ≡ length (counted m before) → HasRow s i
    row_here [] c s is since i sum = absurd (never since)
    row_here (d ∷ before) c s is since i sum =
        let prior = clock_before b m from before d c s is in
        let t : Snapshot = prior.0 in
        let step = stepped b (Some begins) first test register takes_test m from before d t s prior.1 prior.3 in
        elim (bool_cases d.reset) as (λ _. HasRow s i) [
          | inl on ↦
              let none : length (counted m (d ∷ before)) ≡ 0 = reset_long b size k counters some tall m from d before on in
              let z : 0 * area size + (0 * size.width + 0) ≡ i = omega (arith, none, sum) in
              in_reset b (Some begins) first test register takes_test m from d.reset (is_held m d) t s step on ∙ first_is
              ∙ ap (λ (y : ℕ). bit (in_band size.height band y)) (sym (at_frame size 0 0 0 some tall).1 ∙ ap (row size) z)
          | inr off ↦
              let then_since = was_off d before off since in
              elim (bool_cases (is_held m d)) as (λ _. HasRow s i) [
                | inl held ↦
                    in_held b (Some begins) first test register takes_test m from d.reset (is_held m d) t s step off held
                    ∙ row_here before d t prior.1 then_since i (sum ∙ held_long b size k counters some tall m from d before off held)
                | inr going ↦
                    let e = goes before d t s prior.1 prior.3 then_since off going in
                    let n : ℕ = suc (length (counted m before)) in
                    let sum_is : i + start ≡ n = sum ∙ going_long b size k counters some tall m from d before off going in
                    elim (cases_eq (column size n) start) as (λ _. HasRow s i) [
                      | inl there ↦
                          e ∙ ap (λ (h : Bool). if h then net_value t test else net_value t register) (eq-eqb (column size n) start there) ∙ tested before d t prior.1 then_since there
                          ∙ ap (λ (y : ℕ). bit (in_band size.height band y)) (ap (row size) (sym sum_is) ∙ line_start size some tall i start low (ap (column size) sum_is ∙ there))
                      | inr other ↦
                          e ∙ ap (λ (h : Bool). if h then net_value t test else net_value t register) (ne_eqb (column size n) start other)
                          ∙ rest i n t (λ j f. row_here before d t prior.1 then_since j f) refl other sum_is
                    ]
              ]
        ]
      where
        rest : (i n : ℕ) (t : Snapshot) → ((j : ℕ) → j + start ≡ length (counted m before) → HasRow t j) → n ≡ suc (length (counted m before)) → column size n ≢ start → i + start ≡ n → HasRow t i
        rest zero n t has more other sum = absurd (not_first n other sum)
        rest (suc j) n t has more other sum =
            has j (omega (arith, more, sum)) ∙ ap (λ (y : ℕ). bit (in_band size.height band y)) (sym (line_goes size some tall j start low (λ g. other (ap (column size) (sym sum) ∙ g))))

  pub row_shown : InEachRun b (λ m before c s. IsTrue (was_reset before) → (i : ℕ) → i + start ≡ length (counted m before) → net_value s register ≡ bit (in_band size.height band (row size i)))
  row_shown m from before c s is since i sum = row_here m from before c s is since i sum
