-- A register that goes on with each counted clock, whatever it counts.
use Rattle.std.proofs.Common.{◌≡◌, ℕ, suc, ◌+◌, ◌*◌, ◌/◌, ◌%◌, ◌<◌, ◌≤◌, ◌==◌, nat_lt, Bool, true, false, List, [], ◌∷◌, length, Some, refl, sym, ap, subst, ◌∙◌, inl, inr, arith}
use Rattle.std.specs.Prelude.{◌^◌, if◌then◌else◌, IsTrue, slice_get, min}
use Rattle.std.proofs.lemmas.Bool.{cases_lt, eq-eqb}
use Rattle.dk_base.specs.Numbers.{bit_count}
use Rattle.std.proofs.lemmas.Nat.{div-add-mod', mod_below, mod-mul-add}
use Rattle.std.proofs.lemmas.Option.{get_or_from_slice_get, slice_get_within, slice_get_cases}
use Rattle.wiring.specs.declared.netlist.Net.{Net}
use Rattle.wiring.specs.declared.netlist.Net.TheVariants.{Reg}
use Rattle.wiring.specs.declared.netlist.Holder.TheVariants.{OfNet}
use Rattle.wiring.specs.Netlist.{Netlist, reset_net}
use Rattle.wiring.specs.Snapshot.{Contents, Snapshot, IsNext, net_value}
use Rattle.wiring.specs.Clock.{Clock, bit}
use Rattle.wiring.specs.History.{was_reset, is_held, counted}
use Rattle.net_build.specs.Includes.{InEach, AtEachEdge}
use Rattle.net_build.specs.Runs.{IsClockOf, IsStill, IsKept, StaysBelow}
use Rattle.net_build.proofs.Runs.{clock_before, reset_shown}
use Rattle.net_build.specs.Counters.{after, reached, taken, clock_number, Counts}
use Rattle.net_build.proofs.Counting.{yes_lt, no_lt}
use Rattle.net_build.proofs.Clocks.{bool_cases, never, was_off, not_reset, by_clock, taken_here, count_of, number_off, number_on}

module _ (b : Netlist) (k : ℕ) (at step : ℕ → ℕ) (begins : at 0 ≡ 0) (steps : (j : ℕ) → step (at j) ≡ at (suc j)) (index next : Net) (index_is : InEach b (λ m s. net_value s index ≡ (if net_value s reset_net == 1 then 0 else net_value s (Reg k)))) (next_is : InEach b (λ m s. net_value s next ≡ taken b.enable 0 (net_value s index) (step (net_value s index)) s))
    (edge : AtEachEdge b (λ s t. slice_get t.regs k ≡ Some (net_value s next))) where
  module _ (m : Netlist) (from : Contents) where
    abbrev Here : (before : List Clock) (c : Clock) (s : Snapshot) → Type 0
    Here before c s = net_value s index ≡ at (clock_number m before c)

    zero_mod : 0 ≡ at 0
    zero_mod = sym begins

    by_reset : (before : List Clock) (c : Clock) (s : Snapshot) → IsClockOf b m from before c s → c.reset ≡ true → Here before c s
    by_reset before c s is on =
        index_is m s is.whole.includes is.at.snapshot.settled
        ∙ ap (λ (r : ℕ). if r == 1 then 0 else net_value s (Reg k)) (reset_shown m from before c s is.at ∙ ap bit on)
        ∙ zero_mod
        ∙ ap at (sym (number_on m before c on))

    index_off : (before : List Clock) (c : Clock) (s : Snapshot) → IsClockOf b m from before c s → c.reset ≡ false → net_value s index ≡ net_value s (Reg k)
    index_off before c s is off =
        index_is m s is.whole.includes is.at.snapshot.settled
        ∙ ap (λ (r : ℕ). if r == 1 then 0 else net_value s (Reg k)) (reset_shown m from before c s is.at ∙ ap bit off)

    next_here : (before : List Clock) (d : Clock) (t : Snapshot) → IsClockOf b m from before d t → net_value t next ≡ by_clock d.reset (is_held m d) 0 (net_value t index) (step (net_value t index))
    next_here before d t is = next_is m t is.whole.includes is.at.snapshot.settled ∙ taken_here b m from before d t is 0 (net_value t index) (step (net_value t index))

    register : (before : List Clock) (d : Clock) (t s : Snapshot) → IsClockOf b m from before d t → IsNext m t s.contents → net_value s (Reg k) ≡ by_clock d.reset (is_held m d) 0 (net_value t index) (step (net_value t index))
    register before d t s is goes =
        get_or_from_slice_get s.contents.regs k (net_value t next) 0 (edge m t s.contents is.whole.includes goes) ∙ next_here before d t is

    -- from one clock to the next
    turned : (r h : Bool) (now before_count count : ℕ) → ((r ≡ false) → now ≡ at before_count) → count ≡ (if r then 0 else if h then before_count else suc before_count) → by_clock r h 0 now (step now) ≡ at count
    turned true h now j i is e = zero_mod ∙ ap at (sym e)
    turned false true now j i is e = is refl ∙ ap at (sym e)
    turned false false now j i is e = ap step (is refl) ∙ steps j ∙ ap at (sym e)

    counts : (before : List Clock) (c : Clock) (s : Snapshot) → IsClockOf b m from before c s → IsTrue (was_reset (c ∷ before)) → Here before c s
    counts [] c s is since =
        elim (bool_cases c.reset) as (λ _. Here [] c s) [
          | inl on ↦ by_reset [] c s is on
          | inr off ↦ absurd (never (was_off c [] off since))
        ]
    counts (d ∷ before) c s is since =
        elim (bool_cases c.reset) as (λ _. Here (d ∷ before) c s) [
          | inl on ↦ by_reset (d ∷ before) c s is on
          | inr off ↦
              let prior = clock_before b m from before d c s is in
              let since_d : IsTrue (was_reset (d ∷ before)) = was_off c (d ∷ before) off since in
              let here : net_value prior.0 index ≡ at (clock_number m before d) = counts before d prior.0 prior.1 since_d in
              index_off (d ∷ before) c s is off
              ∙ register before d prior.0 s prior.1 prior.3
              ∙ turned d.reset (is_held m d) (net_value prior.0 index) (length (counted m before)) (length (counted m (d ∷ before))) (λ going. here ∙ ap at (number_off m before d going)) (count_of m d before)
              ∙ ap at (sym (number_off m (d ∷ before) c off))
        ]

    -- in held clocks
    held_is : (r h : Bool) (first now next : ℕ) → r ≡ false → IsTrue h → by_clock r h first now next ≡ now
    held_is r true first now next e on = ap (λ (x : Bool). if x then first else now) e
    held_is r false first now next e on = absurd (never on)

    kept_reg : (s : Snapshot) (next : Contents) (v : ℕ) → IsNext m s next → slice_get next.regs k ≡ Some v → v ≡ net_value s (Reg k) → slice_get next.regs k ≡ slice_get s.contents.regs k
    kept_reg s next v goes there e =
        elim (slice_get_cases s.contents.regs k).1 as (λ _. slice_get next.regs k ≡ slice_get s.contents.regs k) [
          | inl h ↦ there ∙ ap (λ (n : ℕ). Some n) (e ∙ get_or_from_slice_get s.contents.regs k h.0 0 h.2) ∙ sym h.2
          | inr past ↦ absurd (omega (arith, past.0, slice_get_within next.regs k v there, goes.regs))
        ]

    kept : (before : List Clock) (c : Clock) (s : Snapshot) → IsClockOf b m from before c s → IsTrue (is_held m c) → (to : Contents) → IsNext m s to → IsKept s to (OfNet (Reg k))
    kept before c s is held to goes =
        let off : c.reset ≡ false = not_reset m.enable c.reset c.enable held in
        kept_reg s to (net_value s next) goes (edge m s to is.whole.includes goes)
        (next_here before c s is ∙ held_is c.reset (is_held m c) 0 (net_value s index) (step (net_value s index)) off held ∙ index_off before c s is off)

  pub index_counts : Counts b at index
  index_counts = record { counts = λ m from before c s is since. counts m from before c s is since }

  pub register_still : IsStill b [] (OfNet (Reg k))
  register_still = record { kept = λ m from before c s is ready held to goes. kept m from before c s is held to goes }

-- one clock more
around : (last k : ℕ) → after true last (k % suc last) ≡ suc k % suc last
around last k =
    let n : ℕ = suc last in
    let some : 0 < n = omega arith in
    let low = mod_below k n some in
    let whole = div-add-mod' k n in
    let on : ℕ = (k % n + 1) % 2 ^ bit_count last in
    let rest : ℕ = if k % n == last then 0 else on in
    elim (cases_lt (k % n) last) as (λ _. (if nat_lt (k % n) last then k % n + 1 else rest) ≡ suc k % n) [
      | inl lt ↦
          let e : suc k ≡ k / n * n + (k % n + 1) = omega (arith, whole) in
          ap (λ (t : Bool). if t then k % n + 1 else rest) (yes_lt (k % n) last lt) ∙ sym (ap (λ j. j % n) e ∙ mod-mul-add (k / n) n (k % n + 1) (omega (arith, lt)))
      | inr ge ↦ ap (λ (t : Bool). if t then k % n + 1 else rest) (no_lt (k % n) last ge) ∙ ap (λ (t : Bool). if t then 0 else on) (eq-eqb (k % n) last (omega (arith, low, ge))) ∙ sym (ap (λ j. j % n) (let e : suc k ≡ suc (k / n) * n + 0 = turn (k / n) (k % n) (sym whole) low ge in e) ∙ mod-mul-add (suc (k / n)) n 0 some)
    ]
  where
    turn : (q r : ℕ) → k ≡ q * suc last + r → r < suc last → last ≤ r → suc k ≡ suc q * suc last + 0
    turn q r e low ge = omega (arith, e, low, ge)

up_to : (last k : ℕ) → after false last (min k last) ≡ min (suc k) last
up_to last k =
    let on : ℕ = (min k last + 1) % 2 ^ bit_count last in
    let rest : ℕ = if min k last == last then min k last else on in
    elim (cases_lt (min k last) last) as (λ _. (if nat_lt (min k last) last then min k last + 1 else rest) ≡ min (suc k) last) [
      | inl lt ↦ ap (λ (t : Bool). if t then min k last + 1 else rest) (yes_lt (min k last) last lt) ∙ omega (arith, lt)
      | inr ge ↦ ap (λ (t : Bool). if t then min k last + 1 else rest) (no_lt (min k last) last ge) ∙ ap (λ (t : Bool). if t then min k last else on) (eq-eqb (min k last) last (omega (arith, ge))) ∙ omega (arith, ge)
    ]

pub goes_on : (wraps : Bool) (last k : ℕ) → after wraps last (reached wraps last k) ≡ reached wraps last (suc k)
goes_on true last k = around last k
goes_on false last k = up_to last k

pub begins_at : (wraps : Bool) (last : ℕ) → reached wraps last 0 ≡ 0
begins_at true last = ap (λ (i : ℕ). i % suc last) (let e : 0 ≡ 0 * suc last + 0 = omega arith in e) ∙ mod-mul-add 0 (suc last) 0 (omega arith)
begins_at false last = omega arith

pub reached_below : (wraps : Bool) (last k : ℕ) → reached wraps last k < suc last
reached_below true last k = mod_below k (suc last) (omega arith)
reached_below false last k = omega arith

pub counts_below : (b : Netlist) (wraps : Bool) (last : ℕ) (n : Net) → Counts b (reached wraps last) n → StaysBelow b (suc last) n
counts_below b wraps last n is = record { below = λ m from before c s clock since. subst (λ (v : ℕ). v < suc last) (sym (is.counts m from before c s clock since)) (reached_below wraps last (clock_number m before c)) }
