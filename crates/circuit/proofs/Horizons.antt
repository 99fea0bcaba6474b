-- Every image's net and buffer is right at every clock.
use Rattle.std.proofs.Common.{◌≡◌, ◌⊎◌, ℕ, zero, suc, ◌<◌, Bool, true, List, [], ◌∷◌, length, Some, sym, ap, subst, ◌∙◌, inl, inr, arith}
use Rattle.std.specs.Prelude.{IsTrue, if◌then◌else◌, slice_get}
use Rattle.std.proofs.lemmas.Bool.{cases_eq}
use Rattle.wiring.specs.Netlist.{Netlist}
use Rattle.wiring.specs.Snapshot.{Contents, Snapshot, net_value}
use Rattle.wiring.specs.Clock.{Clock}
use Rattle.wiring.specs.History.{was_reset, is_held, counted}
use Rattle.net_build.specs.Runs.{IsClockOf}
use Rattle.net_build.proofs.Runs.{clock_before}
use Rattle.net_build.proofs.Clocks.{bool_cases, never, was_off, count_of}
use Rattle.line_buffer.proofs.Delayed.{ready_since}
use Rattle.circuit.specs.Runs.{IsRunning}
use Rattle.circuit.proofs.Streamed.{Line, Streams, NetIsRight, HorizonOf, TapsAreRight, AreImages}

module _ (b m : Netlist) (copies : List ℕ) (from : Contents) (p : Streams) (lines : ℕ → Line) (IsKept IsInput : ℕ → Type 0) (Fed : List Clock → Type 0) (cases : (g : ℕ) → IsInput g ⊎ (IsInput g → ⊥)) (parts : AreImages b m copies from p lines IsKept IsInput Fed) where
  -- taps are right where the net is and the words are
  taps_right : (before : List Clock) (c : Clock) (s : Snapshot) → IsRunning b m from before c s → (g : ℕ) → IsKept g → HorizonOf p lines (length (counted m before)) s.contents g → NetIsRight p lines (length (counted m before)) s g →
      TapsAreRight p lines (length (counted m before)) s g
  taps_right before c s is g kept horizon net k age q tap ea et e lt =
      elim (cases_eq age 0) as (λ _. net_value s tap ≡ p.pixel g q) [
        | inl now ↦
            let same : tap ≡ (lines g).net = (parts.buffer g kept).now k tap (subst (λ (a : ℕ). slice_get (lines g).ages k ≡ Some a) now ea) et in
            ap (net_value s) same ∙ net q (omega (arith, e, now)) lt
        | inr later ↦
            let some : 0 < age = omega (arith, later) in
            (parts.buffer g kept).word k age tap ea some et m from before c s is.clock is.since is.off (omega (arith, e))
            ∙ horizon age q some (parts.within g k age kept ea) e lt
      ]

  -- all nets are right, one image after another
  nets_below : (n : ℕ) (before : List Clock) (c : Clock) (s : Snapshot) → IsRunning b m from before c s → Fed (c ∷ before) → ((g : ℕ) → IsKept g → HorizonOf p lines (length (counted m before)) s.contents g) → (g : ℕ) → g < n → IsKept g → NetIsRight p lines (length (counted m before)) s g
  nets_below zero before c s is fed horizon g low kept = absurd (omega (arith, low))
  nets_below (suc n) before c s is fed horizon g low kept =
      elim (cases g) as (λ _. NetIsRight p lines (length (counted m before)) s g) [
        | inl input ↦ parts.input before c s is fed g input
        | inr other ↦ parts.body before c s is g kept other (λ h less kept_h. taps_right before c s is h kept_h (horizon h kept_h) (nets_below n before c s is fed horizon h (omega (arith, less, low)) kept_h))
      ]

  pub nets_right : (before : List Clock) (c : Clock) (s : Snapshot) → IsRunning b m from before c s → Fed (c ∷ before) → ((g : ℕ) → IsKept g → HorizonOf p lines (length (counted m before)) s.contents g) → (g : ℕ) → IsKept g → NetIsRight p lines (length (counted m before)) s g
  nets_right before c s is fed horizon g kept = nets_below (suc g) before c s is fed horizon g (omega arith) kept

  -- the horizon before each clock, whatever that clock is
  pub horizon : (before : List Clock) (c : Clock) (s : Snapshot) → IsClockOf b m from before c s → IsTrue (was_reset before) → Fed before → (g : ℕ) → IsKept g → HorizonOf p lines (length (counted m before)) s.contents g
  horizon [] c s is since fed g kept = absurd (never since)
  horizon (d ∷ before) c s is since fed g kept =
      let prior = clock_before b m from before d c s is in
      elim (bool_cases d.reset) as (λ _. HorizonOf p lines (length (counted m (d ∷ before))) s.contents g) [
        | inl on ↦ at_count 0 (count_of m d before ∙ ap (λ (r : Bool). if r then 0 else if is_held m d then length (counted m before) else suc (length (counted m before))) on) (λ age q some deep e lt. absurd (omega (arith, some, e)))
        | inr off ↦
            let since_d : IsTrue (was_reset before) = was_off d before off since in
            let old : (h : ℕ) → IsKept h → HorizonOf p lines (length (counted m before)) prior.0.contents h = λ h kept_h. horizon before d prior.0 prior.1 since_d (parts.earlier before d off fed) h kept_h in
            let here : length (counted m (d ∷ before)) ≡ (if is_held m d then length (counted m before) else suc (length (counted m before))) =
            count_of m d before ∙ ap (λ (r : Bool). if r then 0 else if is_held m d then length (counted m before) else suc (length (counted m before))) off in
            elim (bool_cases (is_held m d)) as (λ _. HorizonOf p lines (length (counted m (d ∷ before))) s.contents g) [
              | inl held ↦
                  at_count (length (counted m before)) (here ∙ ap (λ (h : Bool). if h then length (counted m before) else suc (length (counted m before))) held)
                  (λ age q some deep e lt. (parts.buffer g kept).waits m from before d prior.0 prior.1 (ready_since copies before since_d) (is_true (is_held m d) held) s.contents prior.3 age (length (counted m before)) some deep ∙ old g kept age q some deep e lt)
              | inr going ↦
                  let running : IsRunning b m from before d prior.0 = record { clock = prior.1; since = since_d; off = off; going = going } in
                  at_count (suc (length (counted m before))) (here ∙ ap (λ (h : Bool). if h then length (counted m before) else suc (length (counted m before))) going)
                  ((parts.buffer g kept).goes_on (p.pixel g) p.count (p.delay g) m from before d prior.0 prior.1 since_d off going s.contents prior.3 (old g kept) (nets_right before d prior.0 running fed old g kept))
            ]
      ]
    where
      at_count : (n : ℕ) → length (counted m (d ∷ before)) ≡ n → HorizonOf p lines n s.contents g → HorizonOf p lines (length (counted m (d ∷ before))) s.contents g
      at_count n e h = subst (λ (t : ℕ). HorizonOf p lines t s.contents g) (sym e) h

      is_true : (h : Bool) → h ≡ true → IsTrue h
      is_true h e = e

  -- so each net is right at each counted clock
  pub nets : (before : List Clock) (c : Clock) (s : Snapshot) → IsRunning b m from before c s → Fed (c ∷ before) → (g : ℕ) → IsKept g → NetIsRight p lines (length (counted m before)) s g
  nets before c s is fed g kept = nets_right before c s is fed (λ h kept_h. horizon before c s is.clock is.since (parts.earlier before c is.off fed) h kept_h) g kept

  -- and so are its taps
  pub taps : (before : List Clock) (c : Clock) (s : Snapshot) → IsRunning b m from before c s → Fed (c ∷ before) → (g : ℕ) → IsKept g → TapsAreRight p lines (length (counted m before)) s g
  taps before c s is fed g kept = taps_right before c s is g kept (horizon before c s is.clock is.since (parts.earlier before c is.off fed) g kept) (nets before c s is fed g kept)
