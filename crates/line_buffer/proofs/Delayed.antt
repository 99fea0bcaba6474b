-- What comes out of a buffer is what went in.
use Rattle.std.proofs.Common.{◌≡◌, ℕ, suc, ◌+◌, ◌<◌, ◌≤◌, Bool, true, List, [], ◌∷◌, length, sym, ap, subst, ◌∙◌, inl, inr, arith}
use Rattle.std.specs.Prelude.{IsTrue, if◌then◌else◌}
use Rattle.std.specs.List.Sorted.{IsStrictlyIncreasing}
use Rattle.wiring.specs.declared.netlist.Net.{Net}
use Rattle.wiring.specs.Netlist.{Netlist}
use Rattle.wiring.specs.Snapshot.{Contents, Snapshot}
use Rattle.wiring.specs.Clock.{Clock}
use Rattle.wiring.specs.History.{was_reset, is_held, counted}
use Rattle.net_build.specs.Runs.{IsClockOf, IsReady}
use Rattle.net_build.proofs.Runs.{clock_before}
use Rattle.line_buffer.specs.Places.{Place}
use Rattle.line_buffer.specs.Streams.{BufferIsRight}
use Rattle.line_buffer.specs.Places.{word_at, depth_of}
use Rattle.line_buffer.specs.Buffers.{IsBuffer, HadValues, IsDelay}
use Rattle.net_build.proofs.Clocks.{bool_cases, never, was_off, count_of}
use Rattle.line_buffer.proofs.Ages.{age_within}

-- after a reset copies are words
pub ready_since : (copies : List ℕ) (before : List Clock) → IsTrue (was_reset before) → IsReady copies before
ready_since [] before since = tt
ready_since (r ∷ copies) before since = since

module _ (b : Netlist) (copies : List ℕ) (place : (age t : ℕ) → Place) (ages : List ℕ) (taps : List Net) (value : Net) (is : IsBuffer b copies place ages taps value) (v : ℕ → ℕ) (m : Netlist) (from : Contents) where
  abbrev Right : Contents → ℕ → Type 0
  Right c t = (count : ℕ) → BufferIsRight (λ age i. word_at c (place age i)) v count 0 (depth_of ages) t

  words_right : (before : List Clock) (c : Clock) (s : Snapshot) → IsClockOf b m from before c s → IsTrue (was_reset before) → HadValues b m from value v before → Right s.contents (length (counted m before))
  words_right [] c s clock since had count = absurd (never since)
  words_right (d ∷ rest) c s clock since had count =
      let prior = clock_before b m from rest d c s clock in
      elim (bool_cases d.reset) as (λ _. BufferIsRight (λ age i. word_at s.contents (place age i)) v count 0 (depth_of ages) (length (counted m (d ∷ rest)))) [
        | inl on ↦ at_count 0 (count_of m d rest ∙ ap (λ (r : Bool). if r then 0 else if is_held m d then length (counted m rest) else suc (length (counted m rest))) on) (λ age q some deep e lt. absurd (omega (arith, some, e)))
        | inr off ↦
            let before_d : IsTrue (was_reset rest) = was_off d rest off since in
            let old : Right prior.0.contents (length (counted m rest)) = words_right rest d prior.0 prior.1 before_d (had off).0 in
            let here = count_of m d rest ∙ ap (λ (r : Bool). if r then 0 else if is_held m d then length (counted m rest) else suc (length (counted m rest))) off in
            elim (bool_cases (is_held m d)) as (λ _. BufferIsRight (λ age i. word_at s.contents (place age i)) v count 0 (depth_of ages) (length (counted m (d ∷ rest)))) [
              | inl held ↦
                  at_count (length (counted m rest)) (here ∙ ap (λ (h : Bool). if h then length (counted m rest) else suc (length (counted m rest))) held)
                  (λ age q some deep e lt. is.waits m from rest d prior.0 prior.1 (ready_since copies rest before_d) (is_true held) s.contents prior.3 age (length (counted m rest)) some deep ∙ old count age q some deep e lt)
              | inr going ↦
                  at_count (suc (length (counted m rest))) (here ∙ ap (λ (h : Bool). if h then length (counted m rest) else suc (length (counted m rest))) going)
                  (is.goes_on v count 0 m from rest d prior.0 prior.1 before_d off going s.contents prior.3 (old count) (λ q e lt. (had off).1 prior.0 prior.1 going ∙ ap v (let f : length (counted m rest) ≡ q = omega (arith, e) in f)))
            ]
      ]
    where
      at_count : (n : ℕ) → length (counted m (d ∷ rest)) ≡ n → BufferIsRight (λ age i. word_at s.contents (place age i)) v count 0 (depth_of ages) n → BufferIsRight (λ age i. word_at s.contents (place age i)) v count 0 (depth_of ages) (length (counted m (d ∷ rest)))
      at_count n e h = subst (λ (t : ℕ). BufferIsRight (λ age i. word_at s.contents (place age i)) v count 0 (depth_of ages) t) (sym e) h

      is_true : {h : Bool} → h ≡ true → IsTrue h
      is_true e = e

  pub word_is : (before : List Clock) (c : Clock) (s : Snapshot) → IsClockOf b m from before c s → IsTrue (was_reset before) → HadValues b m from value v before → (age q : ℕ) → 0 < age → age ≤ depth_of ages → q + age ≡ length (counted m before) → word_at s.contents (place age (length (counted m before))) ≡ v q
  word_is before c s clock since had age q some deep e = words_right before c s clock since had (suc q) age q some deep (let f : q + age + 0 ≡ length (counted m before) = omega (arith, e) in f) (omega arith)

pub delay_is : (b : Netlist) (copies : List ℕ) (place : (age t : ℕ) → Place) (ages : List ℕ) (taps : List Net) (value : Net) → IsStrictlyIncreasing ages → IsBuffer b copies place ages taps value → IsDelay b place ages taps value
delay_is b copies place ages taps value up is = record {
  word = λ v m from before c s clock since had age q some deep e. word_is b copies place ages taps value is v m from before c s clock since had age q some deep e;
  tap = λ v m from before c s clock since off had k age q tap ea some et e.
      is.word k age tap ea some et m from before c s clock since off (omega (arith, e)) ∙ word_is b copies place ages taps value is v m from before c s clock since had age q some (age_within ages up k age ea) e;
}
