-- Clocks that are added to a batch.
use Rattle.std.proofs.Common.{◌≡◌, ℕ, zero, suc, ◌+◌, ◌*◌, ◌≤◌, Bool, true, false, List, [], ◌∷◌, ◌++◌, length, take, drop, refl, ap, sym, ◌∙◌, arith, append_assoc, length-append}
use Rattle.std.specs.Prelude.{if◌then◌else◌, slice_index}
use Rattle.std.proofs.lemmas.List.FromFn.{map-range_with_len_more}
use Rattle.std.specs.List.{range_with_len}
use Rattle.std.proofs.Math.Nat.{suc-mul}
use Rattle.std.proofs.lemmas.List.{take-append-le, length-map, length-drop}
use Rattle.dk_base.specs.Frames.{Size}
use Rattle.pgm_rounds.specs.declared.round.Round.{Round}
use Rattle.wiring.specs.Netlist.{Netlist}
use Rattle.wiring.specs.Clock.{Clock}
use Rattle.cycle_sim.specs.Ports.{din_widths}
use Rattle.batch_sim.specs.Called.{clocks_with}
use Rattle.test_bench.specs.declared.clocking.Feed.{Feed}
use Rattle.stimulus.specs.Stimulus.{Rounds, stream, dins_at, pixel_clock, is_held_after, clocks_at}
use Rattle.stimulus.specs.Given.{rounds_of}
use Rattle.test_bench.specs.Clocking.{IsFed}

take_whole : {X : Type 0} (n : ℕ) (xs : List X) → length xs ≡ n → take n xs ≡ xs
take_whole zero [] e = refl
take_whole zero (x ∷ xs) e = absurd (omega (arith, e))
take_whole (suc n) [] e = refl
take_whole (suc n) (x ∷ xs) e = ap (λ z. x ∷ z) (take_whole n xs (omega (arith, e)))

drop_front : {X : Type 0} (n : ℕ) (xs ys : List X) → n ≤ length xs → drop n (xs ++ ys) ≡ drop n xs ++ ys
drop_front zero xs ys l = refl
drop_front (suc n) [] ys l = absurd (omega (arith, l))
drop_front (suc n) (x ∷ xs) ys l = drop_front n xs ys (omega (arith, l))

-- one clock more
pub clocks_more : (n : ℕ) (enables : List Bool) (e : Bool) (dins xs : List ℕ) → length dins ≡ length enables * n → length xs ≡ n → clocks_with n (enables ++ e ∷ []) (dins ++ xs) ≡ clocks_with n enables dins ++ (record { reset = false; enable = e; dins = xs }) ∷ []
clocks_more n [] e [] xs total size = ap (λ (z : List ℕ). (record { reset = false; enable = e; dins = z }) ∷ []) (take_whole n xs size)
clocks_more n [] e (d ∷ dins) xs total size = absurd (omega (arith, total))
clocks_more n (b ∷ enables) e dins xs total size =
    let next : suc (length enables) * n ≡ length enables * n + n = suc-mul (length enables) n in
    let within : n ≤ length dins = omega (arith, total, next) in
    let left : length (drop n dins) ≡ length enables * n = omega (arith, total, next, length-drop n dins) in
    ap (λ (z : List ℕ). (record { reset = false; enable = b; dins = z }) ∷ clocks_with n (enables ++ e ∷ []) (drop n (dins ++ xs))) (take-append-le n dins xs within)
    ∙ ap (λ (z : List ℕ). (record { reset = false; enable = b; dins = take n dins }) ∷ clocks_with n (enables ++ e ∷ []) z) (drop_front n dins xs within)
    ∙ ap (λ (z : List Clock). (record { reset = false; enable = b; dins = take n dins }) ∷ z) (clocks_more n enables e (drop n dins) xs left size)

range_count : (a n : ℕ) → length (range_with_len a n) ≡ n
range_count a zero = refl
range_count a (suc n) = ap suc (range_count (a + 1) n)

pub dins_count : (n : ℕ) (rounds : Rounds) (k : ℕ) → length (dins_at n rounds k) ≡ n
dins_count n rounds k = length-map (range_with_len 0 n) _ ∙ range_count 0 n

-- this many numbers, and one clock more
pub total_more : (n clocks count : ℕ) → count ≡ clocks * n → count + n ≡ (clocks + 1) * n
total_more n clocks count e = let f : (clocks + 1) * n ≡ clocks * n + n = grind arith in omega (arith, e, f)

module _ (m : Netlist) (size : Size) (feed : Feed) (rounds : List Round) (fed : IsFed m size feed rounds) where
  pub inputs_are : length feed.held.items ≡ length (din_widths m)
  inputs_are = ap length fed.held ∙ length-map (din_widths m) _

  pub clocks_added : (old mid new : List Clock) (number : ℕ) (comes : Bool) → comes ≡ is_held_after feed.hold number → mid ≡ old ++ pixel_clock (length feed.held.items) (rounds_of rounds) number ∷ [] →
      new ≡ mid ++ (if comes then (record { reset = false; enable = false; dins = feed.held.items }) ∷ [] else []) → new ≡ old ++ clocks_at feed.hold (din_widths m) (rounds_of rounds) number
  clocks_added old mid new number comes c e f =
      f ∙ ap (λ z. z ++ (if comes then (record { reset = false; enable = false; dins = feed.held.items }) ∷ [] else [])) e
      ∙ append_assoc old (pixel_clock (length feed.held.items) (rounds_of rounds) number ∷ []) (if comes then (record { reset = false; enable = false; dins = feed.held.items }) ∷ [] else [])
      ∙ ap (λ n. old ++ pixel_clock n (rounds_of rounds) number ∷ (if comes then (record { reset = false; enable = false; dins = feed.held.items }) ∷ [] else [])) inputs_are
      ∙ ap (λ (b : Bool). old ++ pixel_clock (length (din_widths m)) (rounds_of rounds) number ∷ (if b then (record { reset = false; enable = false; dins = feed.held.items }) ∷ [] else [])) c
      ∙ ap (λ (z : List ℕ). old ++ pixel_clock (length (din_widths m)) (rounds_of rounds) number ∷ (if is_held_after feed.hold number then (record { reset = false; enable = false; dins = z }) ∷ [] else [])) fed.held

pub whole_more : (n : ℕ) (enables new : List Bool) (e : Bool) (dins next xs : List ℕ) → new ≡ enables ++ e ∷ [] → next ≡ dins ++ xs → length dins ≡ length enables * n → length xs ≡ n → length next ≡ length new * n
whole_more n enables new e dins next xs f g total size =
    let a : length next ≡ length dins + n = ap length g ∙ length-append dins xs ∙ ap (λ k. length dins + k) size in
    let b : length new ≡ length enables + 1 = ap (λ (z : List Bool). length z) f ∙ length-append enables (e ∷ []) in
    a ∙ total_more n (length enables) (length dins) total ∙ ap (λ k. k * n) (sym b)

pub clock_more : (n : ℕ) (enables new : List Bool) (e : Bool) (dins next xs : List ℕ) → new ≡ enables ++ e ∷ [] → next ≡ dins ++ xs → length dins ≡ length enables * n → length xs ≡ n →
    clocks_with n new next ≡ clocks_with n enables dins ++ (record { reset = false; enable = e; dins = xs }) ∷ []
clock_more n enables new e dins next xs f g total size = ap (λ z. clocks_with n z next) f ∙ ap (λ z. clocks_with n (enables ++ e ∷ []) z) g ∙ clocks_more n enables e dins xs total size

pub held_more : (n : ℕ) (enables new : List Bool) (dins next xs : List ℕ) (comes : Bool) → comes ≡ true → new ≡ enables ++ false ∷ [] → next ≡ dins ++ xs → length dins ≡ length enables * n → length xs ≡ n →
    clocks_with n new next ≡ clocks_with n enables dins ++ (if comes then (record { reset = false; enable = false; dins = xs }) ∷ [] else [])
held_more n enables new dins next xs comes c f g total size =
    clock_more n enables new false dins next xs f g total size
    ∙ ap (λ (b : Bool). clocks_with n enables dins ++ (if b then (record { reset = false; enable = false; dins = xs }) ∷ [] else [])) (sym c)

pub dins_more : (rounds : Rounds) (number k : ℕ) → dins_at (k + 1) rounds number ≡ dins_at k rounds number ++ slice_index (stream rounds k) number ∷ []
dins_more rounds number k = map-range_with_len_more (λ input. slice_index (stream rounds input) number) 0 k k (omega arith)
