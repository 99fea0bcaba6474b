-- Clocks by their numbers.
use Rattle.std.proofs.Common.{◌≡◌, ℕ, suc, ◌+◌, ◌-◌, ◌<◌, List, ◌++◌, ap, sym, subst, ◌∙◌, arith, append_assoc}
use Rattle.std.specs.List.{flat_map, range_with_len}
use Rattle.dk_desk.specs.Outside.{Outside}
use Rattle.wiring.specs.Netlist.{Netlist}
use Rattle.wiring.specs.Snapshot.{Contents}
use Rattle.wiring.specs.Clock.{Clock}
use Rattle.vcd_trace.specs.Told.{Told}
use Rattle.stimulus.proofs.Ranges.{flat_more, flat_cut}
use Rattle.trace_bench.specs.declared.ending.TraceEnd.{TraceEnd}
use Rattle.trace_bench.specs.Going.{Goes, EndsIn}
use Rattle.trace_bench.proofs.Going.{goes_join, ends_later, ends_more}

module _ (m : Netlist) (f : ℕ → List Clock) where
  cut : (k n : ℕ) → k < n → flat_map f (range_with_len 0 n) ≡ (flat_map f (range_with_len 0 k) ++ f k) ++ flat_map f (range_with_len (k + 1) (n - suc k))
  cut k n l =
      let A = flat_map f (range_with_len 0 k) in
      let d = n - suc k in
      ap (λ z. flat_map f (range_with_len 0 z)) (let e : n ≡ k + suc (n - suc k) = omega (arith, l) in e) ∙ flat_cut f 0 k d
      ∙ ap (λ z. A ++ (f z ++ flat_map f (range_with_len (z + 1) d))) (let e : 0 + k ≡ k = omega arith in e) ∙ sym (append_assoc A (f k) (flat_map f (range_with_len (k + 1) d)))

  module _ (k : ℕ) (from mid : Contents) (told between : Told) (before half now : Outside) (h : Goes m (flat_map f (range_with_len 0 k)) from mid told between before half) where
    -- one number more
    pub goes_more : (to : Contents) (next : Told) → Goes m (f k) mid to between next half now → Goes m (flat_map f (range_with_len 0 (k + 1))) from to told next before now
    goes_more to next g =
        subst (λ z. Goes m z from to told next before now) (sym (flat_more f 0 k ∙ ap (λ z. flat_map f (range_with_len 0 k) ++ f z) (let e : 0 + k ≡ k = omega arith in e)))
        (goes_join m (flat_map f (range_with_len 0 k)) (f k) from mid told between before half now to next h g)

    -- the clocks of this number end it
    pub ends_within : (n : ℕ) (end : TraceEnd) → k < n → EndsIn m (f k) mid between end half now → EndsIn m (flat_map f (range_with_len 0 n)) from told end before now
    ends_within n end l g =
        subst (λ z. EndsIn m z from told end before now) (sym (cut k n l))
        (ends_more m (flat_map f (range_with_len 0 k) ++ f k) (flat_map f (range_with_len (k + 1) (n - suc k))) from told end before now
        (ends_later m (flat_map f (range_with_len 0 k)) (f k) from mid told between before half now end h g))
