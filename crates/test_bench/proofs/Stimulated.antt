-- Clocks of a stimulus, up to one of them and whole.
use Rattle.std.proofs.Common.{◌≡◌, ℕ, suc, ◌+◌, ◌-◌, ◌<◌, List, ◌++◌, ap, sym, subst, ◌∙◌, arith, append_assoc, Bool, Option}
use Rattle.std.specs.List.{flat_map, range_with_len}
use Rattle.wiring.specs.Netlist.{Netlist}
use Rattle.wiring.specs.Snapshot.{Contents}
use Rattle.wiring.specs.Clock.{Clock}
use Rattle.test_bench.specs.declared.clocking.Bench.{Bench}
use Rattle.stimulus.specs.declared.stop.Stop.{Stop}
use Rattle.test_bench.specs.Clocking.{Clocked, StopsIn}
use Rattle.stimulus.proofs.Ranges.{flat_more, flat_cut}
use Rattle.test_bench.proofs.Runs.{stops_more, clocked_join}

module _ (m : Netlist) (f : ℕ → List Clock) where
  cut : (k n : ℕ) → k < n → flat_map f (range_with_len 0 n) ≡ (flat_map f (range_with_len 0 k) ++ f k) ++ flat_map f (range_with_len (k + 1) (n - suc k))
  cut k n l =
      let A = flat_map f (range_with_len 0 k) in
      let d = n - suc k in
      ap (λ z. flat_map f (range_with_len 0 z)) (let e : n ≡ k + suc (n - suc k) = omega (arith, l) in e) ∙ flat_cut f 0 k d
      ∙ ap (λ z. A ++ (f z ++ flat_map f (range_with_len (z + 1) d))) (let e : 0 + k ≡ k = omega arith in e) ∙ sym (append_assoc A (f k) (flat_map f (range_with_len (k + 1) d)))

  pub stops_within : (k n : ℕ) (from : Contents) (first : ℕ) (stop : Stop) → k < n → StopsIn m from first (flat_map f (range_with_len 0 k) ++ f k) stop → StopsIn m from first (flat_map f (range_with_len 0 n)) stop
  stops_within k n from first stop l h =
      subst (λ z. StopsIn m from first z stop) (sym (cut k n l)) (stops_more m (flat_map f (range_with_len 0 k) ++ f k) (flat_map f (range_with_len (k + 1) (n - suc k))) from first stop h)

  pub clocked_more : (k : ℕ) (old mid new : Bench) (before between now : Option (List (Bool × ℕ))) → Clocked m (flat_map f (range_with_len 0 k)) old mid before between → Clocked m (f k) mid new between now → Clocked m (flat_map f (range_with_len 0 (k + 1))) old new before now
  clocked_more k old mid new before between now h g =
      subst (λ z. Clocked m z old new before now) (sym (flat_more f 0 k ∙ ap (λ z. flat_map f (range_with_len 0 k) ++ f z) (let e : 0 + k ≡ k = omega arith in e)))
      (clocked_join m (flat_map f (range_with_len 0 k)) (f k) old mid new before between now h g)
