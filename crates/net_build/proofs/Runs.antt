-- What holds in the runs of a part holds in those of more, and what holds of its accesses holds as it grows.
use Rattle.std.proofs.Common.{◌≡◌, ℕ, zero, suc, ◌+◌, arith, List, [], ◌∷◌, ◌++◌, Some, refl, sym, ap, subst, ◌∙◌, append_assoc, append-nil}
use Rattle.std.specs.Prelude.{slice_get, slice_index, take, reverse, All, Bool, true, false, IsTrue, if◌then◌else◌}
use Rattle.std.proofs.lemmas.List.{reverse-append}
use Rattle.std.proofs.lemmas.Option.{same_Some}
use Rattle.std.proofs.lemmas.List.Elements.{All-nil, All-cons, All-head, All-tail, All-take, All-append}
use Rattle.wiring.specs.Netlist.{Netlist, reset_net, enable_net, first_din, din_net}
use Rattle.wiring.specs.Snapshot.{Contents, Snapshot, Fit, FitsContents, IsNext, IsInRange, net_value}
use Rattle.wiring.specs.Clock.{Clock, bit}
use Rattle.wiring.specs.History.{After, At}
use Rattle.wiring.specs.Runs.{Runs}
use Rattle.wiring.proofs.Lists.{All-at}
use Rattle.netlist.proofs.FitLaws.{contents_fit}
use Rattle.net_build.specs.Includes.{Includes, AtEachEdge}
use Rattle.net_build.specs.Runs.{IsWhole, FitsPorts, IsClockOf, InEachRun}
use Rattle.net_build.proofs.Parts.{Includes-trans}

pub whole_more : (m b a : Netlist) → Includes b a → IsWhole m b → IsWhole m a
whole_more m b a f w = record { includes = Includes-trans m b a w.includes f; rules = w.rules; order = w.order; ordered = w.ordered }

-- a clock of a run of what includes b is one of what includes an earlier a
pub clock_more : (b a m : Netlist) (from : Contents) (before : List Clock) (c : Clock) (s : Snapshot) → Includes b a → IsClockOf b m from before c s → IsClockOf a m from before c s
clock_more b a m from before c s f is = record { whole = whole_more m b a f is.whole; start = is.start; fit = is.fit; at = is.at }

pub InEachRun-more : (P : Netlist → List Clock → Clock → Snapshot → Type 0) (b a : Netlist) → Includes b a → InEachRun a P → InEachRun b P
InEachRun-more P b a f h m from before c s is = h m from before c s (clock_more b a m from before c s f is)

pub AtEachEdge-more : (P : Snapshot → Contents → Type 0) (b a : Netlist) → Includes b a → AtEachEdge a P → AtEachEdge b P
AtEachEdge-more P b a f h m s next g goes = h m s next (Includes-trans m b a g f) goes

-- contents and inputs fit in each clock of a run
module _ (m part : Netlist) (whole : IsWhole m part) (from : Contents) (start : FitsContents m from) where
  pub after_fits : (before : List Clock) (to : Contents) → All (FitsPorts m) before → After m from before to → FitsContents m to
  after_fits [] to fit after = subst (FitsContents m) after start
  after_fits (c ∷ before) to fit (old, s, after, steps) =
      let here : FitsContents m s.contents = subst (FitsContents m) (sym steps.snapshot.contents) (after_fits before old (All-tail (FitsPorts m) c before fit) after) in
      let inputs : Fit m.inputs s.inputs = subst (Fit m.inputs) (sym steps.snapshot.inputs) (All-head (FitsPorts m) c before fit) in
      contents_fit m whole.rules whole.order whole.ordered s steps.snapshot.settled here inputs to steps.next

pub clock_contents : (part m : Netlist) (from : Contents) (before : List Clock) (c : Clock) (s : Snapshot) → IsClockOf part m from before c s → FitsContents m s.contents
clock_contents part m from before c s is = subst (FitsContents m) (sym is.at.snapshot.contents) (after_fits m part is.whole from is.start before is.at.old (All-tail (FitsPorts m) c before is.fit) is.at.after)

pub clock_inputs : (part m : Netlist) (from : Contents) (before : List Clock) (c : Clock) (s : Snapshot) → IsClockOf part m from before c s → Fit m.inputs s.inputs
clock_inputs part m from before c s is = subst (Fit m.inputs) (sym is.at.snapshot.inputs) (All-head (FitsPorts m) c before is.fit)

-- the clock before a clock of a run, with its edge
abbrev pub ClockBefore : (part m : Netlist) → Contents → List Clock → Clock → Snapshot → Type 0
ClockBefore part m from before d s = (t : Snapshot) × IsClockOf part m from before d t × IsInRange m t × IsNext m t s.contents

pub clock_before : (part m : Netlist) (from : Contents) (before : List Clock) (d c : Clock) (s : Snapshot) → IsClockOf part m from (d ∷ before) c s → ClockBefore part m from before d s
clock_before part m from before d c s is = by is.at.after
  where
    by : After m from (d ∷ before) is.at.old → ClockBefore part m from before d s
    by (old, t, after, steps) = (
      t,
      record { whole = is.whole; start = is.start; fit = All-tail (FitsPorts m) c (d ∷ before) is.fit; at = record { old = old; after = after; snapshot = steps.snapshot } },
      steps.in_range,
      subst (λ (to : Contents). IsNext m t to) (sym is.at.snapshot.contents) steps.next,
    )

-- the clocks of a run over a list of clocks
module _ (m : Netlist) (from : Contents) where
  clocks_at : (mid : Contents) (before clocks : List Clock) (shots : List Snapshot) (to : Contents) (k : ℕ) (c : Clock) (s : Snapshot) → After m from before mid → Runs m mid clocks shots to → slice_get clocks k ≡ Some c → slice_get shots k ≡ Some s →
      At m from (reverse (take k clocks) ++ before) c s
  clocks_at mid before [] shots to k c s after runs at_c at_s = cc
  clocks_at mid before (d ∷ clocks) [] to k c s after runs at_c at_s = absurd runs
  clocks_at mid before (d ∷ clocks) (t ∷ shots) to zero c s after runs at_c at_s =
      subst (λ (x : Clock). At m from before x s) (same_Some d c at_c) (subst (λ (x : Snapshot). At m from before d x) (same_Some t s at_s) (record { old = mid; after = after; snapshot = runs.1.snapshot }))
  clocks_at mid before (d ∷ clocks) (t ∷ shots) to (suc k) c s after runs at_c at_s =
      let e : reverse (take k clocks) ++ (d ∷ before) ≡ reverse (d ∷ take k clocks) ++ before = sym (ap (λ (l : List Clock). l ++ before) (reverse-append (d ∷ []) (take k clocks)) ∙ append_assoc (reverse (take k clocks)) (d ∷ []) before) in
      subst (λ (l : List Clock). At m from l c s) e (clocks_at runs.0 (d ∷ before) clocks shots to k c s (mid, t, after, runs.1) runs.2 at_c at_s)

  pub run_at : (clocks : List Clock) (shots : List Snapshot) (to : Contents) (k : ℕ) (c : Clock) (s : Snapshot) → Runs m from clocks shots to → slice_get clocks k ≡ Some c → slice_get shots k ≡ Some s → At m from (reverse (take k clocks)) c s
  run_at clocks shots to k c s runs at_c at_s = subst (λ (l : List Clock). At m from l c s) (append-nil (reverse (take k clocks))) (clocks_at from [] clocks shots to k c s refl runs at_c at_s)

All-reverse : {X : Type 0} (P : X → Type 0) (xs : List X) → All P xs → All P (reverse xs)
All-reverse P [] all = All-nil P
All-reverse P (x ∷ xs) all = subst (All P) (sym (reverse-append (x ∷ []) xs)) (All-append P (reverse xs) (x ∷ []) (All-reverse P xs (All-tail P x xs all)) (All-cons P x [] (All-head P x xs all) (All-nil P)))

pub run_clock : (part m : Netlist) (from : Contents) (clocks : List Clock) (shots : List Snapshot) (to : Contents) (k : ℕ) (c : Clock) (s : Snapshot) → IsWhole m part → FitsContents m from → All (FitsPorts m) clocks → Runs m from clocks shots to →
    slice_get clocks k ≡ Some c → slice_get shots k ≡ Some s → IsClockOf part m from (reverse (take k clocks)) c s
run_clock part m from clocks shots to k c s whole start fit runs at_c at_s = record {
  whole = whole;
  start = start;
  fit = All-cons (FitsPorts m) c (reverse (take k clocks)) (All-at (FitsPorts m) clocks k c fit at_c) (All-reverse (FitsPorts m) (take k clocks) (All-take (FitsPorts m) k clocks fit));
  at = run_at m from clocks shots to k c s runs at_c at_s;
}

-- what the ports show in a clock
pub reset_shown : (m : Netlist) (from : Contents) (before : List Clock) (c : Clock) (s : Snapshot) → At m from before c s → net_value s reset_net ≡ bit c.reset
reset_shown m from before c s at = ap (λ (l : List ℕ). slice_index l 0) at.snapshot.inputs

second : (e : Bool) (c : Clock) → IsTrue e → slice_index (bit c.reset ∷ (if e then bit c.enable ∷ c.dins else c.dins)) 1 ≡ bit c.enable
second true c h = refl
second false c h = cc

pub enable_shown : (m : Netlist) (from : Contents) (before : List Clock) (c : Clock) (s : Snapshot) → At m from before c s → IsTrue m.enable → net_value s enable_net ≡ bit c.enable
enable_shown m from before c s at h = ap (λ (l : List ℕ). slice_index l 1) at.snapshot.inputs ∙ second m.enable c h

from_din : (e : Bool) (c : Clock) (k : ℕ) → slice_index (bit c.reset ∷ (if e then bit c.enable ∷ c.dins else c.dins)) ((if e then 2 else 1) + k) ≡ slice_index c.dins k
from_din true c k = subst (λ (j : ℕ). slice_index (bit c.reset ∷ (bit c.enable ∷ c.dins)) j ≡ slice_index c.dins k) (let h : suc (suc k) ≡ 2 + k = omega arith in h) refl
from_din false c k = subst (λ (j : ℕ). slice_index (bit c.reset ∷ c.dins) j ≡ slice_index c.dins k) (let h : suc k ≡ 1 + k = omega arith in h) refl

pub din_shown : (m : Netlist) (from : Contents) (before : List Clock) (c : Clock) (s : Snapshot) (k : ℕ) → At m from before c s → net_value s (din_net m k) ≡ slice_index c.dins k
din_shown m from before c s k at = ap (λ (l : List ℕ). slice_index l (first_din m + k)) at.snapshot.inputs ∙ from_din m.enable c k
