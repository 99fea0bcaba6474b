-- Runs of the new netlist are runs of the old one.
use Rattle.std.proofs.Common.{◌≡◌, ℕ, zero, suc, ◌<◌, ◌≤◌, List, [], ◌∷◌, map, take, refl, ap, subst, sym, inl, inr, arith, Some, Bool, true, false, ◌⊎◌}
use Rattle.std.specs.Prelude.{slice_get, All, ◌==◌, if◌then◌else◌, filter}
use Rattle.std.proofs.lemmas.Bool.{cases_lt}
use Rattle.std.proofs.lemmas.List.Elements.{All-nil, All-cons, All-head, All-tail}
use Rattle.wiring.specs.declared.right.Atom.{Atom}
use Rattle.wiring.specs.declared.netlist.Net.{Net}
use Rattle.wiring.specs.Rights.{atom_value}
use Rattle.wiring.specs.Netlist.{Netlist, depth, valid_net, dout_net}
use Rattle.wiring.specs.Snapshot.{Contents, Snapshot, SnapshotOf, net_value, accesses, Fit, FitsContents, IsInside, IsInRange, StopsAt}
use Rattle.wiring.specs.Order.{IsEvaluationOrder}
use Rattle.wiring.specs.Rules.{KeepsRules}
use Rattle.wiring.specs.Clock.{Clock, given, bit, Steps, Stops}
use Rattle.wiring.specs.Runs.{Runs, RunStops, picture}
use Rattle.wiring.specs.History.{After, At}
use Rattle.wiring.proofs.Lists.{All-at}
use Rattle.netlist.proofs.FitLaws.{contents_fit}
use Rattle.module_pass.specs.Simulation.{View, seen, IsSnapshot, Simulates, FitsPorts}

-- all accesses are inside, or there is a first that is not
record Outside (m : Netlist) (s : Snapshot) (list : List (ℕ × Atom Net)) : Type 0 where
  place : ℕ
  item : ℕ × Atom Net
  at : slice_get list place ≡ Some item
  first : All (IsInside m s) (take place list)
  outside : depth m item.0 ≤ atom_value (net_value s) item.1

looked : (m : Netlist) (s : Snapshot) (list : List (ℕ × Atom Net)) → All (IsInside m s) list ⊎ Outside m s list
looked m s [] = inl (All-nil (IsInside m s))
looked m s (item ∷ list) =
    elim (cases_lt (atom_value (net_value s) item.1) (depth m item.0)) as (λ _. All (IsInside m s) (item ∷ list) ⊎ Outside m s (item ∷ list)) [
      | inl l ↦ elim (looked m s list) as (λ _. All (IsInside m s) (item ∷ list) ⊎ Outside m s (item ∷ list)) [
        | inl all ↦ inl (All-cons (IsInside m s) item list l all)
        | inr out ↦ inr (record { place = suc out.place; item = out.item; at = out.at; first = All-cons (IsInside m s) item (take out.place list) l out.first; outside = out.outside })
      ]
      | inr g ↦ inr (record { place = zero; item = item; at = refl; first = All-nil (IsInside m s); outside = g })
    ]

-- the snapshots of a list of clocks show the same pictures
pub same_picture : (v : View) (k : ℕ) (shots : List Snapshot) → picture k (map (seen v) shots) ≡ picture k shots
same_picture v k [] = refl
same_picture v k (t ∷ shots) = by_valid (net_value t (valid_net k) == 1) (same_picture v k shots)
  where
    by_valid : (b : Bool) → picture k (map (seen v) shots) ≡ picture k shots → map (λ s. net_value s (dout_net k)) (if b then seen v t ∷ filter (λ s. net_value s (valid_net k) == 1) (map (seen v) shots) else filter (λ s. net_value s (valid_net k) == 1) (map (seen v) shots))
        ≡ map (λ s. net_value s (dout_net k)) (if b then t ∷ filter (λ s. net_value s (valid_net k) == 1) shots else filter (λ s. net_value s (valid_net k) == 1) shots)
    by_valid true e = ap (λ l. net_value t (dout_net k) ∷ l) e
    by_valid false e = e

module _ (new old : Netlist) (v : View) (sim : Simulates new old v) (rules : KeepsRules new) (order : List ℕ) (ordered : IsEvaluationOrder new.assigns order) where
  same_given : (c : Clock) → given new c ≡ given old c
  same_given c = ap (λ (b : Bool). bit c.reset ∷ (if b then bit c.enable ∷ c.dins else c.dins)) sim.enable

  is_snapshot : (from : Contents) (inputs : List ℕ) (t : Snapshot) → FitsContents new from → Fit new.inputs inputs → SnapshotOf new from inputs t → IsSnapshot new t
  is_snapshot from inputs t start fit of = record {
    settled = of.settled;
    contents = subst (λ (c : Contents). FitsContents new c) (sym of.contents) start;
    inputs = subst (λ (l : List ℕ). Fit new.inputs l) (sym of.inputs) fit;
  }

  shown : (from : Contents) (inputs : List ℕ) (t : Snapshot) → FitsContents new from → Fit new.inputs inputs → SnapshotOf new from inputs t → SnapshotOf old (v.contents from) inputs (seen v t)
  shown from inputs t start fit of = record {
    inputs = of.inputs;
    contents = ap v.contents of.contents;
    settled = sim.settled t (is_snapshot from inputs t start fit of);
  }

  stepped : (from : Contents) (inputs : List ℕ) (t : Snapshot) (to : Contents) → FitsContents new from → Fit new.inputs inputs → Steps new from inputs t to → Steps old (v.contents from) inputs (seen v t) (v.contents to)
  stepped from inputs t to start fit step =
      let is = is_snapshot from inputs t start fit step.snapshot in
      record { snapshot = shown from inputs t start fit step.snapshot; in_range = sim.goes_on t is step.in_range; next = sim.next t to is step.next }

  fits_next : (from : Contents) (inputs : List ℕ) (t : Snapshot) (to : Contents) → FitsContents new from → Fit new.inputs inputs → Steps new from inputs t to → FitsContents new to
  fits_next from inputs t to start fit step =
      let is = is_snapshot from inputs t start fit step.snapshot in
      contents_fit new rules order ordered t is.settled is.contents is.inputs to step.next

  -- the old one stops where the new one does, maybe at another access
  record OldStops (from : Contents) (inputs : List ℕ) : Type 0 where
    array : ℕ
    index : ℕ
    stop : Stops old (v.contents from) inputs array index

  not_inside : (t : Snapshot) (x i : ℕ) → StopsAt new t x i → IsInRange new t → ⊥
  not_inside t x i stop range =
      let inside : atom_value (net_value t) stop.access < depth new x = All-at (IsInside new t) (accesses new) stop.place (x, stop.access) range stop.at in
      omega (arith, inside, stop.value, stop.outside)

  stopped : (from : Contents) (inputs : List ℕ) (x i : ℕ) → FitsContents new from → Fit new.inputs inputs → Stops new from inputs x i → OldStops from inputs
  stopped from inputs x i start fit stop =
      let t = stop.shot in
      let is = is_snapshot from inputs t start fit stop.snapshot in
      elim (looked old (seen v t) (accesses old)) as (λ _. OldStops from inputs) [
        | inl all ↦ absurd (not_inside t x i stop.stops (sim.back t is all))
        | inr out ↦ record {
          array = out.item.0;
          index = atom_value (net_value (seen v t)) out.item.1;
          stop = record {
            shot = seen v t;
            snapshot = shown from inputs t start fit stop.snapshot;
            stops = record { place = out.place; access = out.item.1; at = out.at; first = out.first; value = refl; outside = out.outside };
          };
        }
      ]

  at_old : (from : Contents) (c : Clock) (t : Snapshot) (to : Contents) → Steps old (v.contents from) (given new c) (seen v t) (v.contents to) → Steps old (v.contents from) (given old c) (seen v t) (v.contents to)
  at_old from c t to step = subst (λ (l : List ℕ). Steps old (v.contents from) l (seen v t) (v.contents to)) (same_given c) step

  pub run_followed : (from to : Contents) (clocks : List Clock) (shots : List Snapshot) → FitsContents new from → All (FitsPorts new) clocks → Runs new from clocks shots to →
      Runs old (v.contents from) clocks (map (seen v) shots) (v.contents to)
  run_followed from to [] [] start fit run = ap v.contents run
  run_followed from to [] (t ∷ shots) start fit run = run
  run_followed from to (c ∷ clocks) [] start fit run = run
  run_followed from to (c ∷ clocks) (t ∷ shots) start fit run =
      let here = All-head (FitsPorts new) c clocks fit in
      let mid = run.0 in (
        v.contents mid,
        at_old from c t mid (stepped from (given new c) t mid start here run.1),
        run_followed mid to clocks shots (fits_next from (given new c) t mid start here run.1) (All-tail (FitsPorts new) c clocks fit) run.2,
      )

  pub stop_followed : (from : Contents) (clocks : List Clock) (shots : List Snapshot) (x i : ℕ) → FitsContents new from → All (FitsPorts new) clocks → RunStops new from clocks shots x i →
      (y : ℕ) × (j : ℕ) × RunStops old (v.contents from) clocks (map (seen v) shots) y j
  stop_followed from [] shots x i start fit run = absurd run
  stop_followed from (c ∷ clocks) [] x i start fit run =
      let stop = stopped from (given new c) x i start (All-head (FitsPorts new) c clocks fit) run in
      (stop.array, stop.index, subst (λ (l : List ℕ). Stops old (v.contents from) l stop.array stop.index) (same_given c) stop.stop)
  stop_followed from (c ∷ clocks) (t ∷ shots) x i start fit run =
      let here = All-head (FitsPorts new) c clocks fit in
      let mid = run.0 in
      let rest = stop_followed mid clocks shots x i (fits_next from (given new c) t mid start here run.1) (All-tail (FitsPorts new) c clocks fit) run.2 in
      (rest.0, rest.1, (v.contents mid, at_old from c t mid (stepped from (given new c) t mid start here run.1), rest.2))

  -- the same of a history, the latest clock first
  fits_after : (from to : Contents) (before : List Clock) → FitsContents new from → All (FitsPorts new) before → After new from before to → FitsContents new to
  fits_after from to [] start fit after = subst (λ (c : Contents). FitsContents new c) after start
  fits_after from to (c ∷ before) start fit after =
      fits_next after.0 (given new c) after.1 to (fits_after from after.0 before start (All-tail (FitsPorts new) c before fit) after.2) (All-head (FitsPorts new) c before fit) after.3

  pub after_followed : (from to : Contents) (before : List Clock) → FitsContents new from → All (FitsPorts new) before → After new from before to → After old (v.contents from) before (v.contents to)
  after_followed from to [] start fit after = ap v.contents after
  after_followed from to (c ∷ before) start fit after =
      let tail = All-tail (FitsPorts new) c before fit in
      let mid = after.0 in (
        v.contents mid,
        seen v after.1,
        after_followed from mid before start tail after.2,
        at_old mid c after.1 to (stepped mid (given new c) after.1 to (fits_after from mid before start tail after.2) (All-head (FitsPorts new) c before fit) after.3),
      )

  pub at_followed : (from : Contents) (before : List Clock) (c : Clock) (t : Snapshot) → FitsContents new from → All (FitsPorts new) (c ∷ before) → At new from before c t → At old (v.contents from) before c (seen v t)
  at_followed from before c t start fit at_new =
      let tail = All-tail (FitsPorts new) c before fit in
      record {
        old = v.contents at_new.old;
        after = after_followed from at_new.old before start tail at_new.after;
        snapshot = subst (λ (l : List ℕ). SnapshotOf old (v.contents at_new.old) l (seen v t)) (same_given c) (shown at_new.old (given new c) t (fits_after from at_new.old before start tail at_new.after) (All-head (FitsPorts new) c before fit) at_new.snapshot);
      }
