-- A clock that stops is answered so.
use Rattle.std.proofs.Common.{◌≡◌, ℕ, ◌<◌, List, [], ◌∷◌, ap, subst, ◌∙◌, arith}
use Rattle.std.specs.Prelude.{All, Result, Ok, Err, OnOk, IfErr}
use Rattle.wiring.specs.Rights.{atom_value}
use Rattle.wiring.specs.Netlist.{Netlist, depth}
use Rattle.wiring.specs.Snapshot.{Contents, Snapshot, Fit, SnapshotOf, net_value, accesses, IsInside, IsInRange, StopsAt, HasPlaces, HasOneSnapshot}
use Rattle.wiring.specs.Clock.{Clock, given, Stops}
use Rattle.wiring.specs.Order.{IsEvaluationOrder}
use Rattle.wiring.specs.Rules.{KeepsRules}
use Rattle.wiring.proofs.Lists.{All-at}
use Rattle.wiring.proofs.Settle.{some_snapshot}
use Rattle.wiring.proofs.Valuation.{one_snapshot}
use Rattle.wiring.proofs.Next.{has_one_next}
use Rattle.netlist.proofs.RunLaws.{stop_one}
use Rattle.cycle_sim.specs.declared.edge.IndexRange.{IndexRange}
use Rattle.cycle_sim.specs.declared.machine.Program.{Program}
use Rattle.cycle_sim.specs.Edge.{IsAccessInside, IsFirstOutside}
use Rattle.cycle_sim.specs.OneClock.{port_values, settled_values}
use Rattle.cycle_sim.specs.Simulated.{contents_of, shot_of, IsCircuit}
use Rattle.cycle_sim.proofs.Fitted.{contents_placed}
use Rattle.cycle_sim.proofs.Simulates.{clock_shot, clock_range, clock_stop}

-- not all accesses are inside where one is outside
in_or_out : (m : Netlist) (s : Snapshot) (x i : ℕ) → IsInRange m s → StopsAt m s x i → ⊥
in_or_out m s x i all stop =
    let inside : atom_value (net_value s) stop.access < depth m x = All-at (IsInside m s) (accesses m) stop.place (x, stop.access) all stop.at in
    omega (arith, inside, stop.value, stop.outside)

module _ (m : Netlist) (order : List ℕ) (rules : KeepsRules m) (ordered : IsEvaluationOrder m.assigns order) (from : Contents) (places : HasPlaces m from) (clock : Clock)
    (s : Snapshot) (shot : SnapshotOf m from (given m clock) s) where
  shots_one : HasOneSnapshot m
  shots_one = record { some = some_snapshot m rules order ordered; one = one_snapshot m rules order ordered }

  pub stops_only : (r : Result (Unit {0}) IndexRange) → OnOk r (IsInRange m s) → IfErr r (λ (range : IndexRange). StopsAt m s range.array range.index) →
      (x i : ℕ) → Stops m from (given m clock) x i → r ≡ Err (record { array = x; index = i })
  stops_only (Ok u) ok err x i stops = absurd (in_or_out m s x i ok (subst (λ (z : Snapshot). StopsAt m z x i) (shots_one.one from (given m clock) stops.shot s stops.snapshot shot) stops.stops))
  stops_only (Err e) ok err x i stops =
      let here : Stops m from (given m clock) e.array e.index = record { shot = s; snapshot = shot; stops = err } in
      let same = stop_one m shots_one (has_one_next m rules) from (clock ∷ []) [] [] e.array e.index x i places here stops in
      ap (λ (n : ℕ). let r : Result (Unit {0}) IndexRange = Err (record { array = n; index = e.index }) in r) same.1
      ∙ ap (λ (n : ℕ). let r : Result (Unit {0}) IndexRange = Err (record { array = x; index = n }) in r) same.2

module _ (m : Netlist) (order : List ℕ) (p : Program) (values staged : List ℕ) (words : List (List ℕ)) (sim : IsCircuit m order p values staged words)
    (clock : Clock) (fits : Fit m.inputs (given m clock)) (new_values : List ℕ) (settle : new_values ≡ settled_values p words (port_values p.enable clock.reset clock.enable clock.dins) values) where
  abbrev settled : List ℕ
  settled = settled_values p words (port_values p.enable clock.reset clock.enable clock.dins) values

  pub clock_only : (r : Result (Unit {0}) IndexRange) → OnOk r (All (IsAccessInside words settled) p.accesses.items) → IfErr r (IsFirstOutside words settled p.accesses.items) →
      (x i : ℕ) → Stops m (contents_of m values words) (given m clock) x i → r ≡ Err (record { array = x; index = i })
  clock_only r ok err x i stops =
      stops_only m order sim.rules sim.ordered (contents_of m values words) (contents_placed m order p values staged words sim) clock (shot_of m new_values words)
      (clock_shot m order p values staged words sim clock fits new_values settle) r
      (clock_range m order p values staged words sim clock fits new_values settle r ok) (clock_stop m order p values staged words sim clock fits new_values settle r err) x i stops
