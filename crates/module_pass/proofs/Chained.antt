-- Passes one after another, and runs that the new netlist has because the old one has them.
use Rattle.std.proofs.Common.{◌≡◌, ℕ, List, map, refl, subst, ◌∙◌, inl, inr}
use Rattle.std.specs.Prelude.{All}
use Rattle.std.proofs.lemmas.Slice.Zip.{AllZip-long}
use Rattle.wiring.specs.declared.netlist.Shape.{Shape}
use Rattle.wiring.specs.Netlist.{Netlist}
use Rattle.wiring.specs.Snapshot.{Contents, Snapshot, Fit, FitsContents, HasPlaces, HasOneSnapshot, HasOneNext}
use Rattle.std.specs.Prelude.{length, ◌<◌, ◌^◌}
use Rattle.wiring.specs.Order.{IsEvaluationOrder}
use Rattle.wiring.specs.Rules.{KeepsRules}
use Rattle.wiring.specs.Clock.{Clock}
use Rattle.wiring.specs.Runs.{Runs}
use Rattle.netlist.proofs.RunLaws.{run_some, run_one, run_or_stop}
use Rattle.module_pass.specs.Simulation.{View, seen, IsSnapshot, Simulates, FitsPorts, ShowsRun, itself, through}
use Rattle.module_pass.proofs.Following.{run_followed, stop_followed}

pub simulates_itself : (m : Netlist) → Simulates m m itself
simulates_itself m = record {
  enable = refl;
  inputs = refl;
  outputs = refl;
  fits = λ c fit. fit;
  settled = λ t snap. snap.settled;
  goes_on = λ t snap range. range;
  back = λ t snap range. range;
  next = λ t to snap next. next;
}

pub simulates_through : (a b c : Netlist) (v w : View) → Simulates a b v → Simulates b c w → Simulates a c (through v w)
simulates_through a b c v w s r = record {
  enable = s.enable ∙ r.enable;
  inputs = s.inputs ∙ r.inputs;
  outputs = s.outputs ∙ r.outputs;
  fits = λ x fit. r.fits (v.contents x) (s.fits x fit);
  settled = λ t snap. r.settled (seen v t) (between t snap);
  goes_on = λ t snap range. r.goes_on (seen v t) (between t snap) (s.goes_on t snap range);
  back = λ t snap range. s.back t snap (r.back (seen v t) (between t snap) range);
  next = λ t to snap next. r.next (seen v t) (v.contents to) (between t snap) (s.next t to snap next);
}
  where
    between : (t : Snapshot) → IsSnapshot a t → IsSnapshot b (seen v t)
    between t snap = record {
      settled = s.settled t snap;
      contents = s.fits t.contents snap.contents;
      inputs = subst (λ (l : List ℕ). Fit l t.inputs) s.inputs snap.inputs;
    }

places_of : (m : Netlist) (c : Contents) → FitsContents m c → HasPlaces m c
places_of m c fit = record {
  regs = AllZip-long (λ w v. v < 2 ^ w) m.regs c.regs fit.regs;
  arrays = AllZip-long (λ (s : Shape) words. (length words ≡ s.depth) × All (λ w. w < 2 ^ s.width) words) m.arrays c.arrays fit.arrays;
}

pub run_shown : (new old : Netlist) (v : View) (order : List ℕ) → Simulates new old v → KeepsRules new → IsEvaluationOrder new.assigns order → HasOneSnapshot new → HasOneNext new → HasOneSnapshot old → HasOneNext old →
    (from to : Contents) (clocks : List Clock) (shots : List Snapshot) → FitsContents new from → All (FitsPorts new) clocks → Runs old (v.contents from) clocks shots to → ShowsRun new v from clocks shots to
run_shown new old v order sim rules ordered new_shot new_next old_shot old_next from to clocks shots start fit run =
    let there = places_of old (v.contents from) (sim.fits from start) in
    elim (run_some new new_shot new_next from clocks (places_of new from start)) as (λ _. ShowsRun new v from clocks shots to) [
      | inl r ↦
          let same = run_one old old_shot old_next (v.contents from) clocks (map (seen v) r.0) shots (v.contents r.1) to there (run_followed new old v sim rules order ordered from r.1 clocks r.0 start fit r.2) run in
          record { news = r.0; end = r.1; run = r.2; shots_are = same.0; to_is = same.1 }
      | inr r ↦
          let stop = stop_followed new old v sim rules order ordered from clocks r.0 r.1 r.2 start fit r.3 in
          absurd (run_or_stop old old_shot old_next (v.contents from) clocks shots (map (seen v) r.0) to stop.0 stop.1 there run stop.2)
    ]
