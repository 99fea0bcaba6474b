-- A run over a list of clocks is a history, the latest clock last.
use Rattle.std.proofs.Common.{◌≡◌, List, [], ◌∷◌, ◌++◌, refl, ap, subst, sym, ◌∙◌, append_assoc, append-nil}
use Rattle.std.specs.Prelude.{reverse}
use Rattle.std.proofs.lemmas.List.{reverse-append}
use Rattle.wiring.specs.Netlist.{Netlist}
use Rattle.wiring.specs.Snapshot.{Contents, Snapshot}
use Rattle.wiring.specs.Clock.{Clock, given, Steps}
use Rattle.wiring.specs.Runs.{Runs}
use Rattle.wiring.specs.History.{After}

reverse-cons : (c : Clock) (clocks : List Clock) → reverse (c ∷ clocks) ≡ reverse clocks ++ c ∷ []
reverse-cons c clocks = reverse-append (c ∷ []) clocks

module _ (m : Netlist) (from : Contents) where
  after_runs : (mid : Contents) (before clocks : List Clock) (shots : List Snapshot) (to : Contents) → After m from before mid → Runs m mid clocks shots to → After m from (reverse clocks ++ before) to
  after_runs mid before [] [] to after runs = subst (After m from before) runs after
  after_runs mid before [] (s ∷ shots) to after runs = absurd runs
  after_runs mid before (c ∷ clocks) [] to after runs = absurd runs
  after_runs mid before (c ∷ clocks) (s ∷ shots) to after runs =
      let e : reverse clocks ++ (c ∷ before) ≡ reverse (c ∷ clocks) ++ before = sym (ap (λ (l : List Clock). l ++ before) (reverse-cons c clocks) ∙ append_assoc (reverse clocks) (c ∷ []) before) in
      subst (λ (l : List Clock). After m from l to) e (after_runs runs.0 (c ∷ before) clocks shots to (mid, s, after, runs.1) runs.2)

  pub run_after : (clocks : List Clock) (shots : List Snapshot) (to : Contents) → Runs m from clocks shots to → After m from (reverse clocks) to
  run_after clocks shots to runs = subst (λ (l : List Clock). After m from l to) (append-nil (reverse clocks)) (after_runs from [] clocks shots to refl runs)

-- one clock more at the end of a run
run_more : (m : Netlist) (from : Contents) (clocks : List Clock) (shots : List Snapshot) (mid : Contents) (c : Clock) (s : Snapshot) (to : Contents) → Runs m from clocks shots mid → Steps m mid (given m c) s to → Runs m from (clocks ++ c ∷ []) (shots ++ s ∷ []) to
run_more m from [] [] mid c s to runs steps = (to, subst (λ (x : Contents). Steps m x (given m c) s to) (sym runs) steps, refl)
run_more m from [] (t ∷ shots) mid c s to runs steps = absurd runs
run_more m from (d ∷ clocks) [] mid c s to runs steps = absurd runs
run_more m from (d ∷ clocks) (t ∷ shots) mid c s to runs steps = (runs.0, runs.1, run_more m runs.0 clocks shots mid c s to runs.2 steps)

pub after_run : (m : Netlist) (from : Contents) (history : List Clock) (to : Contents) → After m from history to → (shots : List Snapshot) × Runs m from (reverse history) shots to
after_run m from [] to after = ([], after)
after_run m from (c ∷ before) to after =
    let r = after_run m from before after.0 after.2 in
    (r.0 ++ after.1 ∷ [], subst (λ (l : List Clock). Runs m from l (r.0 ++ after.1 ∷ []) to) (sym (reverse-cons c before)) (run_more m from (reverse before) r.0 after.0 c after.1 to r.1 after.3))
