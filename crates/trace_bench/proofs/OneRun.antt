-- A run on a bench is one.
use Rattle.std.proofs.Common.{◌≡◌, ℕ, List, length, ap, sym, ◌∙◌, ℤ, pos, ◌-ℤ◌}
use Rattle.wiring.specs.Netlist.{Netlist}
use Rattle.wiring.specs.Snapshot.{Contents, Snapshot, HasOneSnapshot, HasOneNext}
use Rattle.wiring.specs.Clock.{Clock}
use Rattle.cycle_sim.specs.Ports.{din_widths}
use Rattle.cycle_sim.specs.Filled.{filled_contents}
use Rattle.stimulus.specs.declared.drive.Drive.{Drive}
use Rattle.stimulus.specs.Stimulus.{Rounds, stimulus}
use Rattle.stimulus.specs.Showing.{IsRun}
use Rattle.stimulus.specs.Stops.{StopsAtClock}
use Rattle.stimulus.proofs.Benches.{OneRun, OneStop, Apart, places, same_shots, not_both}

module _ (m : Netlist) (one_shot : HasOneSnapshot m) (one_next : HasOneNext m) (drive : Drive) (rounds : Rounds) where
  abbrev from : Contents
  from = filled_contents drive.fill m

  abbrev all : List Clock
  all = stimulus drive (din_widths m) rounds

  pub one_run : OneRun → (a b : List Snapshot) → IsRun m drive rounds a → IsRun m drive rounds b → a ≡ b
  one_run one a b = same_shots m one_shot one_next drive rounds one a b

  pub one_stop : OneStop → (c d : ℤ) (x i y j : ℕ) → StopsAtClock m drive rounds c x i → StopsAtClock m drive rounds d y j → (c ≡ d) × (x ≡ y) × (i ≡ j)
  one_stop one c d x i y j h g =
      let same = one m one_shot one_next from all h.shots g.shots x i y j (places drive.fill m) h.stops g.stops in
      (h.clock_is ∙ ap (λ z. pos (length z) -ℤ pos 1) same.0 ∙ sym g.clock_is, same.1, same.2)

  pub run_or_stop : Apart → (shots : List Snapshot) (clock : ℤ) (array index : ℕ) → IsRun m drive rounds shots → StopsAtClock m drive rounds clock array index → ⊥
  run_or_stop apart shots clock array index x y = not_both m one_shot one_next drive rounds apart shots x clock array index y
