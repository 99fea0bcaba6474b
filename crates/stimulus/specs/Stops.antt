-- Why a module's pictures are not written.
use Rattle.std.specs.Prelude.{◌≡◌, ℕ, ℤ, pos, ◌-ℤ◌, ◌<◌, List, length}
use Rattle.dk_base.specs.Frames.{Size}
use Rattle.wiring.specs.Netlist.{Netlist}
use Rattle.wiring.specs.Snapshot.{Snapshot}
use Rattle.wiring.specs.Runs.{RunStops, picture}
use Rattle.cycle_sim.specs.Ports.{din_widths}
use Rattle.cycle_sim.specs.Filled.{filled_contents}
use Rattle.stimulus.specs.declared.drive.Drive.{Drive}
use Rattle.stimulus.specs.declared.stop.Stop.{Stop}
use Rattle.stimulus.specs.declared.stop.Stop.TheVariants.{Index, Count}
use Rattle.stimulus.specs.declared.stop.BenchFault.{BenchFault}
use Rattle.stimulus.specs.declared.stop.BenchFault.TheVariants.{Stopped, OutOfMemory}
use Rattle.stimulus.specs.Stimulus.{Rounds, stimulus}
use Rattle.stimulus.specs.Showing.{output_count, IsRun, HasShown, asked}

-- The run stops at this clock, the reset clock being -1, with the first access that is outside its array.
pub record StopsAtClock (m : Netlist) (drive : Drive) (rounds : Rounds) (clock : ℤ) (array index : ℕ) : Type 0 where
  pub shots : List Snapshot
  pub stops : RunStops m (filled_contents drive.fill m) (stimulus drive (din_widths m) rounds) shots array index
  pub clock_is : clock ≡ pos (length shots) -ℤ pos 1

-- The run goes to its end, and the first output that has not shown enough has shown this many samples.
pub record ShowsOthers (m : Netlist) (drive : Drive) (size : Size) (rounds : Rounds) (shown wanted : ℕ) : Type 0 where
  pub shots : List Snapshot
  pub run : IsRun m drive rounds shots
  pub output : ℕ
  pub there : output < output_count m
  pub wrong : ¬ HasShown m size rounds shots output
  pub before : (k : ℕ) → k < output → HasShown m size rounds shots k
  pub shown_is : shown ≡ length (picture output shots)
  pub wanted_is : wanted ≡ asked size rounds

abbrev pub IsStop : Netlist → Drive → Size → Rounds → Stop → Type 0
IsStop m drive size rounds (Index clock array index) = StopsAtClock m drive rounds clock array index
IsStop m drive size rounds (Count shown wanted) = ShowsOthers m drive size rounds shown wanted

-- a stop, or out of memory
abbrev pub IsBenchEnd : Netlist → Drive → Size → Rounds → BenchFault → Type 0
IsBenchEnd m drive size rounds (Stopped stop) = IsStop m drive size rounds stop
IsBenchEnd m drive size rounds OutOfMemory = Unit {0}
