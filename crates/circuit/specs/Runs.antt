-- Clocks of runs for which a pixel of an image is scheduled.
use Rattle.std.specs.Prelude.{◌≡◌, ℕ, ◌+◌, false, IsTrue, List, length}
use Rattle.dk_base.specs.Frames.{Size, column, row}
use Rattle.wiring.specs.Netlist.{Netlist}
use Rattle.wiring.specs.Snapshot.{Contents, Snapshot}
use Rattle.wiring.specs.Clock.{Clock}
use Rattle.wiring.specs.History.{was_reset, is_held, counted}
use Rattle.net_build.specs.Runs.{IsClockOf}

-- a clock that is counted, some time after a reset
pub record IsRunning (part m : Netlist) (from : Contents) (before : List Clock) (c : Clock) (s : Snapshot) : Type 0 where
  pub clock : IsClockOf part m from before c s
  pub since : IsTrue (was_reset before)
  pub off : c.reset ≡ false
  pub going : is_held m c ≡ false

-- In each counted clock for which pixel q of an image of this delay is scheduled, a fact of the pixel's column and row.
abbrev pub AtEachPixel : Netlist → Size → (delay : ℕ) → ((x y : ℕ) → Snapshot → Type 0) → Type 0
AtEachPixel b size delay P =
    (m : Netlist) (from : Contents) (before : List Clock) (c : Clock) (s : Snapshot) → IsRunning b m from before c s → (q : ℕ) → q + delay ≡ length (counted m before) → P (column size q) (row size q) s
