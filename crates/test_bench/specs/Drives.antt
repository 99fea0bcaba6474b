-- How a module is driven with rounds of frames.
use Rattle.std.specs.Prelude.{ℕ, ◌+◌, ◌*◌, None}
use Rattle.dk_base.specs.Frames.{Size, area}
use Rattle.cycle_sim.specs.declared.fill.Fill.{Fill}
use Rattle.cycle_sim.specs.declared.fill.Fill.TheVariants.{Zeros}
use Rattle.stimulus.specs.declared.drive.Drive.{Drive}

-- how a module is driven with this many rounds of frames, from zeros or from ones: with a clock for each pixel, and then those of the latency
abbrev pub filled_drive : Fill → Size → (latency rounds : ℕ) → Drive
filled_drive fill size latency rounds = record { clocks = rounds * area size + latency; fill = fill; hold = None }

-- from zeros, as `run` does
abbrev pub frame_drive : Size → (latency rounds : ℕ) → Drive
frame_drive size latency rounds = filled_drive Zeros size latency rounds
