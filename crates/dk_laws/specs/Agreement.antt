-- `compile` and then `sim`: a Verilog text that a program is compiled to, and the images that its module is driven with.
use Rattle.std.specs.Prelude.{ℕ, ◌+◌, ◌*◌, ◌≤◌, Bool, List, length, Option, None, Some}
use Rattle.dk_base.specs.declared.TheConstants.{MAX_PGM_BYTES, MAX_VERILOG_BYTES}
use Rattle.dk_base.specs.Frames.{area}
use Rattle.dk_types.specs.Typed.{Typing}
use Rattle.buffer_plan.specs.Plans.{Plan, latency}
use Rattle.pgm_codec.specs.Images.{Image}
use Rattle.stimulus.specs.declared.drive.Drive.{Drive}
use Rattle.dk_words.specs.declared.command.PowerUp.{PowerUp}
use Rattle.dk_top.specs.Agreement.{HasPlan}
use Rattle.dk_top.specs.Compiling.{IsCompiledText}
use Rattle.dk_top.specs.Output.{Fits}
use Rattle.dk_top.specs.Simulation.{drive_of}

-- A program with its plan at an age, a Verilog text that it is compiled to, and a file of rounds of images that fit it.
-- Both files are within the limits of `sim`.
pub record CompiledInput : Type 0 where
  pub source : List ℕ
  pub age : ℕ
  pub enable : Bool
  pub block : Option ℕ
  pub program : Typing
  pub plan : Plan
  pub text : List ℕ
  pub file : List ℕ
  pub rounds : List (List Image)
  pub has_plan : HasPlan source age program plan
  pub compiled : IsCompiledText source age enable block text
  pub short : length text ≤ MAX_VERILOG_BYTES
  pub fits : Fits (Some MAX_PGM_BYTES) program file rounds

-- a clock for each pixel of all rounds, and then the clocks of the latency, without held clocks
abbrev pub whole_drive : CompiledInput → PowerUp → Drive
whole_drive given fill = drive_of (length given.rounds * area given.program.size + latency given.plan) fill None
