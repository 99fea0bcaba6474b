-- Which reports hold of a program's live reads, and the first wrong line of the others. `names` are those of all images of the program.
use Rattle.std.specs.Prelude.{◌≡◌, ℕ, List, slice_index, ⊤}
use Rattle.dk_base.specs.Stencils.{Stencils}
use Rattle.raster_delay.specs.Systems.{System}
use Rattle.report_text.specs.Reports.{Report}
use Rattle.report_text.specs.Texts.{IsFaultyLine}
use Rattle.report_text.specs.declared.reading.ReportFault.{ReportFault}
use Rattle.report_text.specs.declared.reading.ReportFault.TheVariants as reader
use Rattle.plan_check.specs.Holding.{AreLeast}
use Rattle.plan_check.specs.Program.{HoldsOf, IsAmiss}
use Rattle.dk_plan.specs.declared.judging.Claim.{Claim}
use Rattle.dk_plan.specs.declared.judging.CheckFault.{CheckFault}
use Rattle.dk_plan.specs.declared.judging.CheckFault.TheVariants.{Line, OutOfMemory}
use Rattle.dk_plan.specs.Planned.{aged, IsTextOf}
use Rattle.plan_check.specs.First.{IsFirst}

-- The report holds: all its lines are right, and no causal schedule needs fewer bits than it claims. These are its bits and its first latency.
pub record Confirms (names : List (List ℕ)) (s : System) (claim : Claim) (r : Report) : Type 0 where
  pub holds : HoldsOf names s r
  pub least : AreLeast s r
  pub bits : claim.bits ≡ r.bits
  pub latency : claim.latency ≡ slice_index r.latencies 0

-- the bytes are a report that holds at its own age
abbrev pub IsConfirmed : (names : List (List ℕ)) → Stencils → (bytes : List ℕ) → Claim → Type 0
IsConfirmed names stencils bytes claim = IsTextOf (λ r. Confirms names (aged stencils r.age) claim r) bytes

-- the first line that continues no report, or else, at the report's own age, the first that is wrong by the program or by the printed numbers
pub data IsWrongLine (names : List (List ℕ)) (stencils : Stencils) (bytes : List ℕ) (line : ℕ) : Type 0 where
  faulty : IsFaultyLine bytes line → IsWrongLine names stencils bytes line
  rejected : IsTextOf (λ r. IsFirst (IsAmiss names (aged stencils r.age) r) line) bytes → IsWrongLine names stencils bytes line

-- the faults of the reader
abbrev pub of_reader : ReportFault → CheckFault
of_reader (reader.Line number) = Line number
of_reader reader.OutOfMemory = OutOfMemory

-- why a report does not hold; no report determines out of memory
abbrev pub IsCheckFault : (names : List (List ℕ)) → Stencils → (bytes : List ℕ) → CheckFault → Type 0
IsCheckFault names stencils bytes (Line number) = IsWrongLine names stencils bytes number
IsCheckFault names stencils bytes OutOfMemory = ⊤
