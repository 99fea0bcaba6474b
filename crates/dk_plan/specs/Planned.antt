-- The report of a system.
use Rattle.std.specs.Prelude.{◌≡◌, ℕ, ◌≤◌, List}
use Rattle.dk_base.specs.declared.TheConstants.{MAX_BUFFER_BITS, MAX_LATENCY}
use Rattle.dk_base.specs.Stencils.{Stencils}
use Rattle.raster_delay.specs.Systems.{System}
use Rattle.flow_dual.specs.Solutions.{IsLeastVector}
use Rattle.buffer_plan.specs.Limits.{latency_in}
use Rattle.report_text.specs.Reports.{Report}
use Rattle.report_text.specs.Texts.{StandsFor}
use Rattle.latency_report.specs.Printed.{version_of}
use Rattle.plan_check.specs.Holding.{delays}
use Rattle.plan_check.specs.Program.{HoldsOf}

-- the system of these live reads, each at least so old
abbrev pub aged : Stencils → (age : ℕ) → System
aged stencils age = record { stencils = stencils; age = age }

-- The report is that of a system: all its lines are right, its delays are the least vector, and its flow is any whose worth is the bits. `names` are those of all images of the program.
pub record IsReportOf (names : List (List ℕ)) (s : System) (r : Report) : Type 0 where
  pub version : r.version ≡ version_of s
  pub bits_limit : r.bits_limit ≡ MAX_BUFFER_BITS
  pub latency_limit : r.latency_limit ≡ MAX_LATENCY
  pub age : r.age ≡ s.age
  pub holds : HoldsOf names s r
  pub least : IsLeastVector s (delays r)
  pub few_bits : r.bits ≤ MAX_BUFFER_BITS
  pub short : latency_in s (delays r) ≤ MAX_LATENCY

-- the bytes are the text of a report of which this holds
pub record IsTextOf (P : Report → Type 0) (bytes : List ℕ) : Type 0 where
  pub report : Report
  pub stands : StandsFor bytes report
  pub is : P report

-- the bytes are the text of a report of the system
abbrev pub IsReportText : (names : List (List ℕ)) → System → (bytes : List ℕ) → Type 0
IsReportText names s bytes = IsTextOf (IsReportOf names s) bytes
