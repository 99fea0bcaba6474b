-- What `check` reads, for the private functions.
use Rattle.std.specs.Prelude.{ℕ, List, ⊤}
use Rattle.dk_base.specs.Stencils.{Stencils}
use Rattle.dk_types.specs.Typed.{Typing}
use Rattle.pointwise_ir.specs.Programs.{Program}
use Rattle.dk_compile.specs.declared.accepted.Front.{Front}
use Rattle.dk_compile.specs.Fronts.{IsFront}
use Rattle.dk_endings.specs.declared.ending.Ending.{Ending}
use Rattle.dk_endings.specs.declared.ending.Ending.TheVariants as ending
use Rattle.dk_compile.specs.Sources.{IsAccepted}
use Rattle.dk_top.specs.Reports.{IsReportFault}

-- The text is accepted, with this form and these live reads.
pub record HasFront (source : List ℕ) (ir : Program) (s : Stencils) : Type 0 where
  pub program : Typing
  pub accepted : IsAccepted source program
  pub front : IsFront source program ir s

-- the text is accepted
abbrev pub HasProgram : (source : List ℕ) → Type 0
HasProgram source = (p : Typing) × IsAccepted source p

-- what holds of each text that this is the front of
abbrev pub OfFront : Front → (List ℕ → Type 0) → Type 0
OfFront front P = (source : List ℕ) → HasFront source front.ir front.stencils → P source

-- the ending of a report of an accepted text
abbrev pub IsReportEnding : (source report : List ℕ) → Ending → Type 0
IsReportEnding source report (ending.Rejected fault) = IsReportFault source report fault
IsReportEnding source report ending.ReadFault = ⊤
IsReportEnding source report ending.Memory = ⊤
IsReportEnding source report _ = ⊥
