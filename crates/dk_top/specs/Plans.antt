-- The report of a program's text, and which reports hold of it.
use Rattle.std.specs.Prelude.{◌≡◌, ℕ, List}
use Rattle.dk_base.specs.Stencils.{Stencils}
use Rattle.source_fault.specs.declared.fault.SourceFault.{SourceFault}
use Rattle.dk_types.specs.Typed.{Typing}
use Rattle.dk_inline.specs.Answers.{image_names}
use Rattle.pointwise_ir.specs.Programs.{Program}
use Rattle.dk_compile.specs.Fronts.{IsFront}
use Rattle.dk_compile.specs.Limits.{IsFaultAt}
use Rattle.dk_plan.specs.declared.judging.Claim.{Claim}
use Rattle.dk_plan.specs.Planned.{aged, IsReportText}
use Rattle.dk_plan.specs.Judged as of_program
use Rattle.dk_top.specs.Program.{CanBeCompiled, program_answers}
use Rattle.dk_top.specs.Meaning.{bytes_of, reports_text, Meaning, of_text}

-- The text is accepted, and these are the names of its program's images and its live reads.
pub record HasStencils (text : List ℕ) (names : List (List ℕ)) (s : Stencils) : Type 0 where
  pub program : Typing
  pub form : Program
  pub front : IsFront text program form s
  pub names_are : names ≡ image_names program

-- these bytes are a report of the text's program at this age
pub record IsPlanOf (text : List ℕ) (age : ℕ) (bytes : List ℕ) : Type 0 where
  pub names : List (List ℕ)
  pub stencils : Stencils
  pub has : HasStencils text names stencils
  pub is : IsReportText names (aged stencils age) bytes

-- The bytes are a report that holds of the text's program at the report's age, and says this.
pub record IsConfirmed (text bytes : List ℕ) (claim : Claim) : Type 0 where
  pub names : List (List ℕ)
  pub stencils : Stencils
  pub has : HasStencils text names stencils
  pub confirmed : of_program.IsConfirmed names stencils bytes claim

-- The text is accepted, and this line is the first that continues no report, or else the first that is wrong by its program.
pub record IsWrongLine (text bytes : List ℕ) (line : ℕ) : Type 0 where
  pub names : List (List ℕ)
  pub stencils : Stencils
  pub has : HasStencils text names stencils
  pub wrong : of_program.IsWrongLine names stencils bytes line

-- A text has at most one answer, and so has a report of it.
pub record HasOneAnswer : Type 0 where
  -- an accepted text has one list of names and one of live reads
  pub stencils : (text : List ℕ) (a b : List (List ℕ)) (s t : Stencils) → HasStencils text a s → HasStencils text b t → (a ≡ b) × (s ≡ t)
  -- a text that is accepted at an age has no fault at it, and any other has one fault
  pub apart : (text : List ℕ) (age : ℕ) (f : SourceFault) → CanBeCompiled text age → IsFaultAt text age f → ⊥
  pub fault : (text : List ℕ) (age : ℕ) (f g : SourceFault) → IsFaultAt text age f → IsFaultAt text age g → f ≡ g
  -- a report that holds has no wrong line and one claim, and any other has one first wrong line
  pub claim : (text bytes : List ℕ) (c d : Claim) → IsConfirmed text bytes c → IsConfirmed text bytes d → c ≡ d
  pub wrong : (text bytes : List ℕ) (c : Claim) (line : ℕ) → IsConfirmed text bytes c → IsWrongLine text bytes line → ⊥
  pub line : (text bytes : List ℕ) (m n : ℕ) → IsWrongLine text bytes m → IsWrongLine text bytes n → m ≡ n

-- what `plan` means
abbrev pub plan_meaning : (program : List ℕ) → (age : ℕ) → Meaning
plan_meaning program age = record (of_text program (program_answers age)) { reports = reports_text (λ files. IsPlanOf (bytes_of files program) age) }
