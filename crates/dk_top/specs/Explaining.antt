-- The explanation of a program's first fault.
use Rattle.std.specs.Prelude.{◌≡◌, ℕ, List, Option}
use Rattle.source_fault.specs.declared.fault.SourceFault.{SourceFault}
use Rattle.dk_compile.specs.Limits.{IsFaultAt}
use Rattle.fault_messages.specs.Explanations.{IsExplanation}
use Rattle.dk_endings.specs.declared.ending.Ending.{Ending}
use Rattle.dk_endings.specs.declared.ending.Ending.TheVariants as ending
use Rattle.dk_top.specs.Program.{program_answers}
use Rattle.dk_top.specs.Meaning.{Answers, IsAnswered, reports_fault, Meaning, of_text}
use Rattle.dk_top.specs.Texts.{GainsText}

-- the text's first fault at age 0, explained under the program's name
pub record ExplainsFault (name source text : List ℕ) : Type 0 where
  pub fault : SourceFault
  pub first : IsFaultAt source 0 fault
  pub explained : IsExplanation name source fault text

-- the text has a fault at age 0
abbrev pub IsFaulty : (source : List ℕ) → Type 0
IsFaulty source = (fault : SourceFault) × IsFaultAt source 0 fault

-- When each ending comes for a program whose first fault is explained. Only an explanation is written.
abbrev pub explain_answers : (source : List ℕ) → Answers
explain_answers source = record (program_answers 0 source) { write = IsFaulty source }

abbrev pub IsExplainAnswer : (source : List ℕ) → Ending → Type 0
IsExplainAnswer source result = IsAnswered (explain_answers source) result

-- What Report gains of a program's first fault: its explanation, or a prefix of it if a write failed. Nothing comes of an accepted program.
abbrev pub ReportsFault : Ending → (name source : List ℕ) → (old new : Option (List ℕ)) → Type 0
ReportsFault (ending.Source fault) name source old new = GainsText (IsExplanation name source fault) old new ending.Done
ReportsFault ending.WriteFault name source old new = GainsText (ExplainsFault name source) old new ending.WriteFault
ReportsFault _ name source old new = new ≡ old

-- what `explain` means
abbrev pub explain_meaning : (program : List ℕ) → Meaning
explain_meaning program = record (of_text program explain_answers) { reports = reports_fault program }
