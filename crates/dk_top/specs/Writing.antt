-- What is written to File and to Report, for the private functions. A failed write ends the call with WriteFault.
use Rattle.std.specs.Prelude.{◌≡◌, ◌⊎◌, List, ℕ, Some, Result, IsErr, IfErr, IfSome, OnOk, OnErr}
use Rattle.dk_desk.specs.declared.Stage.TheVariants.{Open}
use Rattle.dk_desk.specs.Outside.{Outside}
use Rattle.dk_desk.specs.Calls.{HasCauseIn, IsIfTold, CreatesOnly, grown}
use Rattle.dk_endings.specs.declared.ending.Ending.{Ending}
use Rattle.dk_endings.specs.declared.ending.Ending.TheVariants as ending
use Rattle.dk_top.specs.State.{OthersStay, HasOwnFile}
use Rattle.dk_top.specs.Performing.{AllStay}
use Rattle.dk_top.specs.Reading.{WritesReport, WritesBoth, EndsInLine}
use Rattle.dk_top.specs.Texts.{IsPrefix, ReportsFront}

-- File is created under this name and holds these bytes, or a prefix of them if a write failed. Nothing else is changed.
pub record WritesFile {A : Type 0} (out bytes : List ℕ) (result : Result A Ending) (old new : Outside) : Type 0 where
  pub whole : OnOk result (IfSome new.file.bytes (λ written. written ≡ bytes))
  pub prefix : OnErr result (new.file.stage ≡ Open → IfSome new.file.bytes (λ written. IsPrefix written bytes))
  pub opened : OnOk result (new.file.stage ≡ Open)
  pub name : IsIfTold new.file.name (Some out)
  pub files : OthersStay out old.files new.files
  pub files_stay : AllStay old new
  pub own : HasOwnFile new
  pub only : CreatesOnly old new
  pub fault : IfErr result (λ e. e ≡ ending.WriteFault)
  pub cause : HasCauseIn (IsErr result) old.output_failures new.output_failures

-- Report gains this text, or a prefix of it if the write failed. Nothing else is changed.
pub record WritesReportOf {A : Type 0} (text : List ℕ) (result : Result A Ending) (old new : Outside) : Type 0 where
  pub whole : OnOk result (IsIfTold new.report (grown old.report text))
  pub front : OnErr result (ReportsFront text old.report new.report)
  pub only : WritesReport old new
  pub fault : IfErr result (λ e. e ≡ ending.WriteFault)
  pub cause : HasCauseIn (IsErr result) old.output_failures new.output_failures

-- File is created and holds a text, and then Report gains its lines. A failed write leaves a prefix of the text and no line, or the text and a prefix of
-- the lines. Nothing else is changed.
pub record WritesLines {A : Type 0} (out text lines : List ℕ) (result : Result A Ending) (old new : Outside) : Type 0 where
  pub whole : OnOk result (IfSome new.file.bytes (λ written. written ≡ text))
  pub prefix : OnErr result (new.file.stage ≡ Open → IfSome new.file.bytes (λ written. IsPrefix written text))
  pub line : OnOk result (IsIfTold new.report (grown old.report lines))
  pub front : OnErr result ((new.report ≡ old.report) ⊎ EndsInLine text lines old new)
  pub opened : OnOk result (new.file.stage ≡ Open)
  pub name : IsIfTold new.file.name (Some out)
  pub files : OthersStay out old.files new.files
  pub files_stay : AllStay old new
  pub own : HasOwnFile new
  pub only : WritesBoth old new
  pub fault : IfErr result (λ e. e ≡ ending.WriteFault)
  pub cause : HasCauseIn (IsErr result) old.output_failures new.output_failures
