-- What a call of the program does, fact by fact. `command` is the command that its words name, if any, `e` is how the call ends, and `old` and
-- `new` are what is outside before it and after it. The line to Fault is stated apart.
use Rattle.std.specs.Prelude.{◌≡◌, ◌≢◌, Option, None, Some, IfSome, Result, MatchResult}
use Rattle.dk_desk.specs.declared.Stage.TheVariants.{Unasked, Open}
use Rattle.dk_desk.specs.Outside.{Outside}
use Rattle.dk_desk.specs.Calls.{HasCauseIn}
use Rattle.dk_endings.specs.declared.ending.Ending.{Ending}
use Rattle.dk_endings.specs.declared.ending.Ending.TheVariants as ending
use Rattle.dk_top.specs.Command.{Command}
use Rattle.dk_top.specs.Verdict.{OnCommand, IsVerdict, IsOrMemory}
use Rattle.dk_top.specs.State.{AsksOnly, AsksInOrder, CreatesNothing, CreatesBy, ReadsBy, CreatesOut, FilesStay, HasOwnFile, IsStored, IsNoted, IsReported, WritesNothing, NotesNothing, TakesNoMore}

-- the ending is right for the command and its files
abbrev pub EndsRight : Option Command → Ending → (old : Outside) → Type 0
EndsRight command e old = OnCommand command old (λ c files. IsVerdict c files e)

-- a failed read is reported only where the count of failed reads may have risen, and always where it is greater than before; a failed write likewise
abbrev pub ReportsRead : Ending → (old new : Outside) → Type 0
ReportsRead e old new = HasCauseIn (e ≡ ending.ReadFault) old.input_failures new.input_failures

abbrev pub ReportsWrite : Ending → (old new : Outside) → Type 0
ReportsWrite e old new = HasCauseIn (e ≡ ending.WriteFault) old.output_failures new.output_failures

-- the images are requested only once the text before them is in order
abbrev pub AsksAfter : Option Command → (old new : Outside) → Type 0
AsksAfter command old new = OnCommand command old (λ c files. AsksInOrder c files new)

-- what is left of a file that is too long
abbrev pub LeavesRestOf : Option Command → Ending → (old new : Outside) → Type 0
LeavesRestOf command e old new = OnCommand command old (λ c files. TakesNoMore c e files new.program new.image)

-- at which endings nothing was created
abbrev pub CreatesLast : Option Command → Ending → (new : Outside) → Type 0
CreatesLast command e new = CreatesNothing command e → new.file.stage ≡ Unasked

-- what was created at the other endings
abbrev pub HasCreated : Option Command → Ending → (old new : Outside) → Type 0
HasCreated command e old new = OnCommand command old (λ c files. CreatesBy c e files new.file.stage)

-- how far the images were read
abbrev pub HasRead : Option Command → Ending → (old new : Outside) → Type 0
HasRead command e old new = OnCommand command old (λ c files. ReadsBy c e files new.image new.file.stage)

-- a command that is done has created its file
abbrev pub HasWritten : Option Command → Ending → (new : Outside) → Type 0
HasWritten command e new = e ≡ ending.Done → CreatesOut command new

-- what File holds where it was created
abbrev pub HasStored : Option Command → Ending → (old new : Outside) → Type 0
HasStored command e old new =
    new.file.stage ≡ Open → OnCommand command old (λ c files. IfSome new.file.bytes (IsStored e c files new.image.rest))

-- where nothing was created, all files stay
abbrev pub AllStay : (old new : Outside) → Type 0
AllStay old new = new.file.stage ≢ Open → new.files ≡ old.files

-- what Report has gained
abbrev pub HasReported : Option Command → Ending → (old new : Outside) → Type 0
HasReported command e old new = OnCommand command old (λ c files. IsReported e c files new.file.bytes old.report new.report)

-- where Report has gained nothing
abbrev pub ReportStays : Option Command → Ending → (old new : Outside) → Type 0
ReportStays command e old new = WritesNothing command e → new.report ≡ old.report

-- which clocks were noted
abbrev pub HasNoted : Option Command → Ending → (old new : Outside) → Type 0
HasNoted command e old new = OnCommand command old (λ c files. IsNoted c e files old.notes new.notes)

-- where no clock was noted
abbrev pub NotesStay : Option Command → (old new : Outside) → Type 0
NotesStay command old new = NotesNothing command → new.notes ≡ old.notes

-- which ending comes
pub record HasEnding (command : Option Command) (e : Ending) (old new : Outside) : Type 0 where
  pub verdict : EndsRight command e old
  pub read_fault : ReportsRead e old new
  pub write_fault : ReportsWrite e old new

-- what was requested and read
pub record HasAsked (command : Option Command) (e : Ending) (old new : Outside) : Type 0 where
  pub asked : AsksOnly command new
  pub order : AsksAfter command old new
  pub too_long : LeavesRestOf command e old new
  pub reads : HasRead command e old new

-- what was created, and what File and the files hold
pub record HasFile (command : Option Command) (e : Ending) (old new : Outside) : Type 0 where
  pub created : CreatesLast command e new
  pub begun : HasCreated command e old new
  pub written : HasWritten command e new
  pub output : HasStored command e old new
  pub files : FilesStay command old.files new.files
  pub files_stay : AllStay old new
  pub own : HasOwnFile new

-- what Report and the notes have gained
pub record HasTold (command : Option Command) (e : Ending) (old new : Outside) : Type 0 where
  pub report : HasReported command e old new
  pub report_stays : ReportStays command e old new
  pub notes : HasNoted command e old new
  pub notes_stay : NotesStay command old new

-- all of it
pub record Performs (command : Option Command) (e : Ending) (old new : Outside) : Type 0 where
  pub usage : e ≡ ending.Usage → command ≡ None
  pub not_taken : command ≡ None → IsOrMemory e ending.Usage
  pub ends : HasEnding command e old new
  pub asks : HasAsked command e old new
  pub file : HasFile command e old new
  pub tells : HasTold command e old new

-- what holds of the ending of a result: it is Done, or the error
abbrev pub OfEnding : {A : Type 0} → Result A Ending → (Ending → Type 0) → Type 0
OfEnding result P = MatchResult result (λ _. P ending.Done) P

-- All of it, of the words of a command. Fault stays.
pub record PerformsWork (c : Command) (e : Ending) (old new : Outside) : Type 0 where
  pub taken : e ≢ ending.Usage
  pub ends : HasEnding (Some c) e old new
  pub asks : HasAsked (Some c) e old new
  pub file : HasFile (Some c) e old new
  pub tells : HasTold (Some c) e old new
  pub fault : new.fault ≡ old.fault
  pub fault_count : new.fault_failures ≡ old.fault_failures
