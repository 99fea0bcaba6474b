-- What a command means: which files it asks for, how it ends by their bytes, and what it leaves. Each command has one such record.
use Rattle.std.specs.Prelude.{ℕ, Bool, List, [], Option, None, Some, ⊤, unwrap_or}
use Rattle.source_fault.specs.declared.fault.SourceFault.{SourceFault}
use Rattle.source_fault.specs.declared.widen.WidenFault.{WidenFault}
use Rattle.stimulus.specs.declared.stop.Stop.{Stop}
use Rattle.dk_endings.specs.declared.ending.Ending.{Ending}
use Rattle.dk_endings.specs.declared.ending.Ending.TheVariants as ending
use Rattle.dk_endings.specs.declared.ending.ImageFault.{ImageFault}
use Rattle.dk_endings.specs.declared.ending.ReportFault.{ReportFault}
use Rattle.dk_endings.specs.declared.verilog.VerilogFault.{VerilogFault}
use Rattle.dk_words.specs.declared.command.Rewriting.{Rewriting}

-- the bytes of each file, by its name
abbrev pub Files : Type 0
Files = List ℕ → Option (List ℕ)

-- the bytes that are read from a slot that is opened under this name
abbrev pub bytes_of : Files → List ℕ → List ℕ
bytes_of files name = unwrap_or (files name) []

-- When each ending of a command comes, by the bytes of its files: when it is done, when it may end with a failed write, and with which faults it ends.
pub record Answers : Type 1 where
  pub done : Type 0
  pub write : Type 0
  pub source : SourceFault → Type 0
  pub image : ImageFault → Type 0
  pub verilog : VerilogFault → Type 0
  pub stopped : Stop → Type 0
  pub rejected : ReportFault → Type 0
  pub unable : WidenFault → Type 0

-- those of a command that is done, or a write fails, where all that it needs is there, and that ends with no fault
abbrev pub faultless : (there : Type 0) → Answers
faultless there = record { done = there; write = there; source = λ fault. ⊥; image = λ fault. ⊥; verilog = λ fault. ⊥; stopped = λ stop. ⊥; rejected = λ fault. ⊥; unable = λ fault. ⊥ }

-- This ending may come. The files determine neither a failed read nor out of memory.
abbrev pub IsAnswered : Answers → Ending → Type 0
IsAnswered answers ending.Done = answers.done
IsAnswered answers ending.WriteFault = answers.write
IsAnswered answers (ending.Source fault) = answers.source fault
IsAnswered answers (ending.Image fault) = answers.image fault
IsAnswered answers (ending.Verilog fault) = answers.verilog fault
IsAnswered answers (ending.Stopped stop) = answers.stopped stop
IsAnswered answers (ending.Rejected fault) = answers.rejected fault
IsAnswered answers (ending.Unable fault) = answers.unable fault
IsAnswered answers ending.Usage = ⊥
IsAnswered answers ending.ReadFault = ⊤
IsAnswered answers ending.Memory = ⊤

-- The second file of a command: none, or one of this name, with what holds of the first file where it is asked for, and whether its length has a limit.
pub data SecondFile : Type 1 where
  no_second : SecondFile
  a_second : (name : List ℕ) → (ready : Files → Type 0) → (limited : Bool) → SecondFile

-- its name
abbrev pub second_name : SecondFile → Option (List ℕ)
second_name no_second = None
second_name (a_second name ready limited) = Some name

-- When File is created: after all is judged; by `run`, of these files at this age, once the first header of its images is in order; or by `trace`, before the run that may stop.
pub data Creation : Type 0 where
  created_last : Creation
  created_streaming : (age : ℕ) → (program images : List ℕ) → Creation
  created_before_run : Creation

-- What Report gains: nothing; a text of this kind; the lines of what the program of this name was rewritten to; or the explanation of its first fault.
pub data Reporting : Type 1 where
  silent : Reporting
  reports_text : (Files → List ℕ → Type 0) → Reporting
  reports_rewriting : (how : Rewriting) → (program : List ℕ) → Reporting
  reports_fault : (program : List ℕ) → Reporting

-- the clocks that are noted before a call and after it
abbrev pub Notes : Type 0
Notes = Option (List (Bool × ℕ))

-- Which clocks are noted: none, or at Done these.
pub data Noting : Type 1 where
  no_clock : Noting
  noted_at_done : (Files → (old new : Notes) → Type 0) → Noting

-- What a command means. `stored` is what File holds where it was created, by the ending and by what is left of the second file.
pub record Meaning : Type 1 where
  -- the names under which it asks for its text, for a second file, and for File
  pub program : Option (List ℕ)
  pub second : SecondFile
  pub out : Option (List ℕ)
  -- how it ends, and what it leaves
  pub answers : Files → Answers
  pub creation : Creation
  pub stored : Ending → Files → (left : Option (List ℕ)) → (bytes : List ℕ) → Type 0
  pub reports : Reporting
  pub notes : Noting

-- what a command means that reads one text, which decides how it ends, and leaves nothing
abbrev pub of_text : (name : List ℕ) → (answers : List ℕ → Answers) → Meaning
of_text name answers = record {
  program = Some name;
  second = no_second;
  out = None;
  answers = λ files. answers (bytes_of files name);
  creation = created_last;
  stored = λ result files left bytes. ⊤;
  reports = silent;
  notes = no_clock;
}

-- the same of a command that reads a second file, whose length has a limit or not
abbrev pub of_both : (name second : List ℕ) → (limited : Bool) → (ready : List ℕ → Type 0) → (answers : (text file : List ℕ) → Answers) → Meaning
of_both name second limited ready answers = record {
  program = Some name;
  second = a_second second (λ files. ready (bytes_of files name)) limited;
  out = None;
  answers = λ files. answers (bytes_of files name) (bytes_of files second);
  creation = created_last;
  stored = λ result files left bytes. ⊤;
  reports = silent;
  notes = no_clock;
}

-- what holds after Done, stated of no other ending
abbrev pub OnlyAtDone : Ending → Type 0 → Type 0
OnlyAtDone ending.Done P = P
OnlyAtDone _ P = ⊤
