-- What is read of a command's files, for the private functions.
use Rattle.std.specs.Prelude.{◌≡◌, ◌≢◌, ℕ, ◌<◌, ◌≤◌, List, Option, Some, Result, Err, ⊤, length, map, IfOk, IfErr, IfSome, OnOk, Vec, vec_len}
use Rattle.std.specs.declared.alloc.Global.{Global}
use Rattle.dk_desk.specs.declared.Stage.TheVariants.{Unasked}
use Rattle.dk_desk.specs.declared.InSlot.{InSlot}
use Rattle.dk_desk.specs.declared.InSlot.TheVariants.{Program as ProgramSlot}
use Rattle.dk_desk.specs.Calls.{HasCauseIn, IsIfTold, OpensOnly}
use Rattle.dk_types.specs.Typed.{Typing}
use Rattle.pgm_codec.specs.Images.{Image}
use Rattle.pgm_rounds.specs.declared.round.Round.{Round}
use Rattle.pgm_rounds.specs.Files.{FitsFile, frame_of, frames_of}
use Rattle.std.specs.List.{All}
use Rattle.pointwise_eval.specs.Rounds.{AreFrames}
use Rattle.program_images.specs.Ports.{ports_of}
use Rattle.pointwise_ir.specs.Programs.{Program}
use Rattle.dk_endings.specs.declared.ending.Ending.{Ending}
use Rattle.dk_endings.specs.declared.ending.Ending.TheVariants as ending
use Rattle.dk_endings.specs.declared.ending.ImageFault.TheVariants as image
use Rattle.dk_endings.specs.declared.ending.ReportFault.TheVariants as report
use Rattle.dk_endings.specs.declared.verilog.VerilogFault.TheVariants as verilog
use Rattle.dk_compile.specs.Fronts.{IsForm}
use Rattle.source_fault.specs.declared.fault.SourceFault.{SourceFault}
use Rattle.source_fault.specs.declared.fault.SourceFault.TheVariants as source
use Rattle.dk_base.specs.declared.TheConstants.{MAX_SOURCE_BYTES}
use Rattle.dk_compile.specs.Limits.{IsAcceptedAt, IsFaultAt}
use Rattle.dk_words.specs.declared.command.Rewriting.{Rewriting}
use Rattle.dk_words.specs.declared.command.Rewriting.TheVariants.{Widen}
use Rattle.dk_top.specs.Output.{Fits, IsImageFault, Terms, IsGoodPair}
use Rattle.dk_desk.specs.Outside.{Outside, Input, input}
use Rattle.dk_top.specs.State.{LeavesRest, LeavesText, LeavesImages, LeavesBoth}
use Rattle.dk_top.specs.Meaning.{bytes_of}
use Rattle.dk_top.specs.Rewriting.{IsUnable}
use Rattle.dk_top.specs.Texts.{ReportsFront}

-- what holds of the bytes of the file of this name, if the desk specifies its files
abbrev pub OfFile : Outside → (name : List ℕ) → (List ℕ → Type 0) → Type 0
OfFile o name P = IfSome o.files (λ files. P (bytes_of files name))

-- what holds of the bytes of two files
abbrev pub OfFiles : Outside → (first second : List ℕ) → (List ℕ → List ℕ → Type 0) → Type 0
OfFiles o first second P = IfSome o.files (λ files. P (bytes_of files first) (bytes_of files second))

-- the inputs of a command were opened and read, and nothing else was changed
abbrev pub ReadsInputs : (old new : Outside) → Type 0
ReadsInputs old new = new ≡ record old { program = new.program; image = new.image; input_failures = new.input_failures }

-- the images were read, clocks were noted, and nothing else was changed
abbrev pub ReadsAndNotes : (old new : Outside) → Type 0
ReadsAndNotes old new = new ≡ record old { image = new.image; notes = new.notes; input_failures = new.input_failures }

-- clocks were noted, and nothing else was changed
abbrev pub NotesOnly : (old new : Outside) → Type 0
NotesOnly old new = new ≡ record old { notes = new.notes }

-- an input that was requested was requested under this name
abbrev pub IsNamed : Input → (name : List ℕ) → Type 0
IsNamed slot name = slot.stage ≢ Unasked → IsIfTold slot.name (Some name)

-- a failed read is reported only where the count of failed reads may have risen, and always where it is greater than before
abbrev pub TellsRead : {A : Type 0} → Result A Ending → (old new : Outside) → Type 0
TellsRead result old new = HasCauseIn (result ≡ Err ending.ReadFault) old.input_failures new.input_failures

-- Report was written, and nothing else was changed
abbrev pub WritesReport : (old new : Outside) → Type 0
WritesReport old new = new ≡ record old { report = new.report; output_failures = new.output_failures }

-- File was created and written, then Report, and nothing else was changed
abbrev pub WritesBoth : (old new : Outside) → Type 0
WritesBoth old new = new ≡ record old { files = new.files; file = new.file; report = new.report; output_failures = new.output_failures }

-- File holds the whole text, and Report has gained a prefix of the line
pub record EndsInLine (text line : List ℕ) (old new : Outside) : Type 0 where
  pub whole : IfSome new.file.bytes (λ written. written ≡ text)
  pub front : ReportsFront line old.report new.report

-- Fault was written, and nothing else was changed
abbrev pub WritesFault : (old new : Outside) → Type 0
WritesFault old new = new ≡ record old { fault = new.fault; fault_failures = new.fault_failures }

-- what is left of a program and of images that are too long
abbrev pub LeavesInputs : Ending → (program image : List ℕ) → (old new : Outside) → Type 0
LeavesInputs e program image old new = OfFiles old program image (λ source file. LeavesBoth e source file new.program new.image)

-- the endings that may come before anything is created
abbrev pub Stops : Ending → Type 0
Stops ending.Done = ⊥
Stops ending.Usage = ⊥
Stops ending.WriteFault = ⊥
Stops _ = ⊤

-- an ending that reports no text that is too long
abbrev pub TellsNoText : Ending → Type 0
TellsNoText e = (file : List ℕ) (slot : Input) → LeavesText e file slot

-- an ending that reports no images and no report that are too long
abbrev pub TellsNoImages : Ending → Type 0
TellsNoImages e = (file : List ℕ) (slot : Input) → LeavesImages e file slot

-- the endings that come of bytes that were read whole: a fault of what they are, or out of memory
abbrev pub IsJudgement : Ending → Type 0
IsJudgement (ending.Source source.TooLong) = ⊥
IsJudgement (ending.Verilog verilog.TooLong) = ⊥
IsJudgement (ending.Image image.TooLong) = ⊥
IsJudgement (ending.Rejected report.TooLong) = ⊥
IsJudgement ending.Done = ⊥
IsJudgement ending.Usage = ⊥
IsJudgement ending.WriteFault = ⊥
IsJudgement ending.ReadFault = ⊥
IsJudgement _ = ⊤

-- the ending of a text whose faults are these: its fault, or a failure
abbrev pub IsSourceEnding : (SourceFault → Type 0) → Ending → Type 0
IsSourceEnding is (ending.Source fault) = is fault
IsSourceEnding is ending.ReadFault = ⊤
IsSourceEnding is ending.Memory = ⊤
IsSourceEnding is _ = ⊥

-- how a call ends whose program is not rewritten: with its first fault, the reason that it gets no phases, or a failure
abbrev pub IsRewriteEnding : Rewriting → (source : List ℕ) → Ending → Type 0
IsRewriteEnding (Widen phases) source (ending.Unable fault) = IsUnable phases source fault
IsRewriteEnding (Widen phases) source result = IsSourceEnding (IsFaultAt source 0) result
IsRewriteEnding _ source result = IsSourceEnding (IsFaultAt source 0) result

-- why a text was not read whole: its length, or a failure
abbrev pub IsUnreadText : (text : List ℕ) → Ending → Type 0
IsUnreadText text (ending.Source source.TooLong) = MAX_SOURCE_BYTES < length text
IsUnreadText text ending.ReadFault = ⊤
IsUnreadText text ending.Memory = ⊤
IsUnreadText text _ = ⊥

-- the ending of a file of images, for this program
abbrev pub IsImageEnding : (most : Option ℕ) → Typing → (file : List ℕ) → Ending → Type 0
IsImageEnding most p file (ending.Image fault) = IsImageFault most p file fault
IsImageEnding most p file ending.ReadFault = ⊤
IsImageEnding most p file ending.Memory = ⊤
IsImageEnding most p file _ = ⊥

-- Why a file was not read whole: a read failed, memory ran out, or it has more bytes than the limit. Then one byte more than the limit was read.
pub data IsUnread (limit : ℕ) (too_long : Ending) (name : List ℕ) (old : Outside) (slot : Input) (e : Ending) : Type 0 where
  failed : e ≡ ending.ReadFault → IsUnread limit too_long name old slot e
  memory : e ≡ ending.Memory → IsUnread limit too_long name old slot e
  long : e ≡ too_long → OfFile old name (λ file. limit < length file) → OfFile old name (λ file. LeavesRest limit file slot)
      → IsUnread limit too_long name old slot e

-- A file was opened and read whole within a limit, or the call ends.
pub record ReadsWhole (slot : InSlot) (file : List ℕ) (limit : ℕ) (too_long : Ending) (result : Result (Vec ℕ Global) Ending) (old new : Outside) : Type 0 where
  pub whole : IfOk result (λ bytes. OfFile old file (λ known. bytes.items ≡ known))
  pub within : IfOk result (λ bytes. vec_len bytes ≤ limit)
  pub unread : IfErr result (IsUnread limit too_long file old (input new slot))
  pub name : IsIfTold (input new slot).name (Some file)
  pub only : OpensOnly slot old new
  pub cause : TellsRead result old new

-- A program's text was read, and something was made of it: what it is, and what is then so of the text. Or the call ends.
pub record ReadsText {A : Type 0} (file : List ℕ) (makes : List ℕ → A → Type 0) (accepts : List ℕ → Type 0) (ends : List ℕ → Ending → Type 0) (result : Result A Ending) (old new : Outside) : Type 0 where
  pub made : IfOk result (λ a. OfFile old file (λ text. makes text a))
  pub some : IfOk result (λ a. (text : List ℕ) × makes text a)
  pub good : OnOk result (OfFile old file accepts)
  pub fault : IfErr result (λ e. OfFile old file (λ text. ends text e))
  pub stops : IfErr result Stops
  pub left : IfErr result (λ e. OfFile old file (λ text. LeavesText e text new.program))
  pub name : IsIfTold new.program.name (Some file)
  pub only : OpensOnly ProgramSlot old new
  pub cause : TellsRead result old new

-- A text was read, and then a second file if the text is accepted, and something was made of both. Or the call ends.
pub record ReadsBoth {A : Type 0} (first second : List ℕ) (accepts : List ℕ → Type 0) (makes : List ℕ → List ℕ → A → Type 0) (knows : A → Type 0)
    (ends : List ℕ → List ℕ → Ending → Type 0) (result : Result A Ending) (old new : Outside) : Type 0 where
  pub order : OfFile old first (λ t. new.image.stage ≢ Unasked → accepts t)
  pub made : IfOk result (λ a. OfFiles old first second (λ t file. makes t file a))
  pub known : IfOk result knows
  pub fault : IfErr result (λ e. OfFiles old first second (λ t file. ends t file e))
  pub stops : IfErr result Stops
  pub left : IfErr result (λ e. LeavesInputs e first second old new)
  pub program_name : IsNamed new.program first
  pub image_name : IsNamed new.image second
  pub only : ReadsInputs old new
  pub cause : TellsRead result old new

-- The text is accepted at this age, and this is the form of its program, whichever program it is read as.
pub record IsFormAt (text : List ℕ) (age : ℕ) (ir : Program) : Type 0 where
  pub program : Typing
  pub accepted : IsAcceptedAt text age program
  pub form : IsForm program ir
  pub every : (p : Typing) → IsAcceptedAt text age p → IsForm p ir

-- The file fits each program of this form, and these are the frames of the rounds that it is read as.
pub record IsInputOf (most : Option ℕ) (ir : Program) (file : List ℕ) (rounds : List Round) : Type 0 where
  pub some : (p : Typing) → IsForm p ir → (images : List (List Image)) × Fits most p file images
  pub frames : (p : Typing) → IsForm p ir → (images : List (List Image)) → Fits most p file images → frames_of rounds ≡ map (map frame_of) images

-- The text is accepted, and the file fits its program. This is the program's form, and these are the frames of the rounds,
-- whichever program and rounds the text and the file are read as.
pub record IsRead (terms : Terms) (source file : List ℕ) (ir : Program) (rounds : List Round) : Type 0 where
  pub good : IsGoodPair terms source file
  pub formed : (p : Typing) → IsAcceptedAt source terms.age p → IsForm p ir
  pub input : IsInputOf terms.most ir file rounds

-- The rounds are those of some file that fits the programs of this form.
pub record AreRead (ir : Program) (rounds : List Round) : Type 0 where
  pub file : List ℕ
  pub images : List (List Image)
  pub fits : FitsFile (ports_of ir) file images
  pub frames : frames_of rounds ≡ map (map frame_of) images
  pub each : All (λ r. AreFrames ir r.frames.items) rounds
