-- How the images of a program with one input and one output are streamed, for the private functions.
use Rattle.std.specs.Prelude.{◌≡◌, ◌≢◌, ℕ, List, false, None, Some, IfSome, Vec, Result, IfOk, IfErr, OnOk}
use Rattle.std.specs.declared.alloc.Global.{Global}
use Rattle.dk_desk.specs.declared.InSlot.TheVariants.{Image as ImageSlot}
use Rattle.dk_desk.specs.declared.Stage.TheVariants.{Unasked, Refused, Open}
use Rattle.dk_desk.specs.Outside.{Outside}
use Rattle.dk_desk.specs.Calls.{IsIfTold, HasCauseIn, OpensOnly}
use Rattle.wiring.specs.Netlist.{Netlist}
use Rattle.wiring.specs.Snapshot.{Contents}
use Rattle.row_stream.specs.declared.faults.StreamFault.TheVariants.{Image as ImageFails, Read, Write}
use Rattle.row_stream.specs.declared.state.Stream.{Stream}
use Rattle.row_stream.specs.Formats.{kind_of}
use Rattle.row_stream.specs.Lines.{Kind}
use Rattle.row_stream.specs.Whole.{LeavesAll, Leaves}
use Rattle.dk_endings.specs.declared.ending.Ending.{Ending}
use Rattle.dk_endings.specs.declared.ending.Ending.TheVariants as ending
use Rattle.dk_endings.specs.declared.ending.ImageFault.TheVariants as image
use Rattle.dk_top.specs.Output.{output_file, run_terms, IsAnswer, IsGoodPair, OfPair}
use Rattle.dk_top.specs.Streaming.{ReadsRun, IsRunAnswer, CreatesRun, IsStoredRun, NotedRun}
use Rattle.pgm_rounds.specs.declared.round.Round.{Round}
use Rattle.dk_compile.specs.declared.compiling.Compiled.{Compiled}
use Rattle.dk_top.specs.Compiling.{IsCompiledFrom, NotesRun}
use Rattle.dk_top.specs.Reading.{IsInputOf, OfFile, NotesOnly, ReadsAndNotes, Stops, TellsRead}
use Rattle.dk_top.specs.Command.{run}
use Rattle.dk_top.specs.State.{CreatesNothing, OthersStay, HasOwnFile}
use Rattle.dk_top.specs.Performing.{ReportsRead, ReportsWrite}
use Rattle.dk_top.specs.Meaning.{bytes_of}
use Rattle.dk_top.specs.declared.commands.running.Machine.{Machine}

-- what the stream leaves, by the ending
abbrev pub StreamEnds : Kind → Netlist → (bits latency : ℕ) → (name : List ℕ) → Contents → (opened now : Outside) → Ending → Type 0
StreamEnds kind m bits late name from opened now ending.Done = LeavesAll kind m bits late name from opened now
StreamEnds kind m bits late name from opened now (ending.Image (image.File fault)) = Leaves kind m bits late (ImageFails fault) name from opened now
StreamEnds kind m bits late name from opened now (ending.Image image.TooLong) = ⊥
StreamEnds kind m bits late name from opened now ending.ReadFault = Leaves kind m bits late Read name from opened now
StreamEnds kind m bits late name from opened now ending.WriteFault = Leaves kind m bits late Write name from opened now
StreamEnds kind m bits late name from opened now _ = ⊥

-- The file of images was opened, and not read yet.
pub record OpensImages (image : List ℕ) (old opened : Outside) : Type 0 where
  pub only : OpensOnly ImageSlot old opened
  pub no_failure : opened.input_failures ≡ old.input_failures
  pub stage : opened.image.stage ≡ Open
  pub named : IsIfTold opened.image.name (Some image)
  pub start : IfSome old.files (λ files. opened.image.rest ≡ Some (bytes_of files image))

-- The images were opened and streamed, or could not be opened.
pub data RunsStream (kind : Kind) (m : Netlist) (bits late : ℕ) (image out : List ℕ) (from : Contents) (old now : Outside) (result : Ending) : Type 0 where
  refused : result ≡ ending.ReadFault → OpensOnly ImageSlot old now → now.image.stage ≡ Refused → IsIfTold now.image.name (Some image)
      → RunsStream kind m bits late image out from old now result
  streamed : (opened : Outside) → OpensImages image old opened → StreamEnds kind m bits late out from opened now result
      → RunsStream kind m bits late image out from old now result

-- the images were read, clocks were noted, File was written, and nothing else was changed
abbrev pub StreamsOnly : (old new : Outside) → Type 0
StreamsOnly old new =
    new ≡ record old {
      image = new.image;
      file = new.file;
      files = new.files;
      notes = new.notes;
      input_failures = new.input_failures;
      output_failures = new.output_failures;
    }

-- What `run` does after it has compiled its program.
pub record RunsOn (source : List ℕ) (age : ℕ) (image out : List ℕ) (result : Ending) (old new : Outside) : Type 0 where
  pub taken : result ≢ ending.Usage
  pub verdict : IfSome old.files (λ files. IsRunAnswer age source (bytes_of files image) result)
  pub image_name : new.image.stage ≢ Unasked → IsIfTold new.image.name (Some image)
  pub file_name : new.file.stage ≢ Unasked → IsIfTold new.file.name (Some out)
  pub created : (program : List ℕ) → CreatesNothing (Some (run program image out age)) result → new.file.stage ≡ Unasked
  pub begun : IfSome old.files (λ files. CreatesRun age source (bytes_of files image) result new.file.stage)
  pub reads : IfSome old.files (λ files. ReadsRun result age source (bytes_of files image) new.image new.file.stage)
  pub written : result ≡ ending.Done → new.file.stage ≡ Open
  pub output : new.file.stage ≡ Open → IfSome old.files (λ files. IfSome new.file.bytes (IsStoredRun result age source (bytes_of files image) new.image.rest))
  pub notes : IfSome old.files (λ files. NotedRun result age source (bytes_of files image) old.notes new.notes)
  pub files : OthersStay out old.files new.files
  pub files_stay : new.file.stage ≢ Open → new.files ≡ old.files
  pub own : HasOwnFile new
  pub only : StreamsOnly old new
  pub read_fault : HasCauseIn (result ≡ ending.ReadFault) old.input_failures new.input_failures
  pub write_fault : HasCauseIn (result ≡ ending.WriteFault) old.output_failures new.output_failures

-- The text is compiled to this, and its Verilog text denotes this module.
pub record IsMachineOf (text : List ℕ) (age : ℕ) (machine : Machine) : Type 0 where
  pub compiled : IsCompiledFrom text age false None machine.compiled
  pub again : machine.«module» ≡ machine.compiled.«module»

-- what holds of each text and age that this is compiled from
abbrev pub OfCompiled : Compiled → (List ℕ → ℕ → Type 0) → Type 0
OfCompiled c P = (source : List ℕ) (age : ℕ) → IsCompiledFrom source age false None c → P source age

-- what holds of each text, file and age from which this is compiled and these rounds are read
abbrev pub OfRun : Compiled → List Round → (List ℕ → List ℕ → ℕ → Type 0) → Type 0
OfRun c rounds P = (source file : List ℕ) (age : ℕ) → IsCompiledFrom source age false None c → IsInputOf None c.ir file rounds → P source file age

-- The program is compiled from some text at some age, and the module is that of its Verilog text.
pub record IsMachine (m : Machine) : Type 0 where
  pub compiled : (source : List ℕ) × (age : ℕ) × IsCompiledFrom source age false None m.compiled
  pub again : m.«module» ≡ m.compiled.«module»

-- the images were not requested, and nothing was created
pub record AwaitsImages (o : Outside) : Type 0 where
  pub image : o.image.stage ≡ Unasked
  pub file : o.file.stage ≡ Unasked

-- The images were streamed, or could not be opened, and the ending tells whether a read or a write failed.
pub record StreamsImages (stream : Stream) (late : ℕ) (image out : List ℕ) (result : Ending) (old new : Outside) : Type 0 where
  pub runs : RunsStream (kind_of stream.format) stream.sim.netlist stream.bits late image out stream.sim.contents old new result
  pub read : ReportsRead result old new
  pub write : ReportsWrite result old new

-- what `run` does with a machine, of each text and age that it is compiled from
abbrev pub RunsMachine : Machine → (image out : List ℕ) → Ending → (old new : Outside) → Type 0
RunsMachine m image out result old new = OfCompiled m.compiled (λ source age. RunsOn source age image out result old new)

-- The file of the pictures that a machine shows of these rounds, clocked from zeros, and what its run notes. Nothing else is changed.
pub record ClocksRounds {E : Type 0} (m : Machine) (rounds : List Round) (result : Result (Vec ℕ Global) E) (old new : Outside) : Type 0 where
  pub only : NotesOnly old new
  pub output : IfOk result (λ output. OfRun m.compiled rounds (λ source file age. OfPair (run_terms age) source file (λ p images. output.items ≡ output_file p images)))
  pub notes : OnOk result (OfRun m.compiled rounds (λ source file age. OfPair (run_terms age) source file (λ p images. NotesRun source age p images old.notes new.notes)))

-- The same of the rounds of the file of this name, or why there is no such file: the ending is right for the file, and the images were read.
pub record ClocksFile (m : Machine) (image : List ℕ) (result : Result (Vec ℕ Global) Ending) (old new : Outside) : Type 0 where
  pub output : IfOk result (λ output. OfCompiled m.compiled (λ source age. OfFile old image (λ file. OfPair (run_terms age) source file (λ p images. output.items ≡ output_file p images))))
  pub notes : OnOk result (OfCompiled m.compiled (λ source age. OfFile old image (λ file. OfPair (run_terms age) source file (λ p images. NotesRun source age p images old.notes new.notes))))
  pub fault : IfErr result (λ e. OfCompiled m.compiled (λ source age. OfFile old image (λ file. IsAnswer (run_terms age) source file e)))
  pub good : OnOk result (OfCompiled m.compiled (λ source age. OfFile old image (λ file. IsGoodPair (run_terms age) source file)))
  pub stops : IfErr result Stops
  pub name : IsIfTold new.image.name (Some image)
  pub only : ReadsAndNotes old new
  pub cause : TellsRead result old new
