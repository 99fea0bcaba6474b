-- What `sim` and `trace` read and leave, for the private functions.
use Rattle.std.specs.Prelude.{◌≡◌, ◌≢◌, ◌<◌, ◌^◌, ℕ, List, map, Option, Some, Result, Err, IfOk, IfErr, OnOk, IfSome, Vec, ⊤}
use Rattle.std.specs.declared.alloc.Global.{Global}
use Rattle.dk_base.specs.Frames.{Size, IsFrame}
use Rattle.dk_words.specs.declared.command.PowerUp.{PowerUp}
use Rattle.dk_desk.specs.declared.Stage.TheVariants.{Unasked, Open}
use Rattle.dk_desk.specs.Outside.{Outside}
use Rattle.dk_desk.specs.Calls.{IsIfTold, CreatesOnly}
use Rattle.cycle_sim.specs.Ports.{din_widths}
use Rattle.netlist.specs.Names.{NamedNetlist}
use Rattle.pgm_codec.specs.Images.{Image}
use Rattle.pgm_rounds.specs.declared.round.Round.{Round}
use Rattle.pgm_rounds.specs.Files.{frame_of, frames_of}
use Rattle.dk_endings.specs.declared.ending.Ending.{Ending}
use Rattle.dk_endings.specs.declared.ending.Ending.TheVariants as ending
use Rattle.stimulus.specs.declared.drive.Drive.{Drive}
use Rattle.stimulus.specs.Given.{AreBenchFrames}
use Rattle.dk_base.specs.FrameSizes.{size_of}
use Rattle.dk_top.specs.declared.commands.simulating.SimInput.{SimInput}
use Rattle.dk_top.specs.Command.{trace}
use Rattle.dk_top.specs.Simulation.{drive_of, IsVerilogFault, IsFileFault, IsUnfit, IsModuleOf, FitsModule, IsSimulated, IsSimAnswer, NotesSim}
use Rattle.dk_top.specs.Tracing.{IsTraceAnswer, IsStoredTrace, CreatesTrace}
use Rattle.dk_top.specs.State.{CreatesNothing, OthersStay, HasOwnFile}
use Rattle.dk_top.specs.Reading.{Stops, TellsNoText, TellsNoImages, NotesOnly}
use Rattle.dk_top.specs.Performing.{ReportsWrite, AllStay}

-- the ending of a Verilog text: its fault, or a failure
abbrev pub IsModuleEnding : Option ℕ → List ℕ → Ending → Type 0
IsModuleEnding hold text (ending.Verilog fault) = IsVerilogFault hold text fault
IsModuleEnding hold text ending.ReadFault = ⊤
IsModuleEnding hold text ending.Memory = ⊤
IsModuleEnding hold text _ = ⊥

-- the ending of a file of images for this module
abbrev pub IsFileEnding : NamedNetlist → List ℕ → Ending → Type 0
IsFileEnding m file (ending.Image fault) = IsFileFault m file fault
IsFileEnding m file ending.ReadFault = ⊤
IsFileEnding m file ending.Memory = ⊤
IsFileEnding m file _ = ⊥

-- the ending of a text and a file that are not in order
abbrev pub IsInputEnding : Drive → (text file : List ℕ) → Ending → Type 0
IsInputEnding drive text file (ending.Verilog fault) = IsVerilogFault drive.hold text fault
IsInputEnding drive text file (ending.Image fault) = IsUnfit drive text file fault
IsInputEnding drive text file ending.ReadFault = ⊤
IsInputEnding drive text file ending.Memory = ⊤
IsInputEnding drive text file _ = ⊥

-- the same, whatever clocks are requested
abbrev pub IsInputRefusal : Option ℕ → (text file : List ℕ) → Ending → Type 0
IsInputRefusal hold text file e = (clocks : ℕ) (power : PowerUp) → IsInputEnding (drive_of clocks power hold) text file e

-- The file fits the module, with this size and with the frames of these rounds.
pub record IsInput (m : NamedNetlist) (file : List ℕ) (size : Size) (rounds : List Round) : Type 0 where
  pub images : List (List Image)
  pub fits : FitsModule m file size images
  pub frames : frames_of rounds ≡ map (map frame_of) images

-- The text is that of this module, and the file fits it.
pub record IsSimInput (hold : Option ℕ) (text file : List ℕ) (m : NamedNetlist) (size : Size) (rounds : List Round) : Type 0 where
  pub made : IsModuleOf hold text m
  pub input : IsInput m file size rounds

-- The images are frames of one size for the inputs of the module.
pub record HasBenchFrames (given : SimInput) : Type 0 where
  pub frame : IsFrame given.input.size.width given.input.size.height
  pub frames : AreBenchFrames (din_widths given.«module».netlist) (size_of given.input.size) given.input.rounds.items

-- what holds of each text and each file from which this was read
abbrev pub OfInput : (hold : Option ℕ) → SimInput → (List ℕ → List ℕ → Type 0) → Type 0
OfInput hold given P = (text images : List ℕ) → IsSimInput hold text images given.«module» (size_of given.input.size) given.input.rounds.items → P text images

-- There are fewer than 2^60 clocks, and the frames are for the dins of the module.
pub record CanDrive (drive : Drive) (given : SimInput) : Type 0 where
  pub clocks : drive.clocks < 2 ^ 60
  pub frames : AreBenchFrames (din_widths given.«module».netlist) (size_of given.input.size) given.input.rounds.items

-- How a traced run ends, and what it leaves: File has this name, and nothing else is changed.
pub record LeavesTrace (drive : Drive) (given : SimInput) (vcd : List ℕ) (result : Ending) (old new : Outside) : Type 0 where
  pub verdict : OfInput drive.hold given (λ text images. IsTraceAnswer drive text images result)
  pub output : new.file.stage ≡ Open → IfSome new.file.bytes (λ bytes. OfInput drive.hold given (λ text images. IsStoredTrace result drive text images bytes))
  pub taken : result ≢ ending.Usage
  pub judged : result ≢ ending.ReadFault
  pub no_text : TellsNoText result
  pub no_images : TellsNoImages result
  pub created : (verilog image out : List ℕ) (clocks : ℕ) → CreatesNothing (Some (trace verilog clocks image out)) result → new.file.stage ≡ Unasked
  pub begun : CreatesTrace result new.file.stage
  pub written : result ≡ ending.Done → new.file.stage ≡ Open
  pub name : new.file.stage ≢ Unasked → IsIfTold new.file.name (Some vcd)
  pub files : OthersStay vcd old.files new.files
  pub files_stay : AllStay old new
  pub own : HasOwnFile new
  pub only : CreatesOnly old new
  pub cause : ReportsWrite result old new

-- The pictures that a module shows, and what its run notes; or why there are none. Nothing else is changed.
pub record ShowsPictures (drive : Drive) (given : SimInput) (result : Result (Vec ℕ Global) Ending) (old new : Outside) : Type 0 where
  pub only : NotesOnly old new
  pub file : IfOk result (λ file. OfInput drive.hold given (λ text images. IsSimulated drive text images file.items))
  pub only_file : IfOk result (λ file. OfInput drive.hold given (λ text images. (pictures : List ℕ) → IsSimulated drive text images pictures → pictures ≡ file.items))
  pub notes : OnOk result (OfInput drive.hold given (λ text images. NotesSim drive text images old.notes new.notes))
  pub fault : IfErr result (λ e. OfInput drive.hold given (λ text images. IsSimAnswer drive text images e))
  pub stops : IfErr result Stops
  pub no_text : IfErr result TellsNoText
  pub no_images : IfErr result TellsNoImages
  pub judged : result ≢ Err ending.ReadFault
