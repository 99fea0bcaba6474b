-- What `sim` judges: a Verilog text, a file of images for its module, and the run of the module.
use Rattle.std.specs.Prelude.{◌≡◌, ℕ, ◌<◌, ◌≤◌, Bool, true, List, ◌++◌, length, Option, Some, IsSome}
use Rattle.dk_base.specs.declared.span.Span.{Span}
use Rattle.dk_base.specs.Frames.{Size}
use Rattle.netlist.specs.Names.{NamedNetlist}
use Rattle.wiring.specs.Snapshot.{HasOneSnapshot, HasOneNext}
use Rattle.cycle_sim.specs.declared.fill.Fill.{Fill}
use Rattle.cycle_sim.specs.declared.fill.Fill.TheVariants as fill
use Rattle.cycle_sim.specs.Ports.{din_widths}
use Rattle.verilog_text.specs.declared.fault.TextFault.{TextFault}
use Rattle.verilog_text.specs.Stands.{StandsFor}
use Rattle.verilog_read.specs.Enables.{HasNoEnable}
use Rattle.verilog_text.specs.Faults.{IsFault}
use Rattle.pgm_codec.specs.Images.{Image}
use Rattle.pgm_rounds.specs.declared.fault.FileFault.{FileFault}
use Rattle.stimulus.specs.declared.drive.Drive.{Drive}
use Rattle.stimulus.specs.declared.stop.Stop.{Stop}
use Rattle.stimulus.specs.Inputs.{FitsBench, IsBenchFault, samples_of}
use Rattle.stimulus.specs.Showing.{IsShown, IsNoted as AreNotes}
use Rattle.stimulus.specs.Stops.{IsStop}
use Rattle.dk_words.specs.declared.command.PowerUp.{PowerUp}
use Rattle.dk_words.specs.declared.command.PowerUp.TheVariants.{Zeros, Ones}
use Rattle.dk_endings.specs.declared.ending.ImageFault.{ImageFault}
use Rattle.dk_endings.specs.declared.ending.ImageFault.TheVariants.{TooLong as LongFile, File}
use Rattle.dk_endings.specs.declared.verilog.VerilogFault.{VerilogFault}
use Rattle.dk_endings.specs.declared.verilog.VerilogFault.TheVariants.{TooLong, At}
use Rattle.dk_endings.specs.declared.verilog.VerilogKind.TheVariants.{Ports}
use Rattle.dk_base.specs.declared.TheConstants.{MAX_PGM_BYTES, MAX_VERILOG_BYTES}
use Rattle.dk_endings.specs.Verilog.{fault_told}
use Rattle.std.specs.Option.{option_map}
use Rattle.dk_desk.specs.Calls.{IsIfTold}
use Rattle.dk_endings.specs.declared.ending.Ending.{Ending}
use Rattle.dk_top.specs.Meaning.{bytes_of, Answers, faultless, IsAnswered, noted_at_done, Meaning, of_both}
use Rattle.dk_top.specs.Texts.{HoldsOutput}

-- how the command's words drive a module
abbrev pub fill_of : PowerUp → Fill
fill_of Zeros = fill.Zeros
fill_of Ones = fill.Ones

abbrev pub drive_of : (clocks : ℕ) → PowerUp → Option ℕ → Drive
drive_of clocks power hold = record { clocks = clocks; fill = fill_of power; hold = hold }

-- The text is within its limit and denotes this module, which has the port `en` where clocks are to be held.
pub record IsModuleOf (hold : Option ℕ) (text : List ℕ) (m : NamedNetlist) : Type 0 where
  pub within : length text ≤ MAX_VERILOG_BYTES
  pub stands : StandsFor text m
  pub enable : IsSome hold → m.netlist.enable ≡ true

-- Clocks are to be held, and the text's module, whose name is here, has no port `en`.
pub record LacksEnable (hold : Option ℕ) (text : List ℕ) (name : Span) : Type 0 where
  pub holds : IsSome hold
  pub lacks : HasNoEnable text name

-- the first fault of a text within its limit: its own, and then that of a missing `en`
pub data IsTextFault (hold : Option ℕ) (text : List ℕ) (told : VerilogFault) : Type 0 where
  of_text : (f : TextFault) → IsFault text f → told ≡ fault_told f → IsTextFault hold text told
  of_ports : (name : Span) → LacksEnable hold text name → told ≡ At name Ports → IsTextFault hold text told

abbrev pub IsVerilogFault : Option ℕ → List ℕ → VerilogFault → Type 0
IsVerilogFault hold text TooLong = MAX_VERILOG_BYTES < length text
IsVerilogFault hold text (At span kind) = (length text ≤ MAX_VERILOG_BYTES) × IsTextFault hold text (At span kind)

-- The file is within its limit and one of these rounds of images, which fit the module's dins.
pub record FitsModule (m : NamedNetlist) (file : List ℕ) (size : Size) (images : List (List Image)) : Type 0 where
  pub within : length file ≤ MAX_PGM_BYTES
  pub fits : FitsBench (din_widths m.netlist) file size images

-- the first fault of a file's images, for dins of these widths, of which there are some
pub record IsImagesFault (widths file : List ℕ) (fault : FileFault) : Type 0 where
  pub some : 0 < length widths
  pub is : IsBenchFault widths file fault

-- the first fault of a file: its length, and then its images one after another
abbrev pub IsFileFault : NamedNetlist → List ℕ → ImageFault → Type 0
IsFileFault m file LongFile = MAX_PGM_BYTES < length file
IsFileFault m file (File fault) = (length file ≤ MAX_PGM_BYTES) × IsImagesFault (din_widths m.netlist) file fault

-- the text and the file are in order, and the module shows this file of pictures
pub record IsSimulated (drive : Drive) (text file pictures : List ℕ) : Type 0 where
  pub m : NamedNetlist
  pub made : IsModuleOf drive.hold text m
  pub size : Size
  pub images : List (List Image)
  pub fits : FitsModule m file size images
  pub shown : IsShown m.netlist drive size (samples_of images) pictures

-- the text is in order, and this is the first fault of the file
pub record IsUnfit (drive : Drive) (text file : List ℕ) (fault : ImageFault) : Type 0 where
  pub m : NamedNetlist
  pub made : IsModuleOf drive.hold text m
  pub unfit : IsFileFault m file fault

-- Both are in order, and the module, which has one run over each list of clocks, shows no pictures for this reason.
pub record IsStopped (drive : Drive) (text file : List ℕ) (stop : Stop) : Type 0 where
  pub m : NamedNetlist
  pub made : IsModuleOf drive.hold text m
  pub size : Size
  pub images : List (List Image)
  pub fits : FitsModule m file size images
  pub one_valuation : HasOneSnapshot m.netlist
  pub one_next : HasOneNext m.netlist
  pub stops : IsStop m.netlist drive size (samples_of images) stop

-- a module shows pictures of the file
abbrev pub CanBeSimulated : Drive → (text file : List ℕ) → Type 0
CanBeSimulated drive text file = (pictures : List ℕ) × IsSimulated drive text file pictures

-- when each ending comes for a Verilog text and a file of images
abbrev pub sim_answers : Drive → (text file : List ℕ) → Answers
sim_answers drive text file = record (faultless (CanBeSimulated drive text file)) {
  verilog = IsVerilogFault drive.hold text;
  image = IsUnfit drive text file;
  stopped = IsStopped drive text file;
}

abbrev pub IsSimAnswer : Drive → (text file : List ℕ) → Ending → Type 0
IsSimAnswer drive text file result = IsAnswered (sim_answers drive text file) result

-- the notes have gained those of the module's run
pub record NotesSim (drive : Drive) (text file : List ℕ) (old new : Option (List (Bool × ℕ))) : Type 0 where
  pub m : NamedNetlist
  pub made : IsModuleOf drive.hold text m
  pub size : Size
  pub images : List (List Image)
  pub fits : FitsModule m file size images
  pub gained : List (Bool × ℕ)
  pub run : AreNotes m.netlist drive (samples_of images) gained
  pub told : IsIfTold new (option_map (λ notes. notes ++ gained) old)

-- the pictures that the module shows
abbrev pub IsStoredSim : Ending → Drive → (text file bytes : List ℕ) → Type 0
IsStoredSim result drive text file bytes = (pictures : List ℕ) → IsSimulated drive text file pictures → HoldsOutput result bytes pictures

-- the text is that of a module
abbrev pub HasModule : Option ℕ → (text : List ℕ) → Type 0
HasModule hold text = (m : NamedNetlist) × IsModuleOf hold text m

-- what `sim` means
abbrev pub sim_meaning : (verilog : List ℕ) → (clocks : ℕ) → (image out : List ℕ) → PowerUp → (hold : Option ℕ) → Meaning
sim_meaning verilog clocks image out fill hold = record (of_both verilog image true (HasModule hold) (sim_answers (drive_of clocks fill hold))) {
  out = Some out;
  stored = λ result files left bytes. IsStoredSim result (drive_of clocks fill hold) (bytes_of files verilog) (bytes_of files image) bytes;
  notes = noted_at_done (λ files. NotesSim (drive_of clocks fill hold) (bytes_of files verilog) (bytes_of files image));
}
