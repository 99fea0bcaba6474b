-- What `trace` judges, and what it writes: the trace of the module's run over all clocks.
use Rattle.std.specs.Prelude.{◌≡◌, ℕ, ◌+◌, ◌<◌, ◌≤◌, ℤ, true, List, [], ◌∷◌, ◌++◌, length, take, None, Some, ⊤}
use Rattle.dk_base.specs.Frames.{Size}
use Rattle.wiring.specs.Snapshot.{Contents, Snapshot, HasOneSnapshot, HasOneNext}
use Rattle.wiring.specs.Runs.{Runs}
use Rattle.netlist.specs.Names.{NamedNetlist}
use Rattle.cycle_sim.specs.Ports.{din_widths}
use Rattle.cycle_sim.specs.Filled.{filled_contents}
use Rattle.vcd_trace.specs.Header.{header_text, trace_text}
use Rattle.pgm_codec.specs.Images.{Image}
use Rattle.stimulus.specs.declared.drive.Drive.{Drive}
use Rattle.stimulus.specs.declared.stop.Stop.TheVariants.{Index, Count}
use Rattle.stimulus.specs.Inputs.{samples_of}
use Rattle.stimulus.specs.Stimulus.{Rounds, stimulus}
use Rattle.stimulus.specs.Showing.{IsRun}
use Rattle.stimulus.specs.Stops.{StopsAtClock}
use Rattle.trace_bench.specs.Traces.{values_of, trace_front}
use Rattle.dk_words.specs.declared.command.PowerUp.TheVariants.{Zeros}
use Rattle.dk_endings.specs.declared.ending.Ending.{Ending}
use Rattle.dk_endings.specs.declared.ending.Ending.TheVariants as ending
use Rattle.dk_top.specs.Simulation.{drive_of, HasModule, IsModuleOf, FitsModule, IsVerilogFault, IsUnfit, IsStopped}
use Rattle.stimulus.specs.declared.stop.Stop.{Stop}
use Rattle.dk_desk.specs.declared.Stage.{Stage}
use Rattle.dk_desk.specs.declared.Stage.TheVariants.{Open}
use Rattle.dk_top.specs.Meaning.{bytes_of, Answers, faultless, IsAnswered, created_before_run, Meaning, of_both}

-- how the command's words drive a module: from zeros, with no clock held
abbrev pub trace_drive : (clocks : ℕ) → Drive
trace_drive clocks = drive_of clocks Zeros None

-- The text is that of this module, which has one run over each list of clocks, and these are the file's images, which fit it.
pub record IsInOrder (drive : Drive) (text file : List ℕ) (m : NamedNetlist) (images : List (List Image)) : Type 0 where
  pub made : IsModuleOf drive.hold text m
  pub one_valuation : HasOneSnapshot m.netlist
  pub one_next : HasOneNext m.netlist
  pub size : Size
  pub fits : FitsModule m file size images

pub record AreInOrder (drive : Drive) (text file : List ℕ) : Type 0 where
  pub m : NamedNetlist
  pub images : List (List Image)
  pub in_order : IsInOrder drive text file m images

-- both are in order, and the run of the module goes to its end with these snapshots
pub record IsTraced (drive : Drive) (text file : List ℕ) (m : NamedNetlist) (shots : List Snapshot) : Type 0 where
  pub images : List (List Image)
  pub in_order : IsInOrder drive text file m images
  pub run : IsRun m.netlist drive (samples_of images) shots

abbrev pub CanBeTraced : Drive → (text file : List ℕ) → Type 0
CanBeTraced drive text file = (m : NamedNetlist) × (shots : List Snapshot) × IsTraced drive text file m shots

-- why the run of a module goes not to its end: a read in a clock whose index is not there; the counts of pictures are not judged
abbrev pub IsTraceStop : Drive → (text file : List ℕ) → Stop → Type 0
IsTraceStop drive text file (Index clock array index) = IsStopped drive text file (Index clock array index)
IsTraceStop drive text file (Count shown wanted) = ⊥

-- when each ending comes
abbrev pub trace_answers : Drive → (text file : List ℕ) → Answers
trace_answers drive text file = record (faultless (CanBeTraced drive text file)) {
  write = AreInOrder drive text file;
  verilog = IsVerilogFault drive.hold text;
  image = IsUnfit drive text file;
  stopped = IsTraceStop drive text file;
}

abbrev pub IsTraceAnswer : Drive → (text file : List ℕ) → Ending → Type 0
IsTraceAnswer drive text file result = IsAnswered (trace_answers drive text file) result

-- the whole trace of the run
pub record HoldsTrace (drive : Drive) (text file bytes : List ℕ) : Type 0 where
  pub m : NamedNetlist
  pub shots : List Snapshot
  pub traced : IsTraced drive text file m shots
  pub holds : bytes ≡ trace_text m (values_of shots)

-- the header and the clocks before the one that stops
pub record HoldsToStop (drive : Drive) (text file : List ℕ) (clock : ℤ) (array index : ℕ) (bytes : List ℕ) : Type 0 where
  pub m : NamedNetlist
  pub images : List (List Image)
  pub in_order : IsInOrder drive text file m images
  pub stop : StopsAtClock m.netlist drive (samples_of images) clock array index
  pub holds : bytes ≡ trace_front m stop.shots

-- these are the first bytes of a text, without its end, and not fewer than this front of it
pub record IsCutBehind (front text bytes : List ℕ) : Type 0 where
  pub count : ℕ
  pub behind : length front ≤ count
  pub within : count < length text
  pub holds : bytes ≡ take count text

-- The clocks of these snapshots were made, and the lines of the last one are cut.
pub record IsCutInClock (m : NamedNetlist) (drive : Drive) (rounds : Rounds) (bytes : List ℕ) : Type 0 where
  pub shots : List Snapshot
  pub last : Snapshot
  pub to : Contents
  pub runs : Runs m.netlist (filled_contents drive.fill m.netlist)
      (take (length shots + 1) (stimulus drive (din_widths m.netlist) rounds)) (shots ++ last ∷ []) to
  pub cut : IsCutBehind (trace_front m shots) (trace_front m (shots ++ last ∷ [])) bytes

-- The run goes to its end, and the last line is cut.
pub record IsCutAtEnd (m : NamedNetlist) (drive : Drive) (rounds : Rounds) (bytes : List ℕ) : Type 0 where
  pub shots : List Snapshot
  pub run : IsRun m.netlist drive rounds shots
  pub cut : IsCutBehind (trace_front m shots) (trace_text m (values_of shots)) bytes

-- where a trace is cut: in the header, before any clock; in the lines of a clock; or in the last line
pub data IsCutTrace (m : NamedNetlist) (drive : Drive) (rounds : Rounds) (bytes : List ℕ) : Type 0 where
  in_header : IsCutBehind [] (header_text m) bytes → IsCutTrace m drive rounds bytes
  in_clock : IsCutInClock m drive rounds bytes → IsCutTrace m drive rounds bytes
  at_end : IsCutAtEnd m drive rounds bytes → IsCutTrace m drive rounds bytes

pub record HoldsCut (drive : Drive) (text file bytes : List ℕ) : Type 0 where
  pub m : NamedNetlist
  pub images : List (List Image)
  pub in_order : IsInOrder drive text file m images
  pub cut : IsCutTrace m drive (samples_of images) bytes

-- what File holds, where it was created
abbrev pub IsStoredTrace : Ending → Drive → (text file bytes : List ℕ) → Type 0
IsStoredTrace ending.Done drive text file bytes = HoldsTrace drive text file bytes
IsStoredTrace (ending.Stopped (Index clock array index)) drive text file bytes = HoldsToStop drive text file clock array index bytes
IsStoredTrace ending.WriteFault drive text file bytes = HoldsCut drive text file bytes
IsStoredTrace _ drive text file bytes = ⊤

-- `trace` has created its file before the run that stops.
abbrev pub CreatesTrace : Ending → Stage → Type 0
CreatesTrace (ending.Stopped stop) stage = stage ≡ Open
CreatesTrace _ stage = ⊤

-- what `trace` means
abbrev pub trace_meaning : (verilog : List ℕ) → (clocks : ℕ) → (image vcd : List ℕ) → Meaning
trace_meaning verilog clocks image vcd = record (of_both verilog image true (HasModule None) (trace_answers (trace_drive clocks))) {
  out = Some vcd;
  creation = created_before_run;
  stored = λ result files left bytes. IsStoredTrace result (trace_drive clocks) (bytes_of files verilog) (bytes_of files image) bytes;
}
