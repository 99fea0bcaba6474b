-- What `sim` reads, and what it shows.
use Rattle.std.proofs.Common.{◌≡◌, ◌≤◌, ℕ, Bool, List, [], ◌∷◌, ◌++◌, length, map, Option, None, Some, IfSome, option_map, refl, sym, ap, ◌∙◌, subst}
use Rattle.dk_base.specs.Frames.{Size}
use Rattle.dk_desk.specs.Calls.{IsIfTold}
use Rattle.wiring.specs.Netlist.{Netlist}
use Rattle.wiring.specs.Snapshot.{HasOneSnapshot, HasOneNext}
use Rattle.netlist.specs.Names.{NamedNetlist}
use Rattle.verilog_text.specs.declared.fault.TextFault.{TextFault}
use Rattle.verilog_text.specs.Faults.{IsFault}
use Rattle.cycle_sim.specs.Ports.{din_widths}
use Rattle.pgm_codec.specs.Images.{Image}
use Rattle.dk_frames.specs.declared.frame.Frame.{Frame}
use Rattle.pgm_rounds.specs.declared.round.Round.{Round}
use Rattle.pgm_rounds.specs.Files.{frame_of, frames_of}
use Rattle.stimulus.specs.declared.drive.Drive.{Drive}
use Rattle.stimulus.specs.declared.stop.Stop.{Stop}
use Rattle.stimulus.specs.Stimulus.{Rounds}
use Rattle.stimulus.specs.Given.{rounds_of}
use Rattle.stimulus.specs.Inputs.{samples_of}
use Rattle.stimulus.specs.Showing.{IsShown, IsNoted as AreNotes}
use Rattle.stimulus.specs.Stops.{IsStop}
use Rattle.dk_words.specs.declared.command.PowerUp.{PowerUp}
use Rattle.dk_words.specs.declared.command.PowerUp.TheVariants.{Zeros}
use Rattle.stimulus.specs.declared.stop.Stop.TheVariants.{Index, Count}
use Rattle.dk_endings.specs.declared.ending.Ending.{Ending}
use Rattle.dk_endings.specs.declared.ending.Ending.TheVariants as ending
use Rattle.verilog_text.specs.declared.fault.TextFault.TheVariants as text
use Rattle.dk_endings.specs.declared.verilog.VerilogFault.{VerilogFault}
use Rattle.dk_base.specs.declared.TheConstants.{MAX_VERILOG_BYTES}
use Rattle.dk_endings.specs.Verilog.{fault_told}
use Rattle.dk_top.specs.Simulation.{of_text, drive_of, IsModuleOf, IsVerilogFault, FitsModule, IsSimulated, IsStopped, IsSimAnswer, NotesSim}
use Rattle.dk_top.specs.State.{IsNoted}
use Rattle.dk_top.specs.Command.{sim}
use Rattle.dk_top.specs.Reading.{Stops}
use Rattle.dk_top.specs.Tracing.{trace_drive, IsTraceAnswer}
use Rattle.dk_top.specs.Simulating.{IsModuleEnding, IsFileEnding, IsInputEnding, IsInputRefusal, IsSimInput}
use Rattle.dk_top.specs.Meaning.{Files, bytes_of}
use Rattle.dk_top.proofs.SimLemmas.{OneModule, OneRounds, fits_some}

-- what is specified of a text's fault is a fault of the text
own_fault : (f : TextFault) (hold : Option ℕ) (t : List ℕ) → length t ≤ MAX_VERILOG_BYTES → IsFault t f → IsVerilogFault hold t (fault_told f)
own_fault (text.Lex p) hold t within is = (within, of_text (text.Lex p) is refl)
own_fault (text.Syntax p) hold t within is = (within, of_text (text.Syntax p) is refl)
own_fault (text.NotInSubset p) hold t within is = (within, of_text (text.NotInSubset p) is refl)
own_fault (text.Limit p) hold t within is = (within, of_text (text.Limit p) is refl)
own_fault (text.Net s n) hold t within is = (within, of_text (text.Net s n) is refl)

pub told_ending : (f : TextFault) (told : VerilogFault) → told ≡ fault_told f → (hold : Option ℕ) (t : List ℕ) → length t ≤ MAX_VERILOG_BYTES → IsFault t f → IsVerilogFault hold t told
told_ending f told e hold t within is = subst (IsVerilogFault hold t) (sym e) (own_fault f hold t within is)

-- the file does not fit
file_answer : (clocks : ℕ) (power : PowerUp) (hold : Option ℕ) (t file : List ℕ) (m : NamedNetlist) (e : Ending) → IsModuleOf hold t m → Stops e → IsFileEnding m file e → IsInputEnding (drive_of clocks power hold) t file e
file_answer clocks power hold t file m (ending.Image f) made stops h = record { m = m; made = made; unfit = h }
file_answer clocks power hold t file m ending.ReadFault made stops h = tt
file_answer clocks power hold t file m ending.Memory made stops h = tt
file_answer clocks power hold t file m ending.Done made stops h = absurd stops
file_answer clocks power hold t file m ending.Usage made stops h = absurd stops
file_answer clocks power hold t file m ending.WriteFault made stops h = absurd stops
file_answer clocks power hold t file m (ending.Source f) made stops h = absurd h
file_answer clocks power hold t file m (ending.Verilog f) made stops h = absurd h
file_answer clocks power hold t file m (ending.Stopped f) made stops h = absurd h
file_answer clocks power hold t file m (ending.Rejected f) made stops h = absurd h
file_answer clocks power hold t file m (ending.Unable f) made stops h = absurd h

pub file_refused : (hold : Option ℕ) (t file : List ℕ) (m : NamedNetlist) (e : Ending) → IsModuleOf hold t m → Stops e → IsFileEnding m file e → IsInputRefusal hold t file e
file_refused hold t file m e made stops h = λ clocks power. file_answer clocks power hold t file m e made stops h

-- the text is that of no module
module_answer : (clocks : ℕ) (power : PowerUp) (hold : Option ℕ) (t file : List ℕ) (e : Ending) → IsModuleEnding hold t e → IsInputEnding (drive_of clocks power hold) t file e
module_answer clocks power hold t file (ending.Verilog f) h = h
module_answer clocks power hold t file ending.ReadFault h = tt
module_answer clocks power hold t file ending.Memory h = tt
module_answer clocks power hold t file ending.Done h = absurd h
module_answer clocks power hold t file ending.Usage h = absurd h
module_answer clocks power hold t file ending.WriteFault h = absurd h
module_answer clocks power hold t file (ending.Source f) h = absurd h
module_answer clocks power hold t file (ending.Image f) h = absurd h
module_answer clocks power hold t file (ending.Stopped f) h = absurd h
module_answer clocks power hold t file (ending.Rejected f) h = absurd h
module_answer clocks power hold t file (ending.Unable f) h = absurd h

pub module_refused : (hold : Option ℕ) (t file : List ℕ) (e : Ending) → IsModuleEnding hold t e → IsInputRefusal hold t file e
module_refused hold t file e h = λ clocks power. module_answer clocks power hold t file e h

-- the samples of the frames are those of the images
frame_samples : (images : List Image) → map (λ (f : Frame). f.samples) (map frame_of images) ≡ map (λ (i : Image). i.samples) images
frame_samples [] = refl
frame_samples (i ∷ images) = ap (λ rest. i.samples ∷ rest) (frame_samples images)

all_samples : (images : List (List Image)) → map (λ (fs : List Frame). map (λ (f : Frame). f.samples) fs) (map (map frame_of) images) ≡ samples_of images
all_samples [] = refl
all_samples (round ∷ images) = ap (λ x. x ∷ map (λ (fs : List Frame). map (λ (f : Frame). f.samples) fs) (map (map frame_of) images)) (frame_samples round) ∙ ap (λ rest. map (λ (i : Image). i.samples) round ∷ rest) (all_samples images)

pub samples_same : (rounds : List Round) (images : List (List Image)) → frames_of rounds ≡ map (map frame_of) images → rounds_of rounds ≡ samples_of images
samples_same rounds images e = ap (λ fs. map (λ (x : List Frame). map (λ (f : Frame). f.samples) x) fs) e ∙ all_samples images

module _ (drive : Drive) (m : NamedNetlist) (size : Size) (rounds : List Round) where
  -- what the module shows is what the command shows
  pub shown_of : (file : List ℕ) → IsShown m.netlist drive size (rounds_of rounds) file → (t images : List ℕ) → IsSimInput drive.hold t images m size rounds → IsSimulated drive t images file
  shown_of file shown t images given = record {
    m = m;
    made = given.made;
    size = size;
    images = given.input.images;
    fits = given.input.fits;
    shown = subst (λ rs. IsShown m.netlist drive size rs file) (samples_same rounds given.input.images given.input.frames) shown;
  }

  pub stopped_of : (stop : Stop) → HasOneSnapshot m.netlist → HasOneNext m.netlist → IsStop m.netlist drive size (rounds_of rounds) stop → (t images : List ℕ) → IsSimInput drive.hold t images m size rounds → IsStopped drive t images stop
  stopped_of stop valuation next stops t images given = record {
    m = m;
    made = given.made;
    size = size;
    images = given.input.images;
    fits = given.input.fits;
    one_valuation = valuation;
    one_next = next;
    stops = subst (λ rs. IsStop m.netlist drive size rs stop) (samples_same rounds given.input.images given.input.frames) stops;
  }

  pub notes_of_run : (old new : Option (List (Bool × ℕ))) → ((notes : List (Bool × ℕ)) × AreNotes m.netlist drive (rounds_of rounds) notes × IsIfTold new (option_map (λ before. before ++ notes) old)) → (t images : List ℕ) → IsSimInput drive.hold t images m size rounds → NotesSim drive t images old new
  notes_of_run old new (notes, are, told) t images given = record {
    m = m;
    made = given.made;
    size = size;
    images = given.input.images;
    fits = given.input.fits;
    gained = notes;
    run = subst (λ rs. AreNotes m.netlist drive rs notes) (samples_same rounds given.input.images given.input.frames) are;
    told = told;
  }

  -- there is one file of pictures
  pub one_shown : OneModule → OneRounds → ((n : Netlist) → HasOneSnapshot n → HasOneNext n → (d : Drive) (s : Size) (rs : Rounds) (a b : List ℕ) → IsShown n d s rs a → IsShown n d s rs b → a ≡ b) → HasOneSnapshot m.netlist → HasOneNext m.netlist
      → (file : List ℕ) → IsShown m.netlist drive size (rounds_of rounds) file → (t images : List ℕ) → IsSimInput drive.hold t images m size rounds → (pictures : List ℕ) → IsSimulated drive t images pictures → pictures ≡ file
  one_shown one rounds_once shown_once valuation next file shown t images given pictures other =
      let same : other.m ≡ m = one t other.m m other.made.stands given.made.stands in
      let fits : FitsModule m images other.size other.images = subst (λ n. FitsModule n images other.size other.images) same other.fits in
      let both = rounds_once (din_widths m.netlist) (fits_some (din_widths m.netlist) images size given.input.images given.input.fits.fits) images other.size size other.images given.input.images fits.fits given.input.fits.fits in
      let first : IsShown m.netlist drive other.size (samples_of other.images) pictures = subst (λ (n : NamedNetlist). IsShown n.netlist drive other.size (samples_of other.images) pictures) same other.shown in
      let second : IsShown m.netlist drive size (samples_of other.images) pictures = subst (λ z. IsShown m.netlist drive z (samples_of other.images) pictures) both.0 first in
      let third : IsShown m.netlist drive size (samples_of given.input.images) pictures = subst (λ z. IsShown m.netlist drive size (samples_of z) pictures) both.1 second in
      let fourth : IsShown m.netlist drive size (rounds_of rounds) pictures = subst (λ rs. IsShown m.netlist drive size rs pictures) (sym (samples_same rounds given.input.images given.input.frames)) third in
      shown_once m.netlist valuation next drive size (rounds_of rounds) pictures file fourth shown

-- a text or a file that is not in order ends `sim`, and `trace`
sim_ends : (drive : Drive) (t file : List ℕ) (e : Ending) → IsInputEnding drive t file e → IsSimAnswer drive t file e
sim_ends drive t file (ending.Verilog f) h = h
sim_ends drive t file (ending.Image f) h = h
sim_ends drive t file ending.ReadFault h = tt
sim_ends drive t file ending.Memory h = tt
sim_ends drive t file ending.Done h = absurd h
sim_ends drive t file ending.Usage h = absurd h
sim_ends drive t file ending.WriteFault h = absurd h
sim_ends drive t file (ending.Source f) h = absurd h
sim_ends drive t file (ending.Stopped f) h = absurd h
sim_ends drive t file (ending.Rejected f) h = absurd h
sim_ends drive t file (ending.Unable f) h = absurd h

pub trace_ends : (drive : Drive) (t file : List ℕ) (e : Ending) → IsInputEnding drive t file e → IsTraceAnswer drive t file e
trace_ends drive t file (ending.Verilog f) h = h
trace_ends drive t file (ending.Image f) h = h
trace_ends drive t file ending.ReadFault h = tt
trace_ends drive t file ending.Memory h = tt
trace_ends drive t file ending.Done h = absurd h
trace_ends drive t file ending.Usage h = absurd h
trace_ends drive t file ending.WriteFault h = absurd h
trace_ends drive t file (ending.Source f) h = absurd h
trace_ends drive t file (ending.Stopped (Index clock array index)) h = absurd h
trace_ends drive t file (ending.Stopped (Count shown wanted)) h = absurd h
trace_ends drive t file (ending.Rejected f) h = absurd h
trace_ends drive t file (ending.Unable f) h = absurd h

-- an ending whatever clocks are asked for is that of these
pub for_clocks : (told : Option Files) (verilog image : List ℕ) (clocks : ℕ) (power : PowerUp) (hold : Option ℕ) (e : Ending) → IfSome told (λ f. (n : ℕ) (p : PowerUp) → IsInputEnding (drive_of n p hold) (bytes_of f verilog) (bytes_of f image) e)
    → IfSome told (λ f. IsSimAnswer (drive_of clocks power hold) (bytes_of f verilog) (bytes_of f image) e)
for_clocks None verilog image clocks power hold e h = tt
for_clocks (Some f) verilog image clocks power hold e h = sim_ends (drive_of clocks power hold) (bytes_of f verilog) (bytes_of f image) e (h clocks power)

pub for_trace : (told : Option Files) (verilog image : List ℕ) (clocks : ℕ) (e : Ending) → IfSome told (λ f. (n : ℕ) (p : PowerUp) → IsInputEnding (drive_of n p None) (bytes_of f verilog) (bytes_of f image) e)
    → IfSome told (λ f. IsTraceAnswer (trace_drive clocks) (bytes_of f verilog) (bytes_of f image) e)
for_trace None verilog image clocks e h = tt
for_trace (Some f) verilog image clocks e h = trace_ends (trace_drive clocks) (bytes_of f verilog) (bytes_of f image) e (h clocks Zeros)

-- what is said of any input of the drive's holds is said of the files
pub of_input : (told : Option Files) (verilog image : List ℕ) (d drive : Drive) (m : NamedNetlist) (size : Size) (rounds : List Round) (P : Drive → (t i : List ℕ) → Type 0) → d ≡ drive → IfSome told (λ f. IsSimInput drive.hold (bytes_of f verilog) (bytes_of f image) m size rounds)
    → ((t i : List ℕ) → IsSimInput d.hold t i m size rounds → P d t i) → IfSome told (λ f. P drive (bytes_of f verilog) (bytes_of f image))
of_input None verilog image d drive m size rounds P e given h = tt
of_input (Some f) verilog image d drive m size rounds P e given h =
    subst (λ x. P x (bytes_of f verilog) (bytes_of f image)) e (h (bytes_of f verilog) (bytes_of f image) (subst (λ (x : Drive). IsSimInput x.hold (bytes_of f verilog) (bytes_of f image) m size rounds) (sym e) given))

-- what is written is related to the pictures as it is to what was made
pub stored_sim : (told : Option Files) (verilog image : List ℕ) (d drive : Drive) (m : NamedNetlist) (size : Size) (rounds : List Round) (bytes : Option (List ℕ)) (file : List ℕ) (R : List ℕ → List ℕ → Type 0) → d ≡ drive → IfSome told (λ f. IsSimInput drive.hold (bytes_of f verilog) (bytes_of f image) m size rounds)
    → ((t i : List ℕ) → IsSimInput d.hold t i m size rounds → (pictures : List ℕ) → IsSimulated d t i pictures → pictures ≡ file) → IfSome bytes (λ written. R written file)
    → IfSome told (λ f. IfSome bytes (λ written. (pictures : List ℕ) → IsSimulated drive (bytes_of f verilog) (bytes_of f image) pictures → R written pictures))
stored_sim None verilog image d drive m size rounds bytes file R e given only written = tt
stored_sim (Some f) verilog image d drive m size rounds None file R e given only written = tt
stored_sim (Some f) verilog image d drive m size rounds (Some b) file R e given only written = λ pictures is.
    let same : pictures ≡ file = only (bytes_of f verilog) (bytes_of f image) (subst (λ (x : Drive). IsSimInput x.hold (bytes_of f verilog) (bytes_of f image) m size rounds) (sym e) given) pictures (subst (λ x. IsSimulated x (bytes_of f verilog) (bytes_of f image) pictures) (sym e) is) in
    subst (R b) (sym same) written

-- nothing is stated of the notes where the run stops
pub sim_notes : (verilog : List ℕ) (clocks : ℕ) (image out : List ℕ) (power : PowerUp) (hold : Option ℕ) (e : Ending) → Stops e → (f : Files) (old new : Option (List (Bool × ℕ))) → IsNoted (sim verilog clocks image out power hold) e f old new
sim_notes v c i o p h ending.Done stops f old new = absurd stops
sim_notes v c i o p h ending.Usage stops f old new = tt
sim_notes v c i o p h (ending.Source x) stops f old new = tt
sim_notes v c i o p h (ending.Image x) stops f old new = tt
sim_notes v c i o p h (ending.Verilog x) stops f old new = tt
sim_notes v c i o p h (ending.Stopped x) stops f old new = tt
sim_notes v c i o p h (ending.Rejected x) stops f old new = tt
sim_notes v c i o p h (ending.Unable x) stops f old new = tt
sim_notes v c i o p h ending.ReadFault stops f old new = tt
sim_notes v c i o p h ending.WriteFault stops f old new = tt
sim_notes v c i o p h ending.Memory stops f old new = tt
