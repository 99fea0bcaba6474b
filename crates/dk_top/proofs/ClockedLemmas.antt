-- The module of a compiled program, clocked on the rounds of a file.
use Rattle.std.proofs.Common.{◌≡◌, ℕ, ◌+◌, ◌*◌, Bool, false, List, ◌++◌, length, map, Option, None, option_map, refl, sym, ap, ◌∙◌, subst}
use Rattle.std.proofs.lemmas.List.{length-map}
use Rattle.dk_base.specs.Frames.{Size, area}
use Rattle.dk_desk.specs.Calls.{IsIfTold}
use Rattle.dk_types.specs.Typed.{Typing}
use Rattle.netlist.specs.Names.{NamedNetlist}
use Rattle.buffer_plan.specs.Plans.{latency}
use Rattle.cycle_sim.specs.declared.fill.Fill.TheVariants.{Zeros}
use Rattle.cycle_sim.specs.Ports.{din_widths}
use Rattle.pgm_codec.specs.Images.{Image}
use Rattle.pgm_rounds.specs.declared.round.Round.{Round}
use Rattle.pgm_rounds.specs.Ports.{Ports}
use Rattle.pgm_rounds.specs.Files.{FitsFile, frame_of, frames_of}
use Rattle.stimulus.specs.declared.drive.Drive.{Drive}
use Rattle.stimulus.specs.declared.stop.Stop.{Stop}
use Rattle.stimulus.specs.Stimulus.{Rounds}
use Rattle.stimulus.specs.Inputs.{samples_of}
use Rattle.stimulus.specs.Given.{AreBenchFrames, rounds_of}
use Rattle.stimulus.specs.Showing.{IsShown, IsNoted as AreNotes}
use Rattle.stimulus.specs.Stops.{IsStop}
use Rattle.dk_compile.specs.declared.compiling.Compiled.{Compiled}
use Rattle.dk_top.specs.Program.{ports}
use Rattle.dk_top.specs.Output.{Fits, output_file, run_terms, OfPair}
use Rattle.dk_top.specs.Compiling.{IsCompiledFrom, NotesRun, frame_drive}
use Rattle.dk_top.specs.Reading.{AreRead, IsInputOf}
use Rattle.dk_top.proofs.VerdictLemmas.{OneProgram}
use Rattle.dk_top.proofs.ReadLemmas.{ports_same}
use Rattle.dk_top.proofs.DriveShown.{PictureLaw, RasterLaw}
use Rattle.dk_top.proofs.NoteLaws.{NotesLaw, every_of}
use Rattle.dk_top.proofs.DriveLemmas.{bench_frames, bench_rounds, never_stops, drive_file, drive_of}

-- what is said of a module, a drive, a size and rounds is said of the same ones by other names
moved : (P : NamedNetlist → Drive → Size → Rounds → Type 0) (m n : NamedNetlist) (d e : Drive) (s t : Size) (x y : Rounds) → m ≡ n → d ≡ e → s ≡ t → x ≡ y → P m d s x → P n e t y
moved P m n d e s t x y em ed es ex h =
    subst (λ (z : Rounds). P n e t z) ex (subst (λ (z : Size). P n e z x) es (subst (λ (z : Drive). P n z s x) ed (subst (λ (z : NamedNetlist). P z d s x) em h)))

-- a compiled program, its module under another name, and the rounds of a file
module _ (source : List ℕ) (age : ℕ) (c : Compiled) (from : IsCompiledFrom source age false None c) (m : NamedNetlist) (size : Size) (rounds : List Round) (again : m ≡ c.«module») (sized : size ≡ c.ir.size) where
  abbrev q : Typing
  q = from.program

  module _ (file : List ℕ) (images : List (List Image)) (fits : FitsFile (ports q) file images) (frames : frames_of rounds ≡ map (map frame_of) images) where
    as_many : length rounds ≡ length images
    as_many = sym (length-map rounds (λ (r : Round). r.frames.items)) ∙ (ap length frames ∙ length-map images (map frame_of))

    abbrev clocks : ℕ
    clocks = length images * area q.size + latency c.plan

    same_size : size ≡ q.size
    same_size = sized ∙ (from.is.planned.has.front).form.size

    same_rounds : rounds_of rounds ≡ samples_of images
    same_rounds = bench_rounds source age false None q c.ir c.system c.solution c.plan c.«module» c.nets.items c.reads.items c.text.items from.is file images fits rounds frames

    same_drive : (d : Drive) → d ≡ frame_drive size (latency c.plan) (length rounds) → d ≡ drive_of clocks
    same_drive d is = is ∙ (ap (λ n. frame_drive size (latency c.plan) n) as_many ∙ ap (λ s. frame_drive s (latency c.plan) (length images)) same_size)

    module _ (picture_law : PictureLaw) (raster_law : RasterLaw) (d : Drive) (is : d ≡ frame_drive size (latency c.plan) (length rounds)) where
      never : (stop : Stop) → IsStop m.netlist d size (rounds_of rounds) stop → ⊥
      never stop h =
          never_stops source age false None q c.ir c.system c.solution c.plan c.«module» c.nets.items c.reads.items c.text.items from.is file images fits Zeros picture_law raster_law clocks refl stop
          (moved (λ n e s x. IsStop n.netlist e s x stop) m c.«module» d (drive_of clocks) size q.size (rounds_of rounds) (samples_of images) again (same_drive d is) same_size same_rounds h)

      shown : (output : List ℕ) → IsShown m.netlist d size (rounds_of rounds) output → output ≡ output_file q images
      shown output h =
          drive_file source age false None q c.ir c.system c.solution c.plan c.«module» c.nets.items c.reads.items c.text.items from.is file images fits Zeros picture_law raster_law clocks refl output
          (moved (λ n e s x. IsShown n.netlist e s x output) m c.«module» d (drive_of clocks) size q.size (rounds_of rounds) (samples_of images) again (same_drive d is) same_size same_rounds h)

      noted : NotesLaw → (old new : Option (List (Bool × ℕ))) (notes : List (Bool × ℕ)) → AreNotes m.netlist d (rounds_of rounds) notes → IsIfTold new (option_map (λ before. before ++ notes) old) → NotesRun source age q images old new
      noted law old new notes h told =
          let run : AreNotes (c.«module»).netlist (drive_of clocks) (samples_of images) notes =
          moved (λ n e s x. AreNotes n.netlist e x notes) m c.«module» d (drive_of clocks) size q.size (rounds_of rounds) (samples_of images) again (same_drive d is) same_size same_rounds h in
          record {
            compiled = c;
            from = from;
            gained = notes;
            run = run;
            every = every_of law source file age c from images fits notes run;
            told = told;
          }

  -- the rounds that were read fit
  there : (read : AreRead c.ir rounds) → FitsFile (ports q) read.file read.images
  there read = subst (λ (x : Ports). FitsFile x read.file read.images) (ports_same q c.ir (from.is.planned.has.front).form) read.fits

  pub bench_of : AreRead c.ir rounds → AreBenchFrames (din_widths m.netlist) size rounds
  bench_of read =
      let frames = bench_frames source age false None q c.ir c.system c.solution c.plan c.«module» c.nets.items c.reads.items c.text.items from.is read.file read.images (there read) rounds read.frames read.each in
      subst (λ (n : NamedNetlist). AreBenchFrames (din_widths n.netlist) size rounds) (sym again) (subst (λ (s : Size). AreBenchFrames (din_widths (c.«module»).netlist) s rounds) (sym (sized ∙ (from.is.planned.has.front).form.size)) frames)

  pub never_of : PictureLaw → RasterLaw → (d : Drive) → d ≡ frame_drive size (latency c.plan) (length rounds) → AreRead c.ir rounds → (stop : Stop) → IsStop m.netlist d size (rounds_of rounds) stop → ⊥
  never_of picture_law raster_law d is read = never read.file read.images (there read) read.frames picture_law raster_law d is

-- the pictures and the notes, whatever program and rounds the files are read as
module _ (one : OneProgram) (picture_law : PictureLaw) (raster_law : RasterLaw) (source file : List ℕ) (age : ℕ) (c : Compiled) (m : NamedNetlist) (size : Size) (rounds : List Round) (again : m ≡ c.«module») (sized : size ≡ c.ir.size)
    (d : Drive) (is : d ≡ frame_drive size (latency c.plan) (length rounds)) (from : IsCompiledFrom source age false None c) (input : IsInputOf None c.ir file rounds) where
  of_pair : (P : Typing → List (List Image) → Type 0) → ((images : List (List Image)) → FitsFile (ports from.program) file images → frames_of rounds ≡ map (map frame_of) images → P from.program images) → OfPair (run_terms age) source file P
  of_pair P made = λ p images accepted fits.
      let same : from.program ≡ p = one source from.program p from.is.planned.has.front.program accepted.accepted.program in
      subst (λ (x : Typing). P x images) same
      (let fit : Fits None from.program file images = subst (λ (x : Typing). Fits None x file images) (sym same) fits in
      made images fit.holds (input.frames from.program (from.is.planned.has.front).form images fit))

  pub shown_of : (output : List ℕ) → IsShown m.netlist d size (rounds_of rounds) output → OfPair (run_terms age) source file (λ p images. output ≡ output_file p images)
  shown_of output h = of_pair (λ p images. output ≡ output_file p images) (λ images fits frames. shown source age c from m size rounds again sized file images fits frames picture_law raster_law d is output h)

  pub noted_of : NotesLaw → (old new : Option (List (Bool × ℕ))) (notes : List (Bool × ℕ)) → AreNotes m.netlist d (rounds_of rounds) notes → IsIfTold new (option_map (λ before. before ++ notes) old)
      → OfPair (run_terms age) source file (λ p images. NotesRun source age p images old new)
  noted_of law old new notes h told = of_pair (λ p images. NotesRun source age p images old new) (λ images fits frames. noted source age c from m size rounds again sized file images fits frames picture_law raster_law d is law old new notes h told)
