-- What `run` does of a program with one input and one output.
use Rattle.std.proofs.Common.{◌≡◌, ◌≢◌, ℕ, ◌<◌, ◌≤◌, Bool, true, false, List, [], ◌++◌, length, take, Option, None, Some, IfSome, refl, sym, ap, ◌∙◌, subst, arith, cond}
use Rattle.std.specs.Str.{bytes_eq}
use Rattle.std.specs.Bool.{Decides}
use Rattle.std.proofs.lemmas.Slice.Eq.{bytes_eq-Decides}
use Rattle.dk_desk.specs.declared.Stage.TheVariants.{Unasked, Refused, Open}
use Rattle.dk_desk.specs.Outside.{Outside, Input, Created}
use Rattle.dk_desk.specs.Calls.{HasCauseIn, IsIfTold, AddsToFile, grown, with_created, with_file, grow_created, grow_file}
use Rattle.dk_types.specs.Typed.{Typing}
use Rattle.wiring.specs.Netlist.{Netlist}
use Rattle.buffer_plan.specs.Plans.{latency}
use Rattle.cycle_sim.specs.declared.fill.Fill.TheVariants.{Zeros}
use Rattle.cycle_sim.specs.Filled.{filled_contents}
use Rattle.pgm_codec.specs.Images.{Image}
use Rattle.pgm_rounds.specs.declared.fault.FileFault.{FileFault}
use Rattle.pgm_rounds.specs.Ports.{Ports}
use Rattle.pgm_rounds.specs.Files.{FitsFile, IsFault, IsHeaded}
use Rattle.row_stream.specs.declared.faults.StreamFault.{StreamFault}
use Rattle.row_stream.specs.declared.faults.StreamFault.TheVariants.{Image as ImageFails, Read}
use Rattle.row_stream.specs.Lines.{Kind, head}
use Rattle.row_stream.specs.Moving.{Gains, GainsBut}
use Rattle.row_stream.specs.Whole.{Creates, LeavesAll, LeavesBehind, LeavesInside, FailsFirst, at_create, at_head, at_reset, LeavesEarly, at_start, behind, inside, LeavesAtWrite as StreamsToWrite, write_first, write_inside, write_behind, StopsAtFault}
use Rattle.row_stream.proofs.FirstFault.{told_parts}
use Rattle.row_stream.proofs.Leaving.{creates_from}
use Rattle.dk_compile.specs.declared.compiling.Compiled.{Compiled}
use Rattle.dk_endings.specs.declared.ending.Ending.{Ending}
use Rattle.dk_endings.specs.declared.ending.Ending.TheVariants as ending
use Rattle.dk_endings.specs.declared.ending.ImageFault.TheVariants.{File, TooLong}
use Rattle.dk_compile.specs.Limits.{IsAcceptedAt}
use Rattle.dk_top.specs.Program.{ports}
use Rattle.dk_top.specs.Output.{output_file, run_terms, OfPair}
use Rattle.dk_top.specs.Compiling.{IsCompiledFrom, NotesRun}
use Rattle.dk_top.specs.Streaming.{IsOnePort, first_bits, IsBegun, output_kind, shown_by, OfStream, ReadsToFault, ReadsFirst, CreatesAtFailure, OnStream, ReadsRun, LeavesAtFault, LeavesAtRead, LeavesAtWrite, IsRunAnswer, CreatesRun, IsStreamed, IsStoredRun, by_lines, NotedRun}
use Rattle.dk_top.specs.Command.{run}
use Rattle.dk_top.specs.State.{OthersStay, HasOwnFile, CreatesNothing}
use Rattle.dk_top.specs.Streams.{StreamEnds, OpensImages, RunsOn}
use Rattle.dk_top.specs.Meaning.{Files, bytes_of}
use Rattle.dk_top.proofs.VerdictLemmas.{OneProgram}
use Rattle.dk_top.proofs.FileLemmas.{own_created, own_grown, own_unasked}
use Rattle.dk_top.proofs.CompileLemmas.{PlannedAccepted, compiled_accepted}
use Rattle.dk_top.proofs.DriveShown.{PictureLaw, RasterLaw}
use Rattle.dk_top.proofs.NoteLaws.{NotesLaw}
use Rattle.dk_top.proofs.DrivePorts.{power_up_fits}
use Rattle.dk_top.proofs.DriveLemmas as D
use Rattle.dk_top.proofs.StreamLemmas as S
use Rattle.dk_top.proofs.StreamFile.{ShowsLaw}
use Rattle.dk_top.proofs.StreamTaken.{headed_images, headed_line, headed_taken}
use Rattle.dk_top.proofs.StreamReads.{MostLaws, fault_reads, failure_reads, write_reads, done_reads}
use Rattle.dk_top.proofs.StreamStored.{stored_fault, stored_read, stored_write}
use Rattle.dk_top.proofs.StreamDone.{rounds_of_images, inputs, ports_one, whole_fits, file_done, notes_done}

-- what is specified of the files
pub on_files : (told : Option Files) (P Q : Files → Type 0) → ((f : Files) → P f → Q f) → IfSome told P → IfSome told Q
on_files None P Q f h = tt
on_files (Some x) P Q f h = f x h

pub all_files : (told : Option Files) (Q : Files → Type 0) → ((f : Files) → Q f) → IfSome told Q
all_files None Q f = tt
all_files (Some x) Q f = f x

-- what a stream leaves as it was
pub record Frame (old new : Outside) : Type 0 where
  pub program : new.program ≡ old.program
  pub report : new.report ≡ old.report
  pub fault : new.fault ≡ old.fault
  pub fault_failures : new.fault_failures ≡ old.fault_failures

pub then_frame : (a b c : Outside) → Frame a b → Frame b c → Frame a c
then_frame a b c f g = record { program = g.program ∙ f.program; report = g.report ∙ f.report; fault = g.fault ∙ f.fault; fault_failures = g.fault_failures ∙ f.fault_failures }

pub frame_only : (old new : Outside) → Frame old new → new ≡ record old { image = new.image; file = new.file; files = new.files; notes = new.notes; input_failures = new.input_failures; output_failures = new.output_failures }
frame_only old new f =
    ap (λ x. record new { program = x }) f.program
    ∙ (ap (λ x. record new { program = old.program; report = x }) f.report
    ∙ (ap (λ x. record new { program = old.program; report = old.report; fault = x }) f.fault ∙ ap (λ x. record new { program = old.program; report = old.report; fault = old.fault; fault_failures = x }) f.fault_failures))

frame_of : (old new : Outside) (other : Outside) → new ≡ other → Frame old other → Frame old new
frame_of old new other e f = subst (Frame old) (sym e) f

-- the files but the created one
module _ (name : List ℕ) where
  other_name : (other n : List ℕ) → name ≡ n → ¬ (other ≡ name) → bytes_eq other n ≡ false
  other_name other n same differs = by (bytes_eq other n) (bytes_eq-Decides other n)
    where
      by : (b : Bool) → Decides b (other ≡ n) → b ≡ false
      by true d = absurd (differs (d.0 refl ∙ sym same))
      by false d = refl

  pub others_created : (before : Option Files) (c : Created) (mid : Option Files) → IsIfTold c.name (Some name) → IsIfTold mid (with_created before c) → OthersStay name before mid
  others_created before c None named made = tt
  others_created None c (Some mid) named made = tt
  others_created (Some before) c (Some mid) named made = by c.name c.bytes named made
    where
      by : (n b : Option (List ℕ)) → IsIfTold n (Some name) → Rattle.dk_desk.specs.Calls.put_file (Some before) n b ≡ Some mid → (other : List ℕ) → ¬ (other ≡ name) → mid other ≡ before other
      by None b named made other differs = absurd (let e : ⊥ = cc in e)
      by (Some n) None named made other differs = absurd (let e : ⊥ = cc in e)
      by (Some n) (Some b) named made other differs =
          let is : with_file before n b ≡ mid = cc in
          let same : name ≡ n = cc in
          sym (ap (λ (g : Files). g other) is) ∙ ap (λ t. cond t (Some b) (before other)) (other_name other n same differs)

  pub others_grown : (before mid : Option Files) (n : Option (List ℕ)) (w : List ℕ) (after : Option Files) → IsIfTold n (Some name) → IsIfTold after (grow_created mid n w) → OthersStay name before mid → OthersStay name before after
  others_grown before mid n w None named grows stay = tt
  others_grown None mid n w (Some after) named grows stay = tt
  others_grown (Some before) None None w (Some after) named grows stay = absurd (let e : ⊥ = cc in e)
  others_grown (Some before) None (Some n) w (Some after) named grows stay = absurd (let e : ⊥ = cc in e)
  others_grown (Some before) (Some mid) None w (Some after) named grows stay = λ other differs. (let is : mid ≡ after = cc in sym (ap (λ (g : Files). g other) is)) ∙ stay other differs
  others_grown (Some before) (Some mid) (Some n) w (Some after) named grows stay = λ other differs.
      let is : grow_file mid n w ≡ after = cc in
      let same : name ≡ n = cc in
      sym (ap (λ (g : Files). g other) is) ∙ (ap (λ t. cond t (grown (mid other) w) (mid other)) (other_name other n same differs) ∙ stay other differs)

-- what a stream leaves of the outside, from the file of images as it was opened
pub record Leaves_so (name : List ℕ) (opened now : Outside) : Type 0 where
  pub frame : Frame opened now
  pub named : now.file.stage ≢ Unasked → IsIfTold now.file.name (Some name)
  pub others : OthersStay name opened.files now.files
  pub stay : now.file.stage ≢ Open → now.files ≡ opened.files
  pub own : HasOwnFile now
  pub image : (now.image.stage ≡ opened.image.stage) × (now.image.name ≡ opened.image.name)

-- bytes were added to File, and what is left of the images may have changed
record Grown (created now : Outside) (w : List ℕ) : Type 0 where
  frame : Frame created now
  stage : now.file.stage ≡ created.file.stage
  name : now.file.name ≡ created.file.name
  bytes : IsIfTold now.file.bytes (grown created.file.bytes w)
  files : IsIfTold now.files (grow_created created.files created.file.name w)
  image_stage : now.image.stage ≡ created.image.stage
  image_name : now.image.name ≡ created.image.name

grown_gains : (created now : Outside) (w : List ℕ) (notes : List (Bool × ℕ)) → Gains created w notes now → Grown created now w
grown_gains created now w notes g = record {
  frame = record { program = ap (λ (o : Outside). o.program) g.only; report = ap (λ (o : Outside). o.report) g.only; fault = ap (λ (o : Outside). o.fault) g.only; fault_failures = ap (λ (o : Outside). o.fault_failures) g.only };
  stage = ap (λ (o : Outside). o.file.stage) g.only;
  name = ap (λ (o : Outside). o.file.name) g.only;
  bytes = g.grows;
  files = g.files;
  image_stage = ap (λ (o : Outside). o.image.stage) g.only;
  image_name = ap (λ (o : Outside). o.image.name) g.only;
}

grown_adds : (created now : Outside) (w : List ℕ) (n : ℕ) → AddsToFile created w (record now { output_failures = n }) → Grown created now w
grown_adds created now w n a = record {
  frame = record { program = ap (λ (o : Outside). o.program) a.only; report = ap (λ (o : Outside). o.report) a.only; fault = ap (λ (o : Outside). o.fault) a.only; fault_failures = ap (λ (o : Outside). o.fault_failures) a.only };
  stage = ap (λ (o : Outside). o.file.stage) a.only;
  name = ap (λ (o : Outside). o.file.name) a.only;
  bytes = a.grows;
  files = a.files;
  image_stage = ap (λ (o : Outside). o.image.stage) a.only;
  image_name = ap (λ (o : Outside). o.image.name) a.only;
}

module _ (name : List ℕ) (opened : Outside) (unasked : opened.file.stage ≡ Unasked) where
  -- nothing was created
  left_nothing : (now : Outside) → now ≡ record opened { image = record opened.image { rest = now.image.rest }; input_failures = now.input_failures } → Leaves_so name opened now
  left_nothing now only = record {
    frame = record { program = ap (λ (o : Outside). o.program) only; report = ap (λ (o : Outside). o.report) only; fault = ap (λ (o : Outside). o.fault) only; fault_failures = ap (λ (o : Outside). o.fault_failures) only };
    named = λ asked. absurd (asked (ap (λ (o : Outside). o.file.stage) only ∙ unasked));
    others = subst (λ fs. OthersStay name opened.files fs) (sym (ap (λ (o : Outside). o.files) only)) (same_others opened.files);
    stay = λ closed. ap (λ (o : Outside). o.files) only;
    own = own_unasked now (ap (λ (o : Outside). o.file.stage) only ∙ unasked);
    image = (ap (λ (o : Outside). o.image.stage) only, ap (λ (o : Outside). o.image.name) only);
  }
    where
      same_others : (fs : Option Files) → OthersStay name fs fs
      same_others None = tt
      same_others (Some f) = λ other differs. refl

  -- it was created, and has gained bytes
  left_grown : (created now : Outside) (w : List ℕ) → Creates name opened created → Grown created now w → (now.file.stage ≡ Open) × Leaves_so name opened now
  left_grown created now w creates g =
      let stage : now.file.stage ≡ Open = g.stage ∙ creates.stage in (
        stage,
        record {
          frame = then_frame opened created now (record { program = ap (λ (o : Outside). o.program) creates.only; report = ap (λ (o : Outside). o.report) creates.only; fault = ap (λ (o : Outside). o.fault) creates.only; fault_failures = ap (λ (o : Outside). o.fault_failures) creates.only }) g.frame;
          named = λ asked. subst (λ (n : Option (List ℕ)). IsIfTold n (Some name)) (sym g.name) creates.named;
          others = others_grown name opened.files created.files created.file.name w now.files creates.named g.files (others_created name opened.files created.file created.files creates.named creates.files);
          stay = λ closed. absurd (closed stage);
          own = λ there. own_grown created now w (own_created opened created creates.files) g.name g.bytes g.files;
          image = (g.image_stage ∙ ap (λ (o : Outside). o.image.stage) creates.only, g.image_name ∙ ap (λ (o : Outside). o.image.name) creates.only);
        },
      )

  left_done : (created now : Outside) (w : List ℕ) (notes : List (Bool × ℕ)) → Creates name opened created → Gains created w notes now → (now.file.stage ≡ Open) × Leaves_so name opened now
  left_done created now w notes creates gains = left_grown created now w creates (grown_gains created now w notes gains)

  -- beside a failure
  left_failed : (created now : Outside) (w : List ℕ) (notes : List (Bool × ℕ)) → Creates name opened created → GainsBut created w notes now → (now.file.stage ≡ Open) × Leaves_so name opened now
  left_failed created now w notes creates gains =
      let g = grown_gains created (record now { input_failures = created.input_failures; output_failures = created.output_failures }) w notes gains in
      left_grown created now w creates (record { frame = record { program = g.frame.program; report = g.frame.report; fault = g.frame.fault; fault_failures = g.frame.fault_failures }; stage = g.stage; name = g.name; bytes = g.bytes; files = g.files; image_stage = g.image_stage; image_name = g.image_name })

  left_half : (created half now : Outside) (w : List ℕ) (notes : List (Bool × ℕ)) → Creates name opened created → Gains created w notes half → now ≡ record half { image = record half.image { rest = now.image.rest }; input_failures = now.input_failures } → (now.file.stage ≡ Open) × Leaves_so name opened now
  left_half created half now w notes creates gains only =
      let g = grown_gains created half w notes gains in
      left_grown created now w creates
      (record {
        frame = then_frame created half now g.frame (record { program = ap (λ (o : Outside). o.program) only; report = ap (λ (o : Outside). o.report) only; fault = ap (λ (o : Outside). o.fault) only; fault_failures = ap (λ (o : Outside). o.fault_failures) only });
        stage = ap (λ (o : Outside). o.file.stage) only ∙ g.stage;
        name = ap (λ (o : Outside). o.file.name) only ∙ g.name;
        bytes = subst (λ b. IsIfTold b (grown created.file.bytes w)) (sym (ap (λ (o : Outside). o.file.bytes) only)) g.bytes;
        files = subst (λ fs. IsIfTold fs (grow_created created.files created.file.name w)) (sym (ap (λ (o : Outside). o.files) only)) g.files;
        image_stage = ap (λ (o : Outside). o.image.stage) only ∙ g.image_stage;
        image_name = ap (λ (o : Outside). o.image.name) only ∙ g.image_name;
      })

  pub left_all : (kind : Kind) (m : Netlist) (bits late : ℕ) (from : Rattle.wiring.specs.Snapshot.Contents) (now : Outside) → LeavesAll kind m bits late name from opened now → (now.file.stage ≡ Open) × Leaves_so name opened now
  left_all kind m bits late from now e = left_done e.created now _ _ e.creates e.shows.gained

  pub left_early : (kind : Kind) (m : Netlist) (bits : ℕ) (f : StreamFault) (from : Rattle.wiring.specs.Snapshot.Contents) (now : Outside) → LeavesEarly kind m bits f name from opened now → Leaves_so name opened now
  left_early kind m bits f from now (at_start h only) = left_nothing now only
  left_early kind m bits f from now (behind created creates e) = (left_half created e.half now _ _ creates e.taken.shows.gained e.only).1
  left_early kind m bits f from now (inside created creates e) = (left_half created e.half now _ _ creates e.taken.shows.gained e.only).1

  -- where File can't be begun, from the outside after the first header
  left_first : (kind : Kind) (m : Netlist) (from : Rattle.wiring.specs.Snapshot.Contents) (before now : Outside) → before ≡ record opened { image = record opened.image { rest = before.image.rest } } → now.image ≡ before.image → FailsFirst kind m name from before now → Leaves_so name opened now
  left_first kind m from before now only same (at_create stage named files h) = record {
    frame = record {
      program = ap (λ (o : Outside). o.program) h ∙ ap (λ (o : Outside). o.program) only;
      report = ap (λ (o : Outside). o.report) h ∙ ap (λ (o : Outside). o.report) only;
      fault = ap (λ (o : Outside). o.fault) h ∙ ap (λ (o : Outside). o.fault) only;
      fault_failures = ap (λ (o : Outside). o.fault_failures) h ∙ ap (λ (o : Outside). o.fault_failures) only;
    };
    named = λ asked. named;
    others = subst (λ fs. OthersStay name opened.files fs) (sym (files ∙ ap (λ (o : Outside). o.files) only)) (same_others opened.files);
    stay = λ closed. files ∙ ap (λ (o : Outside). o.files) only;
    own = λ there. absurd (let e : Refused ≡ Open = sym stage ∙ there in let g : ⊥ = cc in g);
    image = (ap (λ (i : Input). i.stage) same ∙ ap (λ (o : Outside). o.image.stage) only, ap (λ (i : Input). i.name) same ∙ ap (λ (o : Outside). o.image.name) only);
  }
    where
      same_others : (fs : Option Files) → OthersStay name fs fs
      same_others None = tt
      same_others (Some f) = λ other differs. refl
  left_first kind m from before now only same (at_head created creates w) =
      (left_grown created now (take w.count (head kind)) (creates_from name opened before created only creates) (grown_adds created now (take w.count (head kind)) created.output_failures w.adds)).1
  left_first kind m from before now only same (at_reset created creates f) = (left_failed created now _ _ (creates_from name opened before created only creates) f.gained).1

  pub left_write : (kind : Kind) (m : Netlist) (bits late : ℕ) (from : Rattle.wiring.specs.Snapshot.Contents) (now : Outside) → StreamsToWrite kind m bits late name from opened now → Leaves_so name opened now
  left_write kind m bits late from now (write_first header before takes fits only same f) = left_first kind m from before now only same f
  left_write kind m bits late from now (write_inside created creates e) = (left_failed created now _ _ creates e.fails.gained).1
  left_write kind m bits late from now (write_behind created creates e) = (left_failed created now _ _ creates e.fails.gained).1

-- what is said of this program holds of any that the text is accepted as
module _ (one_program : OneProgram) (one_rounds : (ports : Ports) → 0 < length ports.inputs → (bytes : List ℕ) → (a b : List (List Image)) → FitsFile ports bytes a → FitsFile ports bytes b → a ≡ b)
    (source : List ℕ) (age : ℕ) (c : Compiled) (from : IsCompiledFrom source age false None c) where
  same_program : (p : Typing) → IsAcceptedAt source age p → from.program ≡ p
  same_program p accepted = one_program source from.program p from.is.planned.has.front.program accepted.accepted.program

  of_pair : (file : List ℕ) (rounds : List (List Image)) → FitsFile (ports from.program) file rounds → 0 < length (ports from.program).inputs → (P : Typing → List (List Image) → Type 0) → P from.program rounds → OfPair (run_terms age) source file P
  of_pair file rounds fits some P h = λ p images accepted other.
      let same = same_program p accepted in
      let there : FitsFile (ports from.program) file images = subst (λ (x : Typing). FitsFile (ports x) file images) (sym same) other.holds in
      subst (λ (x : Typing). P x images) same (subst (λ rs. P from.program rs) (one_rounds (ports from.program) some file rounds images fits there) h)

-- the cause of a failure does not come from what did not fail
module _ (law : PlannedAccepted) (one_program : OneProgram) (one_rounds : (ports : Ports) → 0 < length ports.inputs → (bytes : List ℕ) → (a b : List (List Image)) → FitsFile ports bytes a → FitsFile ports bytes b → a ≡ b)
    (picture_law : PictureLaw) (raster_law : RasterLaw) (laws : MostLaws) (notes_law : NotesLaw) (source : List ℕ) (age : ℕ) (c : Compiled) (from : IsCompiledFrom source age false None c) (one : IsOnePort from.program) (image out : List ℕ)
    (old opened : Outside) (opens : OpensImages image old opened) (image_unasked : old.image.stage ≡ Unasked) (unasked : old.file.stage ≡ Unasked) where
  abbrev q : Typing
  q = from.program

  abbrev m : Netlist
  m = (c.«module»).netlist

  abbrev kind : Kind
  kind = output_kind q

  abbrev bits : ℕ
  bits = first_bits q

  abbrev late : ℕ
  late = latency c.plan

  abbrev zeros : Rattle.wiring.specs.Snapshot.Contents
  zeros = filled_contents Zeros m

  accepted : IsAcceptedAt source age q
  accepted = compiled_accepted law source age false None c from

  wide : 0 < q.size.width
  wide = (D.is_typed source age false None q c.ir c.system c.solution c.plan c.«module» c.nets.items c.reads.items c.text.items from.is).frame.some_columns

  tall : 0 < q.size.height
  tall = (D.is_typed source age false None q c.ir c.system c.solution c.plan c.«module» c.nets.items c.reads.items c.text.items from.is).frame.some_rows

  shows_law : ShowsLaw m zeros bits late (shown_by q)
  shows_law samples whole small small_whole same few shots to runs =
      S.stream_shown source age false None q c.ir c.system c.solution c.plan c.«module» c.nets.items c.reads.items c.text.items from.is bits (inputs source age c from one) one.output picture_law raster_law samples whole small small_whole same few zeros to shots (power_up_fits m) runs

  long : (whole : List ℕ) → length whole ≤ length (shown_by q whole)
  long whole = S.shown_long source age false None q c.ir c.system c.solution c.plan c.«module» c.nets.items c.reads.items c.text.items from.is bits (inputs source age c from one) one.output whole

  some_inputs : 0 < length (ports q).inputs
  some_inputs = let e = ap length (inputs source age c from one) in omega (arith, e)

  closed : opened.file.stage ≡ Unasked
  closed = ap (λ (o : Outside). o.file.stage) opens.only ∙ unasked

  opened_files : opened.files ≡ old.files
  opened_files = ap (λ (o : Outside). o.files) opens.only

  opened_frame : Frame old opened
  opened_frame = record { program = ap (λ (o : Outside). o.program) opens.only; report = ap (λ (o : Outside). o.report) opens.only; fault = ap (λ (o : Outside). o.fault) opens.only; fault_failures = ap (λ (o : Outside). o.fault_failures) opens.only }

  -- what was found of the file holds where the files are specified
  of_told : (Q : List ℕ → Type 0) → ((file : List ℕ) → opened.image.rest ≡ Some file → Q file) → IfSome old.files (λ files. Q (bytes_of files image))
  of_told Q h = on_files old.files (λ files. opened.image.rest ≡ Some (bytes_of files image)) (λ files. Q (bytes_of files image)) (λ files told. h (bytes_of files image) told) opens.start

  -- all that is the same at each end
  module _ (now : Outside) (result : Ending) (left : Leaves_so out opened now) where
    built : result ≢ ending.Usage → ((file : List ℕ) → opened.image.rest ≡ Some file → IsRunAnswer age source file result) → ((program : List ℕ) → CreatesNothing (Some (run program image out age)) result → now.file.stage ≡ Unasked) → ((file : List ℕ) → opened.image.rest ≡ Some file → CreatesRun age source file result now.file.stage)
        → ((file : List ℕ) → opened.image.rest ≡ Some file → ReadsRun result age source file now.image now.file.stage) → (result ≡ ending.Done → now.file.stage ≡ Open) → (now.file.stage ≡ Open → (file : List ℕ) → opened.image.rest ≡ Some file → IfSome now.file.bytes (IsStoredRun result age source file now.image.rest))
        → ((file : List ℕ) → opened.image.rest ≡ Some file → NotedRun result age source file old.notes now.notes)
        → HasCauseIn (result ≡ ending.ReadFault) old.input_failures now.input_failures → HasCauseIn (result ≡ ending.WriteFault) old.output_failures now.output_failures → RunsOn source age image out result old now
    built taken verdict created begun reads written output notes read write = record {
      taken = taken;
      verdict = of_told (λ file. IsRunAnswer age source file result) verdict;
      image_name = λ asked. subst (λ (n : Option (List ℕ)). IsIfTold n (Some image)) (sym left.image.1) opens.named;
      file_name = left.named;
      created = created;
      begun = of_told (λ file. CreatesRun age source file result now.file.stage) begun;
      reads = of_told (λ file. ReadsRun result age source file now.image now.file.stage) reads;
      written = written;
      output = λ there. of_told (λ file. IfSome now.file.bytes (IsStoredRun result age source file now.image.rest)) (output there);
      notes = of_told (λ file. NotedRun result age source file old.notes now.notes) notes;
      files = subst (λ fs. OthersStay out fs now.files) opened_files left.others;
      files_stay = λ shut. left.stay shut ∙ opened_files;
      own = left.own;
      only = frame_only old now (then_frame old opened now opened_frame left.frame);
      read_fault = read;
      write_fault = write;
    }

  -- the file begins with a header that fits, where images or lines were taken
  begun_behind : (f : StreamFault) (created now : Outside) (file : List ℕ) → LeavesBehind kind m bits f (Some file) zeros created now → IsBegun q file
  begun_behind f created now file e =
      let t = told_parts e.taken.bytes e.half.image.rest file (sym e.taken.given) in
      let h = headed_images q.size bits e.taken.images e.taken.bytes t.0 e.taken.are e.taken.fit (let a = e.some in let b = e.taken.count_is in omega (arith, a, b)) in
      (h.0, subst (λ x. IsHeaded q.size bits x h.0) (sym t.2) h.1)

  begun_inside : (f : StreamFault) (created now : Outside) (file : List ℕ) → LeavesInside kind m bits f (Some file) zeros created now → IsBegun q file
  begun_inside f created now file e =
      let s = e.taken in
      let t = told_parts (s.bytes ++ (s.head ++ s.raster)) e.half.image.rest file (sym s.given) in
      let h = headed_taken q.size bits s.images s.bytes s.head s.raster t.0 e.header s.are s.fit s.reads e.fits in
      (h.0, subst (λ x. IsHeaded q.size bits x h.0) (sym t.2) h.1)

  is_streamed : (p : Typing) → IsAcceptedAt source age p → (file : List ℕ) → IsBegun q file → IsStreamed p file
  is_streamed p a file begun = let same = same_program one_program one_rounds source age c from p a in subst (λ (x : Typing). IsStreamed x file) same (one, begun)

  -- what holds of this program on a stream
  on_stream : (is : Typing → Type 0) → is q → OnStream source age is
  on_stream is h p a one_p = subst is (same_program one_program one_rounds source age c from p a) h

  created_by_fault : (f : FileFault) (now : Outside) (file : List ℕ) → opened.image.rest ≡ Some file → LeavesEarly kind m bits (ImageFails f) out zeros opened now → CreatesRun age source file (ending.Image (File f)) now.file.stage
  created_by_fault f now file told (at_start h only) =
      let stage : now.file.stage ≡ Unasked = ap (λ (o : Outside). o.file.stage) only ∙ closed in
      let t = told_parts h.read now.image.rest file (sym h.given ∙ told) in
      record {
        streamed = λ p a is.
            let same = same_program one_program one_rounds source age c from p a in
            let begun : IsBegun q file = subst (λ (x : Typing). IsBegun x file) (sym same) is.1 in
            absurd (h.none t.0 t.1 begun.0 (subst (λ x. IsHeaded q.size bits x begun.0) t.2 begun.1));
        whole = λ p a is. stage;
      }
  created_by_fault f now file told (behind created creates e) =
      let stage = (left_half out opened closed created e.half now _ _ creates e.taken.shows.gained e.only).0 in
      record { streamed = λ p a is. stage; whole = λ p a is. absurd (is (is_streamed p a file (begun_behind (ImageFails f) created now file (subst (λ all. LeavesBehind kind m bits (ImageFails f) all zeros created now) told e)))) }
  created_by_fault f now file told (inside created creates e) =
      let stage = (left_half out opened closed created e.half now _ _ creates e.taken.shows.gained e.only).0 in
      record { streamed = λ p a is. stage; whole = λ p a is. absurd (is (is_streamed p a file (begun_inside (ImageFails f) created now file (subst (λ all. LeavesInside kind m bits (ImageFails f) all zeros created now) told e)))) }

  created_by_read : (now : Outside) (file : List ℕ) → opened.image.rest ≡ Some file → LeavesEarly kind m bits Read out zeros opened now → CreatesRun age source file ending.ReadFault now.file.stage
  created_by_read now file told (at_start h only) = λ asked. absurd (asked (ap (λ (o : Outside). o.file.stage) only ∙ closed))
  created_by_read now file told (behind created creates e) = λ asked. (q, accepted, (one, begun_behind Read created now file (subst (λ all. LeavesBehind kind m bits Read all zeros created now) told e)))
  created_by_read now file told (inside created creates e) = λ asked. (q, accepted, (one, begun_inside Read created now file (subst (λ all. LeavesInside kind m bits Read all zeros created now) told e)))

  reads_by_read : (now : Outside) (file : List ℕ) → opened.image.rest ≡ Some file → LeavesEarly kind m bits Read out zeros opened now → ReadsRun ending.ReadFault age source file now.image now.file.stage
  reads_by_read now file told e = record {
    unopened = λ shut. absurd (shut ((left_early out opened closed kind m bits Read zeros now e).image.0 ∙ opens.stage));
    several = λ p a no. absurd (no (subst IsOnePort (same_program one_program one_rounds source age c from p a) one));
    streamed = λ there. on_stream (λ p. CreatesAtFailure p file now.image.rest now.file.stage) (failure_reads q m zeros laws file out opened now told closed e);
  }

  begun_by_write : (now : Outside) (file : List ℕ) → opened.image.rest ≡ Some file → StreamsToWrite kind m bits late out zeros opened now → IsBegun q file
  begun_by_write now file told (write_first header before takes fits only same f) =
      let t = told_parts takes.read before.image.rest file (sym takes.given ∙ told) in
      (header, subst (λ x. IsHeaded q.size bits x header) (sym t.2) (headed_line q.size bits takes.read t.0 header takes.reads fits))
  begun_by_write now file told (write_inside created creates e) =
      let s = e.taken in
      let t = told_parts (s.bytes ++ (s.head ++ s.raster)) e.half.image.rest file (sym s.given ∙ told) in
      let h = headed_taken q.size bits s.images s.bytes s.head s.raster t.0 e.header s.are s.fit s.reads e.fits in
      (h.0, subst (λ x. IsHeaded q.size bits x h.0) (sym t.2) h.1)
  begun_by_write now file told (write_behind created creates e) =
      let t = told_parts e.bytes now.image.rest file (sym e.given ∙ told) in
      let h = headed_images q.size bits e.images e.bytes t.0 e.are e.fit e.some in
      (h.0, subst (λ x. IsHeaded q.size bits x h.0) (sym t.2) h.1)

  -- a pair of what holds of the program
  of_stream : (is : Typing → ℕ → Type 0) → is q late → OfStream source age is
  of_stream is h = record { compiled = c; from = from; one = one; holds = h }

  stored_by : (P Q : List ℕ → Type 0) (b : Option (List ℕ)) → ((x : List ℕ) → P x → Q x) → IfSome b P → IfSome b Q
  stored_by P Q None f h = tt
  stored_by P Q (Some x) f h = f x h

  runs_done : (now : Outside) → LeavesAll kind m bits late out zeros opened now → HasCauseIn (ending.Done ≡ ending.ReadFault) old.input_failures now.input_failures → HasCauseIn (ending.Done ≡ ending.WriteFault) old.output_failures now.output_failures → RunsOn source age image out ending.Done old now
  runs_done now e read write =
      let l = left_all out opened closed kind m bits late zeros now e in
      let notes_same : opened.notes ≡ old.notes = ap (λ (o : Outside). o.notes) opens.only in
      built now ending.Done l.1 (λ x. absurd (let f : ⊥ = cc in f))
      (λ file told. record { program = q; rounds = rounds_of_images e.images; accepted = accepted; fits = record { within = tt; holds = fits file told } })
      (λ program x. absurd x) (λ file told. tt) (λ file told. on_stream (λ p. now.image.rest ≡ Some []) (done_reads q m zeros laws file out opened now told late e)) (λ x. l.0)
      (λ there file told. stored_by (λ bytes. bytes ≡ output_file q (rounds_of_images e.images)) (IsStoredRun ending.Done age source file now.image.rest) now.file.bytes
      (λ bytes h. of_pair one_program one_rounds source age c from file (rounds_of_images e.images) (fits file told) some_inputs (λ p rounds. bytes ≡ output_file p rounds) h) (file_done source age c from one picture_law raster_law file out opened now told e tall wide))
      (λ file told. of_pair one_program one_rounds source age c from file (rounds_of_images e.images) (fits file told) some_inputs (λ p rounds. NotesRun source age p rounds old.notes now.notes)
      (subst (λ (b : Option (List (Bool × ℕ))). NotesRun source age q (rounds_of_images e.images) b now.notes) notes_same (notes_done source age c from one picture_law raster_law file out opened now told e tall wide notes_law))) read write
    where
      fits : (file : List ℕ) → opened.image.rest ≡ Some file → FitsFile (ports q) file (rounds_of_images e.images)
      fits file told = whole_fits source age c from one picture_law raster_law file out opened now told e tall wide

  runs_fault : (f : FileFault) (now : Outside) → StopsAtFault kind m bits f out zeros opened now → HasCauseIn (ending.Image (File f) ≡ ending.ReadFault) old.input_failures now.input_failures
      → HasCauseIn (ending.Image (File f) ≡ ending.WriteFault) old.output_failures now.output_failures → RunsOn source age image out (ending.Image (File f)) old now
  runs_fault f now e read write =
      built now (ending.Image (File f)) (left_early out opened closed kind m bits (ImageFails f) zeros now e.leaves) (λ x. absurd (let g : ⊥ = cc in g))
      (λ file told. record { program = q; accepted = accepted; unfit = (tt, subst (λ (x : Ports). IsFault x file f) (sym (ports_one source age c from one)) (e.first file told)) })
      (λ program x. absurd x) (λ file told. created_by_fault f now file told e.leaves)
      (λ file told. on_stream (λ p. (samples : List ℕ) × ReadsToFault p file now.image.rest samples) (fault_reads q m zeros laws file out opened now told f e.leaves)) (λ x. absurd (let g : ⊥ = cc in g))
      (λ there file told. stored_by (LeavesAtFault q late file now.image.rest) (IsStoredRun (ending.Image (File f)) age source file now.image.rest) now.file.bytes (λ bytes h. of_stream (λ p l. LeavesAtFault p l file now.image.rest bytes) h)
      (stored_fault q m zeros late shows_law long wide laws file out opened now told closed there f e.leaves)) (λ file told. tt) read write

  runs_read : (now : Outside) → LeavesEarly kind m bits Read out zeros opened now → HasCauseIn (ending.ReadFault ≡ ending.ReadFault) old.input_failures now.input_failures → HasCauseIn (ending.ReadFault ≡ ending.WriteFault) old.output_failures now.output_failures → RunsOn source age image out ending.ReadFault old now
  runs_read now e read write =
      built now ending.ReadFault (left_early out opened closed kind m bits Read zeros now e) (λ x. absurd (let g : ⊥ = cc in g)) (λ file told. tt) (λ program x. absurd x) (λ file told. created_by_read now file told e) (λ file told. reads_by_read now file told e) (λ x. absurd (let g : ⊥ = cc in g))
      (λ there file told. stored_by (LeavesAtRead q late file now.image.rest) (IsStoredRun ending.ReadFault age source file now.image.rest) now.file.bytes (λ bytes h. of_stream (λ p l. LeavesAtRead p l file now.image.rest bytes) h)
      (stored_read q m zeros late shows_law long wide laws file out opened now told closed there e)) (λ file told. tt) read write

  runs_write : (now : Outside) → StreamsToWrite kind m bits late out zeros opened now → HasCauseIn (ending.WriteFault ≡ ending.ReadFault) old.input_failures now.input_failures → HasCauseIn (ending.WriteFault ≡ ending.WriteFault) old.output_failures now.output_failures → RunsOn source age image out ending.WriteFault old now
  runs_write now e read write =
      built now ending.WriteFault (left_write out opened closed kind m bits late zeros now e) (λ x. absurd (let g : ⊥ = cc in g))
      (λ file told. record { program = q; accepted = accepted; begun = λ is. begun_by_write now file told e; whole = λ is. absurd (is one) }) (λ program x. absurd x) (λ file told. tt) (λ file told. λ stage. on_stream (λ p. ReadsFirst p file now.image.rest) (write_reads q m zeros laws file out opened now told late e stage)) (λ x. absurd (let g : ⊥ = cc in g))
      (λ there file told. stored_by (LeavesAtWrite q late file now.image.rest) (IsStoredRun ending.WriteFault age source file now.image.rest) now.file.bytes (λ bytes h. by_lines (of_stream (λ p l. LeavesAtWrite p l file now.image.rest bytes) h))
      (stored_write q m zeros late shows_law long wide laws file out opened now told closed there e)) (λ file told. tt) read write

  pub runs_opened : (now : Outside) (result : Ending) → StreamEnds kind m bits late out zeros opened now result → HasCauseIn (result ≡ ending.ReadFault) old.input_failures now.input_failures → HasCauseIn (result ≡ ending.WriteFault) old.output_failures now.output_failures → RunsOn source age image out result old now
  runs_opened now ending.Done e read write = runs_done now e read write
  runs_opened now (ending.Image (File f)) e read write = runs_fault f now e read write
  runs_opened now (ending.Image TooLong) e read write = absurd e
  runs_opened now ending.ReadFault e read write = runs_read now e read write
  runs_opened now ending.WriteFault e read write = runs_write now e read write
  runs_opened now ending.Usage e read write = absurd e
  runs_opened now (ending.Source f) e read write = absurd e
  runs_opened now (ending.Verilog f) e read write = absurd e
  runs_opened now (ending.Stopped f) e read write = absurd e
  runs_opened now (ending.Rejected f) e read write = absurd e
  runs_opened now (ending.Unable f) e read write = absurd e
  runs_opened now ending.Memory e read write = absurd e
