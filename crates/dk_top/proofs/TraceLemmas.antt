-- What `trace` judges and writes, from what is traced.
use Rattle.std.proofs.Common.{◌≡◌, ℕ, ℤ, List, [], ◌∷◌, ◌++◌, take, Option, None, Some, IfSome, refl, ap, sym, subst, arith}
use Rattle.dk_base.specs.Frames.{Size}
use Rattle.dk_desk.specs.declared.Stage.{Stage}
use Rattle.dk_desk.specs.Outside.{Outside}
use Rattle.dk_desk.specs.Calls.{IsIfTold, grown}
use Rattle.wiring.specs.Runs.{RunStops}
use Rattle.cycle_sim.specs.Ports.{din_widths}
use Rattle.cycle_sim.specs.Filled.{filled_contents}
use Rattle.wiring.specs.Snapshot.{HasOneSnapshot, HasOneNext}
use Rattle.netlist.specs.Names.{NamedNetlist}
use Rattle.vcd_trace.specs.Header.{header_text, trace_text}
use Rattle.pgm_codec.specs.Images.{Image}
use Rattle.pgm_rounds.specs.declared.round.Round.{Round}
use Rattle.stimulus.specs.declared.drive.Drive.{Drive}
use Rattle.stimulus.specs.declared.stop.Stop.{Stop}
use Rattle.stimulus.specs.declared.stop.Stop.TheVariants.{Index, Count}
use Rattle.stimulus.specs.Stimulus.{Rounds, stimulus}
use Rattle.stimulus.specs.Given.{rounds_of}
use Rattle.stimulus.specs.Inputs.{samples_of}
use Rattle.stimulus.specs.Showing.{IsRun}
use Rattle.stimulus.specs.Stops.{StopsAtClock}
use Rattle.trace_bench.specs.declared.ending.TraceEnd.{TraceEnd}
use Rattle.trace_bench.specs.declared.ending.TraceEnd.TheVariants.{Stopped, Write}
use Rattle.trace_bench.specs.Traces.{in_header as fails_in_header, in_clock as fails_in_clock, at_end as fails_at_end, values_of, trace_front, TracesRun, FailsTracing, FailsBehind, EndsTrace}
use Rattle.dk_endings.specs.declared.ending.Ending.{Ending}
use Rattle.dk_endings.specs.declared.ending.Ending.TheVariants as ending
use Rattle.dk_top.specs.Tracing.{in_header, in_clock, at_end, IsInOrder, AreInOrder, CanBeTraced, IsTraced, HoldsTrace, HoldsToStop, HoldsCut, IsCutBehind, IsCutTrace, IsTraceAnswer, IsStoredTrace, CreatesTrace}
use Rattle.dk_words.specs.declared.command.PowerUp.{PowerUp}
use Rattle.dk_words.specs.declared.command.PowerUp.TheVariants.{Zeros}
use Rattle.dk_top.specs.Command.{trace}
use Rattle.dk_top.specs.Simulation.{drive_of}
use Rattle.dk_top.specs.State.{OthersStay, HoldsFile, CreatesBy}
use Rattle.dk_top.specs.Simulating.{IsInputEnding, IsSimInput}
use Rattle.dk_top.specs.Meaning.{Files, bytes_of}
use Rattle.dk_top.proofs.SimReads.{samples_same, stopped_of}
use Rattle.dk_top.proofs.FileLemmas.{own_added, own_front}

-- what a file that was empty holds after bytes were added
pub holds_added : (mid new : Option (List ℕ)) (bytes : List ℕ) (R : List ℕ → Type 0) → IsIfTold mid (Some []) → IsIfTold new (grown mid bytes) → R bytes → IfSome new R
holds_added mid None bytes R empty grows h = tt
holds_added None (Some stored) bytes R empty grows h = absurd (let f : ⊥ = cc in f)
holds_added (Some before) (Some stored) bytes R empty grows h =
    let none_before : before ≡ [] = cc in
    let is : bytes ≡ stored = cc (ap (λ b. b ++ bytes) none_before) in
    subst R is h

module _ (drive : Drive) (m : NamedNetlist) (size : Size) (rounds : List Round) (valuation : HasOneSnapshot m.netlist) (next : HasOneNext m.netlist) (t file : List ℕ) (given : IsSimInput drive.hold t file m size rounds) where
  abbrev images : List (List Image)
  images = given.input.images

  in_order_of : IsInOrder drive t file m images
  in_order_of = record { made = given.made; one_valuation = valuation; one_next = next; size = size; fits = given.input.fits }

  of_rounds : (P : Rounds → Type 0) → P (rounds_of rounds) → P (samples_of images)
  of_rounds P h = subst P (samples_same rounds images given.input.frames) h

  pub are_in_order : AreInOrder drive t file
  are_in_order = record { m = m; images = images; in_order = in_order_of }

  traced_of : (old new : Outside) (r : TracesRun m drive (rounds_of rounds) old new) → IsTraced drive t file m r.shots
  traced_of old new r = record { images = images; in_order = in_order_of; run = of_rounds (λ rs. IsRun m.netlist drive rs r.shots) r.run }

  pub can_be_traced : (old new : Outside) → TracesRun m drive (rounds_of rounds) old new → CanBeTraced drive t file
  can_be_traced old new r = (m, r.shots, traced_of old new r)

  pub trace_stops : (stop : Stop) (old new : Outside) → EndsTrace m drive (rounds_of rounds) (Stopped stop) old new → IsTraceAnswer drive t file (ending.Stopped stop)
  trace_stops (Index clock array index) old new ends = stopped_of drive m size rounds (Index clock array index) valuation next ends.stop t file given
  trace_stops (Count shown wanted) old new ends = absurd ends

  pub whole_trace : (old new : Outside) (r : TracesRun m drive (rounds_of rounds) old new) → HoldsTrace drive t file (trace_text m (values_of r.shots))
  whole_trace old new r = record { m = m; shots = r.shots; traced = traced_of old new r; holds = refl }

  pub stopped_trace : (clock : ℤ) (array index : ℕ) (stop : StopsAtClock m.netlist drive (rounds_of rounds) clock array index) → HoldsToStop drive t file clock array index (trace_front m stop.shots)
  stopped_trace clock array index stop = record {
    m = m;
    images = images;
    in_order = in_order_of;
    stop = record {
      shots = stop.shots;
      stops = of_rounds (λ rs. RunStops m.netlist (filled_contents drive.fill m.netlist) (stimulus drive (din_widths m.netlist) rs) stop.shots array index) stop.stops;
      clock_is = stop.clock_is;
    };
    holds = refl;
  }

  pub cut_of : (bytes : List ℕ) → IsCutTrace m drive (rounds_of rounds) bytes → HoldsCut drive t file bytes
  cut_of bytes h = record { m = m; images = images; in_order = in_order_of; cut = of_rounds (λ rs. IsCutTrace m drive rs bytes) h }

-- where a write failed, the bytes that it left are a cut trace
cut_behind : (front text : List ℕ) (old new : Outside) (f : FailsBehind front text old new) → IsCutBehind front text (take f.write.count text)
cut_behind front text old new f = record { count = f.write.count; behind = f.behind; within = f.write.within; holds = refl }

module _ (drive : Drive) (m : NamedNetlist) (size : Size) (rounds : List Round) (valuation : HasOneSnapshot m.netlist) (next : HasOneNext m.netlist) (old new : Outside) (empty : IsIfTold old.file.bytes (Some [])) where
  pub stored_run : TracesRun m drive (rounds_of rounds) old new → IfSome new.file.bytes (λ b. (t i : List ℕ) → IsSimInput drive.hold t i m size rounds → HoldsTrace drive t i b)
  stored_run r = holds_added old.file.bytes new.file.bytes (trace_text m (values_of r.shots)) (λ b. (t i : List ℕ) → IsSimInput drive.hold t i m size rounds → HoldsTrace drive t i b) empty r.gained.grows
      (λ t i given. whole_trace drive m size rounds valuation next t i given old new r)

  cut_stored : (bytes : List ℕ) → IsIfTold new.file.bytes (grown old.file.bytes bytes) → IsCutTrace m drive (rounds_of rounds) bytes → IfSome new.file.bytes (λ b. (t i : List ℕ) → IsSimInput drive.hold t i m size rounds → HoldsCut drive t i b)
  cut_stored bytes grows h = holds_added old.file.bytes new.file.bytes bytes (λ b. (t i : List ℕ) → IsSimInput drive.hold t i m size rounds → HoldsCut drive t i b) empty grows
      (λ t i given. cut_of drive m size rounds valuation next t i given bytes h)

  pub stored_cut : FailsTracing m drive (rounds_of rounds) old new → IfSome new.file.bytes (λ b. (t i : List ℕ) → IsSimInput drive.hold t i m size rounds → HoldsCut drive t i b)
  stored_cut (fails_in_header w) = cut_stored (take w.count (header_text m)) w.adds.grows (in_header (record { count = w.count; behind = omega arith; within = w.within; holds = refl }))
  stored_cut (fails_in_clock f) =
      let text = trace_front m (f.shots ++ f.last ∷ []) in
      cut_stored (take f.fails.write.count text) f.fails.write.adds.grows (in_clock (record { shots = f.shots; last = f.last; to = f.to; runs = f.runs; cut = cut_behind (trace_front m f.shots) text old new f.fails }))
  stored_cut (fails_at_end f) =
      let text = trace_text m (values_of f.shots) in
      cut_stored (take f.fails.write.count text) f.fails.write.adds.grows (at_end (record { shots = f.shots; run = f.run; cut = cut_behind (trace_front m f.shots) text old new f.fails }))

  pub stored_stop : (stop : Stop) → EndsTrace m drive (rounds_of rounds) (Stopped stop) old new → IfSome new.file.bytes (λ b. (t i : List ℕ) → IsSimInput drive.hold t i m size rounds → IsStoredTrace (ending.Stopped stop) drive t i b)
  stored_stop (Index clock array index) ends = holds_added old.file.bytes new.file.bytes (trace_front m ends.stop.shots) (λ b. (t i : List ℕ) → IsSimInput drive.hold t i m size rounds → HoldsToStop drive t i clock array index b) empty ends.gained.grows
      (λ t i given. stopped_trace drive m size rounds valuation next t i given clock array index ends.stop)
  stored_stop (Count shown wanted) ends = absurd ends

-- the created file has the bytes of File after the whole trace
pub own_run : (m : NamedNetlist) (drive : Drive) (rounds : Rounds) (old new : Outside) → HoldsFile old → TracesRun m drive rounds old new → HoldsFile new
own_run m drive rounds old new holds run = own_added old new (trace_text m (values_of run.shots)) holds run.gained

own_cut : (m : NamedNetlist) (drive : Drive) (rounds : Rounds) (old new : Outside) → HoldsFile old → FailsTracing m drive rounds old new → HoldsFile new
own_cut m drive rounds old new holds (fails_in_header w) = own_front old new (header_text m) holds w
own_cut m drive rounds old new holds (fails_in_clock f) = own_front old new (trace_front m (f.shots ++ f.last ∷ [])) holds f.fails.write
own_cut m drive rounds old new holds (fails_at_end f) = own_front old new (trace_text m (values_of f.shots)) holds f.fails.write

-- and where there is no whole trace
pub own_end : (m : NamedNetlist) (drive : Drive) (rounds : Rounds) (end : TraceEnd) (old new : Outside) → HoldsFile old → EndsTrace m drive rounds end old new → HoldsFile new
own_end m drive rounds (Stopped (Index clock array index)) old new holds ends = own_added old new (trace_front m ends.stop.shots) holds ends.gained
own_end m drive rounds (Stopped (Count shown wanted)) old new holds ends = absurd ends
own_end m drive rounds Write old new holds ends = own_cut m drive rounds old new holds ends

-- what is stored of any input of the drive's is stored of the files
pub stored_trace : (told : Option Files) (verilog image : List ℕ) (d drive : Drive) (m : NamedNetlist) (size : Size) (rounds : List Round) (bytes : Option (List ℕ)) (result : Ending) → d ≡ drive → IfSome told (λ f. IsSimInput drive.hold (bytes_of f verilog) (bytes_of f image) m size rounds)
    → IfSome bytes (λ b. (t i : List ℕ) → IsSimInput d.hold t i m size rounds → IsStoredTrace result d t i b) → IfSome told (λ f. IfSome bytes (λ b. IsStoredTrace result drive (bytes_of f verilog) (bytes_of f image) b))
stored_trace None verilog image d drive m size rounds bytes result e given h = tt
stored_trace (Some f) verilog image d drive m size rounds None result e given h = tt
stored_trace (Some f) verilog image d drive m size rounds (Some b) result e given h =
    subst (λ x. IsStoredTrace result x (bytes_of f verilog) (bytes_of f image) b) e (h (bytes_of f verilog) (bytes_of f image) (subst (λ (x : Drive). IsSimInput x.hold (bytes_of f verilog) (bytes_of f image) m size rounds) (sym e) given))

-- the files but the created one are those before the inputs were read
pub stay_others : (created : List ℕ) (old mid new : Option Files) → mid ≡ old → OthersStay created mid new → IfSome new (λ after. IfSome old (λ before. (name : List ℕ) → ¬ (Some created ≡ Some name) → after name ≡ before name))
stay_others created old mid None e h = tt
stay_others created None mid (Some after) e h = tt
stay_others created (Some before) mid (Some after) e h = λ name differs.
    let stay : OthersStay created (Some before) (Some after) = subst (λ o. OthersStay created o (Some after)) e h in
    stay name (λ same. differs (ap Some (sym same)))

-- what `trace` has created where the text or the file is not in order
unread_creates : (drive : Drive) (t file : List ℕ) (stage : Stage) (e : Ending) → IsInputEnding drive t file e → CreatesTrace e stage
unread_creates drive t file stage (ending.Stopped stop) h = absurd h
unread_creates drive t file stage ending.Done h = tt
unread_creates drive t file stage ending.Usage h = tt
unread_creates drive t file stage ending.ReadFault h = tt
unread_creates drive t file stage ending.WriteFault h = tt
unread_creates drive t file stage ending.Memory h = tt
unread_creates drive t file stage (ending.Source f) h = tt
unread_creates drive t file stage (ending.Verilog f) h = tt
unread_creates drive t file stage (ending.Image f) h = tt
unread_creates drive t file stage (ending.Rejected f) h = tt
unread_creates drive t file stage (ending.Unable f) h = tt

pub unread_begun : (told : Option Files) (verilog image vcd : List ℕ) (clocks : ℕ) (e : Ending) (stage : Stage) → IfSome told (λ f. (n : ℕ) (p : PowerUp) → IsInputEnding (drive_of n p None) (bytes_of f verilog) (bytes_of f image) e)
    → IfSome told (λ f. CreatesBy (trace verilog clocks image vcd) e f stage)
unread_begun None verilog image vcd clocks e stage h = tt
unread_begun (Some f) verilog image vcd clocks e stage h = unread_creates (drive_of clocks Zeros None) (bytes_of f verilog) (bytes_of f image) stage e (h clocks Zeros)

-- and once it is driven
pub driven_begun : (told : Option Files) (verilog image vcd : List ℕ) (clocks : ℕ) (e : Ending) (stage : Stage) → CreatesTrace e stage → IfSome told (λ f. CreatesBy (trace verilog clocks image vcd) e f stage)
driven_begun None verilog image vcd clocks e stage h = tt
driven_begun (Some f) verilog image vcd clocks e stage h = h
