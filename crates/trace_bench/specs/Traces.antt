-- What File has gained at the end of a traced run.
use Rattle.std.specs.Prelude.{◌≡◌, ℕ, ◌+◌, ◌-◌, ◌≤◌, ℤ, List, [], ◌∷◌, ◌++◌, length, map, take}
use Rattle.dk_desk.specs.declared.OutSlot.TheVariants.{File}
use Rattle.dk_desk.specs.Outside.{Outside}
use Rattle.dk_desk.specs.Calls.{AddsToFile, WritesFront}
use Rattle.wiring.specs.Snapshot.{Contents, Snapshot}
use Rattle.wiring.specs.Runs.{Runs}
use Rattle.netlist.specs.Names.{NamedNetlist}
use Rattle.cycle_sim.specs.Slots.{all_values, all_widths}
use Rattle.cycle_sim.specs.Ports.{din_widths}
use Rattle.cycle_sim.specs.Filled.{filled_contents}
use Rattle.vcd_trace.specs.Layout.{clock_lines, text_of}
use Rattle.vcd_trace.specs.Header.{header_text, trace_text}
use Rattle.vcd_trace.specs.Replayed.{IsTraceOf}
use Rattle.stimulus.specs.declared.drive.Drive.{Drive}
use Rattle.stimulus.specs.declared.stop.Stop.TheVariants.{Index, Count}
use Rattle.stimulus.specs.Stimulus.{Rounds, stimulus}
use Rattle.stimulus.specs.Showing.{IsRun}
use Rattle.stimulus.specs.Stops.{StopsAtClock}
use Rattle.trace_bench.specs.declared.ending.TraceEnd.{TraceEnd}
use Rattle.trace_bench.specs.declared.ending.TraceEnd.TheVariants.{Stopped, Write}

-- the values of the variables before the edge of each clock
abbrev pub values_of : List Snapshot → List (List ℕ)
values_of shots = map all_values shots

abbrev pub but_last : List (List ℕ) → List (List ℕ)
but_last lines = take (length lines - 1) lines

-- the trace of these clocks without its last line, the time after them
abbrev pub trace_front : NamedNetlist → List Snapshot → List ℕ
trace_front m shots = header_text m ++ text_of (but_last (clock_lines (all_widths m.netlist) (values_of shots)))

-- nothing has changed but the bytes of File and the count of failed outputs
abbrev pub AddsOnly : Outside → Outside → Type 0
AddsOnly old new = new ≡ record old { file = record old.file { bytes = new.file.bytes }; files = new.files; output_failures = new.output_failures }

-- The run goes to its end, and File has gained its trace, which `replay` of vcd_trace reads back to these clocks.
pub record TracesRun (m : NamedNetlist) (drive : Drive) (rounds : Rounds) (old new : Outside) : Type 0 where
  pub shots : List Snapshot
  pub run : IsRun m.netlist drive rounds shots
  pub trace : IsTraceOf m (values_of shots) (trace_text m (values_of shots))
  pub gained : AddsToFile old (trace_text m (values_of shots)) new

-- The run stops at this clock, and File has gained the trace of the clocks before it, but no time after them.
pub record TracesToStop (m : NamedNetlist) (drive : Drive) (rounds : Rounds) (clock : ℤ) (array index : ℕ) (old new : Outside) : Type 0 where
  pub stop : StopsAtClock m.netlist drive rounds clock array index
  pub gained : AddsToFile old (trace_front m stop.shots) new

-- A write failed before the end of a text, and after the whole of this front of it.
pub record FailsBehind (front text : List ℕ) (old new : Outside) : Type 0 where
  pub write : WritesFront File old text new
  pub behind : length front ≤ write.count

-- The clocks of these snapshots are those that were made, and all before the last of them have their lines.
pub record FailsInClock (m : NamedNetlist) (drive : Drive) (rounds : Rounds) (old new : Outside) : Type 0 where
  pub shots : List Snapshot
  pub last : Snapshot
  pub to : Contents
  pub runs : Runs m.netlist (filled_contents drive.fill m.netlist) (take (length shots + 1) (stimulus drive (din_widths m.netlist) rounds)) (shots ++ last ∷ []) to
  pub fails : FailsBehind (trace_front m shots) (trace_front m (shots ++ last ∷ [])) old new

-- The run goes to its end, and all of its clocks have their lines.
pub record FailsAtEnd (m : NamedNetlist) (drive : Drive) (rounds : Rounds) (old new : Outside) : Type 0 where
  pub shots : List Snapshot
  pub run : IsRun m.netlist drive rounds shots
  pub fails : FailsBehind (trace_front m shots) (trace_text m (values_of shots)) old new

-- where a write failed: in the header, before any clock; in the lines of a clock; or in the last line
pub data FailsTracing (m : NamedNetlist) (drive : Drive) (rounds : Rounds) (old new : Outside) : Type 0 where
  in_header : WritesFront File old (header_text m) new → FailsTracing m drive rounds old new
  in_clock : FailsInClock m drive rounds old new → FailsTracing m drive rounds old new
  at_end : FailsAtEnd m drive rounds old new → FailsTracing m drive rounds old new

-- why there is no whole trace, and what File has gained
abbrev pub EndsTrace : NamedNetlist → Drive → Rounds → TraceEnd → (old new : Outside) → Type 0
EndsTrace m drive rounds (Stopped (Index clock array index)) old new = TracesToStop m drive rounds clock array index old new
EndsTrace m drive rounds (Stopped (Count shown wanted)) old new = ⊥
EndsTrace m drive rounds Write old new = FailsTracing m drive rounds old new
