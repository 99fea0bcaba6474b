-- Used by private functions only.
-- Clocks that are traced one after another.
use Rattle.std.specs.Prelude.{◌≡◌, ℕ, ◌+◌, ◌≤◌, ℤ, pos, ◌-ℤ◌, List, [], ◌∷◌, ◌++◌, length, take, ◌<◌, None, Result, Err, OnOk, IfErr, OnErr, IsErr}
use Rattle.std.specs.List.{AllByRecursion, flat_map, range_with_len}
use Rattle.dk_base.specs.Frames.{Size, area as area_of}
use Rattle.dk_desk.specs.declared.OutSlot.TheVariants.{File}
use Rattle.dk_desk.specs.declared.Stage.TheVariants.{Open}
use Rattle.dk_desk.specs.Outside.{Outside}
use Rattle.dk_desk.specs.Calls.{Adds, AddsToFile, HasCauseIn, WritesFront}
use Rattle.wiring.specs.Netlist.{Netlist}
use Rattle.wiring.specs.Snapshot.{Contents, Snapshot}
use Rattle.wiring.specs.Clock.{Clock}
use Rattle.wiring.specs.Runs.{Runs, RunStops}
use Rattle.cycle_sim.specs.Ports.{din_widths}
use Rattle.pgm_rounds.specs.declared.round.Round.{Round}
use Rattle.stimulus.specs.Stimulus.{clocks_at}
use Rattle.stimulus.specs.Given.{rounds_of, AreBenchFrames}
use Rattle.vcd_trace.specs.Layout.{AreValues}
use Rattle.vcd_trace.specs.Told.{Told, clock_text}
use Rattle.stimulus.specs.declared.stop.Stop.TheVariants.{Index, Count}
use Rattle.trace_bench.specs.declared.ending.TraceEnd.{TraceEnd}
use Rattle.trace_bench.specs.declared.ending.TraceEnd.TheVariants.{Stopped, Write}
use Rattle.trace_bench.specs.declared.tracer.Tracer.{Tracer}
use Rattle.trace_bench.specs.Tracers.{IsTracing}
use Rattle.trace_bench.specs.Traces.{values_of, FailsBehind}

-- the trace with one clock more
abbrev pub told_more : Told → List ℕ → Told
told_more t values = record { widths = t.widths; values = values; time = t.time + 1 }

abbrev pub told_after : Told → List (List ℕ) → Told
told_after t [] = t
told_after t (values ∷ clocks) = told_after (told_more t values) clocks

-- the texts of clocks, one after another
abbrev pub clocks_text : Told → List (List ℕ) → List ℕ
clocks_text t [] = []
clocks_text t (values ∷ clocks) = clock_text t values ++ clocks_text (told_more t values) clocks

-- The module goes through these clocks, the values of each fit the variables, and File gains their texts.
pub record Goes (m : Netlist) (clocks : List Clock) (from to : Contents) (told now_told : Told) (before now : Outside) : Type 0 where
  pub shots : List Snapshot
  pub runs : Runs m from clocks shots to
  pub fit : AllByRecursion (AreValues told.widths) (values_of shots)
  pub told_is : now_told ≡ told_after told (values_of shots)
  pub adds : AddsToFile before (clocks_text told (values_of shots)) now

-- One of these clocks stops, and File has gained the texts of those before it.
pub record StopsIn (m : Netlist) (clocks : List Clock) (from : Contents) (told : Told) (clock : ℤ) (array index : ℕ) (before now : Outside) : Type 0 where
  pub shots : List Snapshot
  pub stops : RunStops m from clocks shots array index
  pub clock_is : clock ≡ pos (told.time + length shots) -ℤ pos 1
  pub adds : AddsToFile before (clocks_text told (values_of shots)) now

-- The text of one of these clocks can't be written.
pub record FailsIn (m : Netlist) (clocks : List Clock) (from : Contents) (told : Told) (before now : Outside) : Type 0 where
  pub shots : List Snapshot
  pub last : Snapshot
  pub to : Contents
  pub within : length shots + 1 ≤ length clocks
  pub runs : Runs m from (take (length shots + 1) clocks) (shots ++ last ∷ []) to
  pub fails : FailsBehind (clocks_text told (values_of shots)) (clocks_text told (values_of (shots ++ last ∷ []))) before now

abbrev pub EndsIn : Netlist → List Clock → Contents → Told → TraceEnd → (before now : Outside) → Type 0
EndsIn m clocks from told (Stopped (Index clock array index)) before now = StopsIn m clocks from told clock array index before now
EndsIn m clocks from told (Stopped (Count shown wanted)) before now = ⊥
EndsIn m clocks from told Write before now = FailsIn m clocks from told before now

-- Clocks can be traced: File is open, and the tracer keeps its invariant.
pub record CanTrace (t : Tracer) (o : Outside) : Type 0 where
  -- File is open
  pub opened : o.file.stage ≡ Open
  -- there is a place for each value, and room for the text of a clock
  pub tracing : IsTracing t

-- The dins of these widths have the pixels of rounds, whose frames have this many.
pub record HavePixels (widths : List ℕ) (rounds : List Round) (count : ℕ) : Type 0 where
  -- there is one at least
  pub area : 0 < count
  -- all frames are of one size
  pub frames : (size : Size) × AreBenchFrames widths size rounds × (count ≡ area_of size)

-- the clocks of a tracer, one for each of these pixels
abbrev pub pixel_clocks : Tracer → List Round → (count : ℕ) → List Clock
pixel_clocks t rounds count = flat_map (clocks_at None (din_widths t.sim.netlist) (rounds_of rounds)) (range_with_len 0 count)

-- The clocks of a tracer, of which each has its text in File, up to one that stops or can't be written.
pub record Traces (clocks : List Clock) (old new : Tracer) (before now : Outside) (result : Result (Unit {0}) TraceEnd) : Type 0 where
  -- the module is the same
  pub netlist : new.sim.netlist ≡ old.sim.netlist
  -- Ok: the tracer keeps its invariant
  pub tracing : OnOk result (IsTracing new)
  -- Ok: it went through all of them
  pub ok : OnOk result (Goes old.sim.netlist clocks old.sim.contents new.sim.contents old.trace new.trace before now)
  -- else this is why it did not
  pub end : IfErr result (λ e. EndsIn old.sim.netlist clocks old.sim.contents old.trace e before now)
  -- Write is answered only if a write failed
  pub cause : HasCauseIn (result ≡ Err Write) before.output_failures now.output_failures

-- This text was added to File, or its write failed.
pub record WritesText {T E : Type 0} (text : List ℕ) (before now : Outside) (result : Result T E) : Type 0 where
  -- Ok: all of it was added
  pub ok : OnOk result (Adds File before text now)
  -- else a front of it
  pub err : OnErr result (WritesFront File before text now)
  -- it fails only if a write failed
  pub cause : HasCauseIn (IsErr result) before.output_failures now.output_failures
