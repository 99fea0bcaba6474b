-- How a whole run is traced.
use Rattle.std.proofs.Common.{◌≡◌, ℕ, ◌+◌, List, [], ◌∷◌, ◌++◌, length, replicate, true, refl, ap, sym, subst, ◌∙◌, arith, append-nil, None, Option, pos, ◌-ℤ◌}
use Rattle.std.specs.List.{AllByRecursion, flat_map, range_with_len}
use Rattle.dk_desk.specs.declared.OutSlot.TheVariants.{File}
use Rattle.dk_desk.specs.Outside.{Outside}
use Rattle.dk_desk.specs.Calls.{AddsToFile, WritesFront}
use Rattle.dk_desk.proofs.DeskLemmas.{Adds-more}
use Rattle.wiring.specs.Netlist.{Netlist}
use Rattle.wiring.specs.Snapshot.{Contents}
use Rattle.wiring.specs.Clock.{Clock}
use Rattle.netlist.specs.Names.{NamedNetlist}
use Rattle.cycle_sim.specs.Slots.{all_widths}
use Rattle.cycle_sim.specs.Ports.{din_widths}
use Rattle.cycle_sim.specs.Filled.{filled_contents}
use Rattle.vcd_trace.specs.Layout.{AreValues, time_line, text_of}
use Rattle.vcd_trace.specs.Header.{header_text, trace_text}
use Rattle.vcd_trace.specs.Told.{Told, end_text}
use Rattle.vcd_trace.specs.Replayed.{IsTraceOf}
use Rattle.stimulus.specs.declared.drive.Drive.{Drive}
use Rattle.stimulus.specs.declared.stop.Stop.TheVariants.{Index, Count}
use Rattle.stimulus.specs.Stimulus.{Rounds, stimulus, reset_clock, clocks_at}
use Rattle.stimulus.proofs.Runs.{runs_length}
use Rattle.trace_bench.specs.declared.tracer.Tracer.{Tracer}
use Rattle.trace_bench.specs.declared.ending.TraceEnd.{TraceEnd}
use Rattle.trace_bench.specs.declared.ending.TraceEnd.TheVariants.{Stopped, Write}
use Rattle.trace_bench.specs.Traces.{values_of, trace_front, AddsOnly, FailsBehind, TracesRun, FailsTracing, in_header, in_clock, at_end, EndsTrace}
use Rattle.trace_bench.specs.Tracers.{IsTracer}
use Rattle.trace_bench.specs.Going.{clocks_text, Goes, EndsIn}
use Rattle.trace_bench.proofs.Texts.{time_after, values_count, front_told, whole_front}
use Rattle.trace_bench.proofs.Going.{fails_first, fails_later, goes_join, ends_later, ends_more}

module _ (m : NamedNetlist) (drive : Drive) (rounds : Rounds) (told : Told) (widths : told.widths ≡ all_widths m.netlist) (start : told.time ≡ 0) (old half : Outside) (head : AddsToFile old (header_text m) half) where
  abbrev from : Contents
  from = filled_contents drive.fill m.netlist

  abbrev all : List Clock
  all = stimulus drive (din_widths m.netlist) rounds

  -- the run ends early
  ends : (end : TraceEnd) (now : Outside) → EndsIn m.netlist all from told end half now → EndsTrace m drive rounds end old now
  ends (Stopped (Index clock array index)) now h = record {
    stop = record {
      shots = h.shots;
      stops = h.stops;
      clock_is = h.clock_is ∙ ap (λ n. pos n -ℤ pos 1) (let e : told.time + length h.shots ≡ length h.shots = omega (arith, start) in e);
    };
    gained = subst (λ z. AddsToFile old z now) (front_told m told h.shots widths start) (Adds-more File old half now (header_text m) (clocks_text told (values_of h.shots)) head h.adds);
  }
  ends (Stopped (Count shown wanted)) now h = absurd h
  ends Write now h = in_clock (record {
    shots = h.shots;
    last = h.last;
    to = h.to;
    runs = h.runs;
    fails = subst (λ z. FailsBehind z (trace_front m (h.shots ++ h.last ∷ [])) old now) (front_told m told h.shots widths start)
        (subst (λ z. FailsBehind (header_text m ++ clocks_text told (values_of h.shots)) z old now) (front_told m told (h.shots ++ h.last ∷ []) widths start)
        (fails_later old half now (header_text m) (clocks_text told (values_of h.shots)) (clocks_text told (values_of (h.shots ++ h.last ∷ []))) head h.fails));
  })

  module _ (to : Contents) (next : Told) (made now : Outside) (h : Goes m.netlist all from to told next half made) where
    front : AddsToFile old (trace_front m h.shots) made
    front = subst (λ z. AddsToFile old z made) (front_told m told h.shots widths start) (Adds-more File old half made (header_text m) (clocks_text told (values_of h.shots)) head h.adds)

    whole : trace_front m h.shots ++ end_text next ≡ trace_text m (values_of h.shots)
    whole =
        ap (λ n. trace_front m h.shots ++ text_of (time_line n ∷ []))
        (let e : next.time ≡ length h.shots = omega (arith, ap (λ (t : Told). t.time) h.told_is, time_after told (values_of h.shots), values_count h.shots, start) in e)
        ∙ sym (whole_front m h.shots)

    -- the text is the trace of these clocks, of which the reset clock is the first
    is_trace : IsTraceOf m (values_of h.shots) (trace_text m (values_of h.shots))
    is_trace = record {
      some = omega (arith, values_count h.shots, runs_length m.netlist all from to h.shots h.runs);
      fit = subst (λ ws. AllByRecursion (AreValues ws) (values_of h.shots)) widths h.fit;
      is = refl;
    }

    -- it goes to its end, and the last line is written
    goes_whole : AddsToFile made (end_text next) now → TracesRun m drive rounds old now
    goes_whole g = record {
      shots = h.shots;
      run = record { to = to; runs = h.runs };
      trace = is_trace;
      gained = subst (λ z. AddsToFile old z now) whole (Adds-more File old made now (trace_front m h.shots) (end_text next) front g);
    }

    -- or can't be
    fails_last : WritesFront File made (end_text next) now → FailsTracing m drive rounds old now
    fails_last g = at_end (record {
      shots = h.shots;
      run = record { to = to; runs = h.runs };
      fails = subst (λ z. FailsBehind z (trace_text m (values_of h.shots)) old now) (append-nil (trace_front m h.shots))
          (subst (λ z. FailsBehind (trace_front m h.shots ++ []) z old now) whole (fails_later old made now (trace_front m h.shots) [] (end_text next) front (fails_first made now (end_text next) g)));
    })

module _ (m : NamedNetlist) (drive : Drive) (rounds : Rounds) (hold : drive.hold ≡ None) (t : Tracer) (is : IsTracer m drive.fill t) (old half : Outside) (head : AddsToFile old t.header.items half) where
  abbrev ws : List ℕ
  ws = din_widths m.netlist

  abbrev begin : Contents
  begin = filled_contents drive.fill m.netlist

  abbrev first : List ℕ → List Clock
  first dins = record { reset = true; enable = true; dins = dins } ∷ []

  abbrev pixels : Netlist → List Clock
  pixels n = flat_map (clocks_at None (din_widths n) rounds) (range_with_len 0 drive.clocks)

  -- the clocks of a drive without held ones
  unheld : first (replicate (length ws) 0) ++ pixels m.netlist ≡ stimulus drive ws rounds
  unheld = ap (λ (h : Option ℕ). reset_clock (length ws) ∷ flat_map (clocks_at h ws rounds) (range_with_len 0 drive.clocks)) (sym hold)

  widths : t.trace.widths ≡ all_widths m.netlist
  widths = is.tracing.widths ∙ ap all_widths is.netlist

  start : t.trace.time ≡ 0
  start = is.tracing.made ∙ is.start

  header : AddsToFile old (header_text m) half
  header = subst (λ z. AddsToFile old z half) is.header head

  ends_all : (end : TraceEnd) (now : Outside) → EndsIn m.netlist (first (replicate (length ws) 0) ++ pixels m.netlist) begin t.trace end half now → EndsTrace m drive rounds end old now
  ends_all end now h = ends m drive rounds t.trace widths start old half header end now (subst (λ z. EndsIn m.netlist z begin t.trace end half now) unheld h)

  -- the reset clock ends it
  pub reset_ends : (end : TraceEnd) (now : Outside) → EndsIn t.sim.netlist (first t.dins.items) t.sim.contents t.trace end half now → EndsTrace m drive rounds end old now
  reset_ends end now h = ends_all end now (ends_more m.netlist (first (replicate (length ws) 0)) (pixels m.netlist) begin t.trace end half now
      (subst (λ z. EndsIn z (first (replicate (length ws) 0)) begin t.trace end half now) is.netlist
      (subst (λ z. EndsIn t.sim.netlist (first z) begin t.trace end half now) is.zeros
      (subst (λ z. EndsIn t.sim.netlist (first t.dins.items) z t.trace end half now) is.contents h))))

  module _ (n : Netlist) (same : n ≡ t.sim.netlist) (mid : Contents) (between : Told) (after : Outside) (h : Goes t.sim.netlist (first t.dins.items) t.sim.contents mid t.trace between half after) where
    reset_goes : Goes m.netlist (first (replicate (length ws) 0)) begin mid t.trace between half after
    reset_goes =
        subst (λ z. Goes z (first (replicate (length ws) 0)) begin mid t.trace between half after) is.netlist
        (subst (λ z. Goes t.sim.netlist (first z) begin mid t.trace between half after) is.zeros
        (subst (λ z. Goes t.sim.netlist (first t.dins.items) z mid t.trace between half after) is.contents h))

    -- a later clock ends it
    pub pixels_end : (end : TraceEnd) (now : Outside) → EndsIn n (pixels n) mid between end after now → EndsTrace m drive rounds end old now
    pixels_end end now g = ends_all end now (ends_later m.netlist (first (replicate (length ws) 0)) (pixels m.netlist) begin mid t.trace between half after now end reset_goes
        (subst (λ z. EndsIn z (pixels z) mid between end after now) (same ∙ is.netlist) g))

    module _ (to : Contents) (next : Told) (made : Outside) (g : Goes n (pixels n) mid to between next after made) where
      all_go : Goes m.netlist (stimulus drive ws rounds) begin to t.trace next half made
      all_go =
          subst (λ z. Goes m.netlist z begin to t.trace next half made) unheld
          (goes_join m.netlist (first (replicate (length ws) 0)) (pixels m.netlist) begin mid t.trace between half after made to next reset_goes
          (subst (λ z. Goes z (pixels z) mid to between next after made) (same ∙ is.netlist) g))

      -- no clock ends it, and the last line is written
      pub traced : (now : Outside) → AddsToFile made (end_text next) now → TracesRun m drive rounds old now
      traced now e = goes_whole m drive rounds t.trace widths start old half header to next made now all_go e

      -- or can't be written
      pub last_fails : (now : Outside) → WritesFront File made (end_text next) now → FailsTracing m drive rounds old now
      last_fails now e = fails_last m drive rounds t.trace widths start old half header to next made now all_go e

-- ---- what else has changed

added_only : (old new : Outside) (bytes : List ℕ) → AddsToFile old bytes new → AddsOnly old new
added_only old new bytes h =
    subst (λ n. new ≡ record old { file = record old.file { bytes = new.file.bytes }; files = new.files; output_failures = n }) (sym (ap (λ (o : Outside). o.output_failures) h.only)) h.only

pub failed_only : (old new : Outside) (text : List ℕ) → WritesFront File old text new → AddsOnly old new
failed_only old new text h = ap (λ (o : Outside). record o { output_failures = new.output_failures }) h.adds.only

pub traced_only : (m : NamedNetlist) (drive : Drive) (rounds : Rounds) (old new : Outside) → TracesRun m drive rounds old new → AddsOnly old new
traced_only m drive rounds old new h = added_only old new (trace_text m (values_of h.shots)) h.gained

failing_only : (m : NamedNetlist) (drive : Drive) (rounds : Rounds) (old new : Outside) → FailsTracing m drive rounds old new → AddsOnly old new
failing_only m drive rounds old new (in_header h) = failed_only old new (header_text m) h
failing_only m drive rounds old new (in_clock h) = failed_only old new (trace_front m (h.shots ++ h.last ∷ [])) h.fails.write
failing_only m drive rounds old new (at_end h) = failed_only old new (trace_text m (values_of h.shots)) h.fails.write

pub ends_only : (m : NamedNetlist) (drive : Drive) (rounds : Rounds) (end : TraceEnd) (old new : Outside) → EndsTrace m drive rounds end old new → AddsOnly old new
ends_only m drive rounds (Stopped (Index clock array index)) old new h = added_only old new (trace_front m h.stop.shots) h.gained
ends_only m drive rounds (Stopped (Count shown wanted)) old new h = absurd h
ends_only m drive rounds Write old new h = failing_only m drive rounds old new h
