-- Clocks that are traced one after another.
use Rattle.std.proofs.Common.{◌≡◌, ℕ, ◌+◌, List, [], ◌∷◌, ◌++◌, length, take, refl, ap, sym, subst, ◌∙◌, arith, append_assoc, append-nil, length-append, pos, ◌-ℤ◌}
use Rattle.std.proofs.lemmas.List.{take-append-le}
use Rattle.std.proofs.Math.Seq.{take-append-add}
use Rattle.std.specs.List.{AllByRecursion}
use Rattle.dk_desk.specs.declared.OutSlot.TheVariants.{File}
use Rattle.dk_desk.specs.Outside.{Outside}
use Rattle.dk_desk.specs.Calls.{AddsToFile, WritesFront}
use Rattle.dk_desk.proofs.DeskLemmas.{Adds-nothing, Adds-more}
use Rattle.wiring.specs.Netlist.{Netlist}
use Rattle.wiring.specs.Snapshot.{Contents, Snapshot}
use Rattle.wiring.specs.Clock.{Clock, given, Steps, Stops}
use Rattle.wiring.specs.Runs.{Runs}
use Rattle.cycle_sim.specs.Slots.{all_values}
use Rattle.vcd_trace.specs.Layout.{AreValues}
use Rattle.vcd_trace.specs.Told.{Told, clock_text}
use Rattle.stimulus.specs.declared.stop.Stop.TheVariants.{Index, Count}
use Rattle.stimulus.proofs.Runs.{runs_length}
use Rattle.stimulus.proofs.Runs.{runs_join, stop_join, stop_more}
use Rattle.trace_bench.specs.declared.ending.TraceEnd.{TraceEnd}
use Rattle.trace_bench.specs.declared.ending.TraceEnd.TheVariants.{Stopped, Write}
use Rattle.trace_bench.specs.Traces.{values_of, FailsBehind}
use Rattle.trace_bench.specs.Going.{told_more, told_after, clocks_text, Goes, StopsIn, FailsIn, EndsIn}
use Rattle.trace_bench.proofs.Texts.{after_append, texts_append, time_after, widths_after, values_append, values_count}

-- ---- writes after writes

-- bytes that were written before
pub fails_later : (a b c : Outside) (x front text : List ℕ) → AddsToFile a x b → FailsBehind front text b c → FailsBehind (x ++ front) (x ++ text) a c
fails_later a b c x front text first h = record {
  write = record {
    count = length x + h.write.count;
    within = omega (arith, h.write.within, length-append x text);
    adds =
        let same : b.output_failures ≡ a.output_failures = ap (λ (o : Outside). o.output_failures) first.only in
        subst (λ z. AddsToFile a z (record c { output_failures = a.output_failures })) (sym (take-append-add x text h.write.count))
        (subst (λ n. AddsToFile a (x ++ take h.write.count text) (record c { output_failures = n })) same
        (Adds-more File a b (record c { output_failures = b.output_failures }) x (take h.write.count text) first h.write.adds));
  };
  behind = omega (arith, h.behind, length-append x front);
}

-- the whole of it failed
pub fails_first : (a b : Outside) (text : List ℕ) → WritesFront File a text b → FailsBehind [] text a b
fails_first a b text h = record { write = h; behind = omega arith }

-- ---- one clock

pub goes_one : (m : Netlist) (c : Clock) (from to : Contents) (told : Told) (before now : Outside) (s : Snapshot) (values : List ℕ) → AreValues told.widths values → values ≡ all_values s → Steps m from (given m c) s to → (next : Told) → next ≡ told_more told values →
    AddsToFile before (clock_text told values) now → Goes m (c ∷ []) from to told next before now
goes_one m c from to told before now s values fits e step next is adds = record {
  shots = s ∷ [];
  runs = (to, step, refl);
  fit = (subst (AreValues told.widths) e fits, tt);
  told_is = is ∙ ap (λ z. told_more told z) e;
  adds = subst (λ z. AddsToFile before z now) (ap (λ z. clock_text told z) e ∙ sym (append-nil (clock_text told (all_values s)))) adds;
}

pub stops_one : (m : Netlist) (c : Clock) (from : Contents) (told : Told) (made array index : ℕ) (o : Outside) → told.time ≡ made → Stops m from (given m c) array index → (clock : Rattle.std.specs.Prelude.ℤ) → clock ≡ pos made -ℤ pos 1 → EndsIn m (c ∷ []) from told (Stopped (Index clock array index)) o o
stops_one m c from told made array index o e stops clock is = record {
  shots = [];
  stops = stops;
  clock_is = is ∙ ap (λ n. pos n -ℤ pos 1) (let f : made ≡ told.time + 0 = omega (arith, e) in f);
  adds = Adds-nothing File o;
}

pub fails_one : (m : Netlist) (c : Clock) (from to : Contents) (told : Told) (before now : Outside) (s : Snapshot) (values : List ℕ) → values ≡ all_values s → Steps m from (given m c) s to →
    WritesFront File before (clock_text told values) now → EndsIn m (c ∷ []) from told Write before now
fails_one m c from to told before now s values e step h = record {
  shots = [];
  last = s;
  to = to;
  within = omega arith;
  runs = (to, step, refl);
  fails = subst (λ z. FailsBehind [] z before now) (ap (λ z. clock_text told z) e ∙ sym (append-nil (clock_text told (all_values s)))) (fails_first before now (clock_text told values) h);
}

-- ---- clocks after clocks

fit_join : (ws : List ℕ) (xs ys : List (List ℕ)) → AllByRecursion (AreValues ws) xs → AllByRecursion (AreValues ws) ys → AllByRecursion (AreValues ws) (xs ++ ys)
fit_join ws [] ys h g = g
fit_join ws (x ∷ xs) ys h g = (h.0, fit_join ws xs ys h.1 g)

module _ (m : Netlist) where
  pub goes_none : (at : Contents) (told : Told) (o : Outside) → Goes m [] at at told told o o
  goes_none at told o = record { shots = []; runs = refl; fit = tt; told_is = refl; adds = Adds-nothing File o }

  module _ (cs ds : List Clock) (from mid : Contents) (told between : Told) (before half now : Outside) where
    texts_join : (h : Goes m cs from mid told between before half) (more : List Snapshot) → clocks_text told (values_of h.shots) ++ clocks_text between (values_of more) ≡ clocks_text told (values_of (h.shots ++ more))
    texts_join h more =
        ap (λ t. clocks_text told (values_of h.shots) ++ clocks_text t (values_of more)) h.told_is
        ∙ sym (texts_append told (values_of h.shots) (values_of more)) ∙ ap (λ z. clocks_text told z) (sym (values_append h.shots more))

    pub goes_join : (to : Contents) (next : Told) → Goes m cs from mid told between before half → Goes m ds mid to between next half now → Goes m (cs ++ ds) from to told next before now
    goes_join to next h g = record {
      shots = h.shots ++ g.shots;
      runs = runs_join m cs ds from mid to h.shots g.shots h.runs g.runs;
      fit = subst (AllByRecursion (AreValues told.widths)) (sym (values_append h.shots g.shots))
          (fit_join told.widths (values_of h.shots) (values_of g.shots) h.fit
          (let same : between.widths ≡ told.widths = ap (λ (t : Told). t.widths) h.told_is ∙ widths_after told (values_of h.shots) in
          subst (λ ws. AllByRecursion (AreValues ws) (values_of g.shots)) same g.fit));
      told_is = g.told_is ∙ ap (λ t. told_after t (values_of g.shots)) h.told_is ∙ sym (after_append told (values_of h.shots) (values_of g.shots)) ∙ ap (λ z. told_after told z) (sym (values_append h.shots g.shots));
      adds = subst (λ z. AddsToFile before z now) (texts_join h g.shots) (Adds-more File before half now (clocks_text told (values_of h.shots)) (clocks_text between (values_of g.shots)) h.adds g.adds);
    }

    stops_later : (clock : Rattle.std.specs.Prelude.ℤ) (array index : ℕ) → Goes m cs from mid told between before half → StopsIn m ds mid between clock array index half now → StopsIn m (cs ++ ds) from told clock array index before now
    stops_later clock array index h g = record {
      shots = h.shots ++ g.shots;
      stops = stop_join m cs ds from mid h.shots g.shots array index h.runs g.stops;
      clock_is = g.clock_is ∙ ap (λ n. pos n -ℤ pos 1)
          (let e : between.time + length g.shots ≡ told.time + length (h.shots ++ g.shots) = omega (arith, ap (λ (t : Told). t.time) h.told_is, time_after told (values_of h.shots), values_count h.shots, length-append h.shots g.shots) in e);
      adds = subst (λ z. AddsToFile before z now) (texts_join h g.shots) (Adds-more File before half now (clocks_text told (values_of h.shots)) (clocks_text between (values_of g.shots)) h.adds g.adds);
    }

    write_later : Goes m cs from mid told between before half → FailsIn m ds mid between half now → FailsIn m (cs ++ ds) from told before now
    write_later h g =
        let count : length (h.shots ++ g.shots) + 1 ≡ length cs + (length g.shots + 1) = omega (arith, runs_length m cs from mid h.shots h.runs, length-append h.shots g.shots) in
        record {
          shots = h.shots ++ g.shots;
          last = g.last;
          to = g.to;
          within = omega (arith, count, g.within, length-append cs ds);
          runs = subst (λ n. Runs m from (take n (cs ++ ds)) ((h.shots ++ g.shots) ++ g.last ∷ []) g.to) (sym count)
              (subst (λ z. Runs m from z ((h.shots ++ g.shots) ++ g.last ∷ []) g.to) (sym (take-append-add cs ds (length g.shots + 1)))
              (subst (λ z. Runs m from (cs ++ take (length g.shots + 1) ds) z g.to) (sym (append_assoc h.shots g.shots (g.last ∷ [])))
              (runs_join m cs (take (length g.shots + 1) ds) from mid g.to h.shots (g.shots ++ g.last ∷ []) h.runs g.runs)));
          fails = subst (λ z. FailsBehind (clocks_text told (values_of (h.shots ++ g.shots))) z before now) (texts_join h (g.shots ++ g.last ∷ []) ∙ ap (λ z. clocks_text told (values_of z)) (sym (append_assoc h.shots g.shots (g.last ∷ []))))
              (subst (λ z. FailsBehind z (clocks_text told (values_of h.shots) ++ clocks_text between (values_of (g.shots ++ g.last ∷ []))) before now) (texts_join h g.shots)
              (fails_later before half now (clocks_text told (values_of h.shots)) (clocks_text between (values_of g.shots)) (clocks_text between (values_of (g.shots ++ g.last ∷ []))) h.adds g.fails));
        }

    -- an end in later clocks
    pub ends_later : (end : TraceEnd) → Goes m cs from mid told between before half → EndsIn m ds mid between end half now → EndsIn m (cs ++ ds) from told end before now
    ends_later (Stopped (Index clock array index)) h g = stops_later clock array index h g
    ends_later (Stopped (Count shown wanted)) h g = absurd g
    ends_later Write h g = write_later h g

  -- and more clocks after
  pub ends_more : (cs rest : List Clock) (from : Contents) (told : Told) (end : TraceEnd) (before now : Outside) → EndsIn m cs from told end before now → EndsIn m (cs ++ rest) from told end before now
  ends_more cs rest from told (Stopped (Index clock array index)) before now h = record { shots = h.shots; stops = stop_more m cs rest from h.shots array index h.stops; clock_is = h.clock_is; adds = h.adds }
  ends_more cs rest from told (Stopped (Count shown wanted)) before now h = absurd h
  ends_more cs rest from told Write before now h = record {
    shots = h.shots;
    last = h.last;
    to = h.to;
    within = omega (arith, h.within, length-append cs rest);
    runs = subst (λ z. Runs m from z (h.shots ++ h.last ∷ []) h.to) (sym (take-append-le (length h.shots + 1) cs rest h.within)) h.runs;
    fails = h.fails;
  }
