use Rattle.std.proofs.Common.{rules, ◌≡◌, ◌∙◌, sym, subst, true, to_z, of_z, w64, FitsSigned}
use Rattle.std.proofs.lemmas.Int.{to_z-of_z}
use Rattle.dk_desk.specs.declared.OutSlot.TheVariants.{File}
use Rattle.dk_desk.specs.Calls.{AddsToFile, WritesFront}
use Rattle.wiring.specs.Snapshot.{Fit}
use Rattle.wiring.specs.Clock.{Clock, given, Steps, Stops}
use Rattle.cycle_sim.specs.Slots.{all_values, all_widths}
use Rattle.vcd_trace.specs.Layout.{AreValues}
use Rattle.trace_bench.proofs.Fitting.{values_fit}
use Rattle.trace_bench.proofs.Going.{goes_one, stops_one, fails_one}
use Rattle.trace_bench.proofs.clocking.clock.Goals as goal

pub tell-requires-clause-values : goal.tell-requires-clause-values
tell-requires-clause-values g c =
    let old = c.args.tracer.now in
    let m = old.sim.netlist in
    let from = old.sim.contents in
    let to = c.step.new.sim.contents in
    let tracing = c.requires.can.tracing in
    let ok = c.in-Ok.ensures.ok in
    let clock : Clock = record { reset = c.args.reset; enable = true; dins = old.dins.items } in
    let step : Steps m from (given m clock) ok.0 to = subst (λ z. Steps m from (given m (record { reset = c.args.reset; enable = true; dins = z })) ok.0 to) c.deref.ensures.value ok.1 in
    let fit = values_fit c.values_fit_law.ensures.nets m tracing.order tracing.rules tracing.ordered clock from to ok.0 c.law.ensures.fit c.requires.dins step in
    subst (λ z. AreValues z c.deref-in-Ok.result.now) (sym tracing.widths) (subst (λ z. Fit (all_widths m) z) (sym (c.deref-in-Ok.ensures.value ∙ ok.2)) fit)

pub returns-in-Err-clause-traces : goal.returns-in-Err-clause-traces
returns-in-Err-clause-traces g c =
    let old = c.args.tracer.now in
    let m = old.sim.netlist in
    let range = c.in-Err.range in
    let clock : Clock = record { reset = c.args.reset; enable = true; dins = old.dins.items } in
    let stops : Stops m old.sim.contents (given m clock) range.array range.index = subst (λ z. Stops m old.sim.contents (given m (record { reset = c.args.reset; enable = true; dins = z })) range.array range.index) c.deref.ensures.value c.in-Err.ensures.stops in
    let fits : FitsSigned w64 c.clock_number.result = search rules in
    record {
      netlist = search rules;
      tracing = search rules;
      ok = search rules;
      end = stops_one m clock old.sim.contents old.trace old.made range.array range.index (g.D.Desk.outside c.args.desk.now) c.requires.can.tracing.made stops
          (to_z w64 (of_z w64 c.clock_number.result)) (to_z-of_z w64 c.clock_number.result fits ∙ c.clock_number.ensures);
      cause = search rules;
    }

pub returns-in-Err-write-clause-traces : goal.returns-in-Err-write-clause-traces
returns-in-Err-write-clause-traces g c =
    let old = c.args.tracer.now in
    let m = old.sim.netlist in
    let from = old.sim.contents in
    let to = c.step.new.sim.contents in
    let ok = c.in-Ok.ensures.ok in
    let clock : Clock = record { reset = c.args.reset; enable = true; dins = old.dins.items } in
    let step : Steps m from (given m clock) ok.0 to = subst (λ z. Steps m from (given m (record { reset = c.args.reset; enable = true; dins = z })) ok.0 to) c.deref.ensures.value ok.1 in
    let before = g.D.Desk.outside c.args.desk.now in
    let now = g.D.Desk.outside c.write.new.desk in
    record {
      netlist = search rules;
      tracing = search rules;
      ok = search rules;
      end = fails_one m clock from to old.trace before now ok.0 c.deref-in-Ok.result.now (c.deref-in-Ok.ensures.value ∙ ok.2) step
          (subst (λ z. WritesFront File before z now) (c.deref-in-Ok-2.ensures.value ∙ c.tell.ensures.text) c.in-Err-write.ensures.err);
      cause = search rules;
    }

pub returns-in-Ok-write-clause-traces : goal.returns-in-Ok-write-clause-traces
returns-in-Ok-write-clause-traces g c =
    let old = c.args.tracer.now in
    let m = old.sim.netlist in
    let from = old.sim.contents in
    let to = c.step.new.sim.contents in
    let ok = c.in-Ok.ensures.ok in
    let clock : Clock = record { reset = c.args.reset; enable = true; dins = old.dins.items } in
    let step : Steps m from (given m clock) ok.0 to = subst (λ z. Steps m from (given m (record { reset = c.args.reset; enable = true; dins = z })) ok.0 to) c.deref.ensures.value ok.1 in
    let before = g.D.Desk.outside c.args.desk.now in
    let now = g.D.Desk.outside c.write.new.desk in
    let tracing = c.requires.can.tracing in
    let fit = values_fit c.values_fit_law.ensures.nets m tracing.order tracing.rules tracing.ordered clock from to ok.0 c.law.ensures.fit c.requires.dins step in
    let seen : c.deref-in-Ok.result.now ≡ all_values ok.0 = c.deref-in-Ok.ensures.value ∙ ok.2 in
    let fits : AreValues old.trace.widths c.deref-in-Ok.result.now = subst (λ z. AreValues z c.deref-in-Ok.result.now) (sym tracing.widths) (subst (λ z. Fit (all_widths m) z) (sym seen) fit) in
    record {
      netlist = search rules;
      tracing = search rules;
      ok = goes_one m clock from to old.trace before now ok.0 c.deref-in-Ok.result.now fits seen step c.tell.new.trace c.tell.ensures.next
          (subst (λ z. AddsToFile before z now) (c.deref-in-Ok-2.ensures.value ∙ c.tell.ensures.text) c.in-Ok-write.ensures.ok);
      end = search rules;
      cause = search rules;
    }
