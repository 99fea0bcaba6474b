use Rattle.std.proofs.Common.{rules, refl, ◌∙◌, subst, arith, None}
use Rattle.cycle_sim.specs.Ports.{din_widths}
use Rattle.stimulus.specs.Stimulus.{clocks_at}
use Rattle.stimulus.specs.Given.{rounds_of}
use Rattle.trace_bench.specs.Going.{Goes, EndsIn}
use Rattle.trace_bench.proofs.Going.{goes_none}
use Rattle.trace_bench.proofs.Pixels.{goes_more, ends_within}
use Rattle.trace_bench.proofs.clocking.pixel_clocks.Goals as goal

pub loop-number-init : goal.loop-number-init
loop-number-init g c =
    let old = c.args.tracer.now in
    record {
      netlist = refl;
      tracing = c.requires.can.tracing;
      made = omega arith;
      opened = c.requires.can.opened;
      no_failure = refl;
      goes = goes_none old.sim.netlist old.sim.contents old.trace (g.D.Desk.outside c.args.desk.now);
    }

pub returns-in-Err : goal.returns-in-Err
returns-in-Err g c =
    let outside = g.D.Desk.outside in
    let old = c.args.tracer.now in
    let mid = c.loop-number.tracer in
    let m = old.sim.netlist in
    let rounds = rounds_of c.args.rounds.now in
    let k = c.loop-number.number in
    let half = outside c.loop-number.desk in
    let now = outside c.pixel_clock.new.desk in
    let end = c.in-Err.end in
    let here = subst (λ z. EndsIn z (clocks_at None (din_widths z) rounds k) mid.sim.contents mid.trace end half now) c.loop-number.invariant.netlist c.in-Err.ensures.traces.end in
    record {
      netlist = c.in-Err.ensures.traces.netlist ∙ c.loop-number.invariant.netlist;
      tracing = search rules;
      ok = search rules;
      end = ends_within m (clocks_at None (din_widths m) rounds) k old.sim.contents mid.sim.contents old.trace mid.trace (outside c.args.desk.now) half now c.loop-number.invariant.goes c.args.clocks end c.loop-number-test.true here;
      cause = search rules;
    }

pub loop-number-preserved : goal.loop-number-preserved
loop-number-preserved g c =
    let outside = g.D.Desk.outside in
    let old = c.args.tracer.now in
    let mid = c.loop-number.tracer in
    let new = c.pixel_clock.new.tracer in
    let m = old.sim.netlist in
    let rounds = rounds_of c.args.rounds.now in
    let k = c.loop-number.number in
    let half = outside c.loop-number.desk in
    let now = outside c.pixel_clock.new.desk in
    let here = subst (λ z. Goes z (clocks_at None (din_widths z) rounds k) mid.sim.contents new.sim.contents mid.trace new.trace half now) c.loop-number.invariant.netlist c.in-Ok.ensures.traces.ok in
    record {
      netlist = c.in-Ok.ensures.traces.netlist ∙ c.loop-number.invariant.netlist;
      tracing = c.in-Ok.ensures.traces.tracing;
      made = omega (arith, c.in-Ok.ensures.made, c.loop-number.invariant.made);
      opened = search rules;
      no_failure = search rules;
      goes = goes_more m (clocks_at None (din_widths m) rounds) k old.sim.contents mid.sim.contents old.trace mid.trace (outside c.args.desk.now) half now c.loop-number.invariant.goes new.sim.contents new.trace here;
    }
