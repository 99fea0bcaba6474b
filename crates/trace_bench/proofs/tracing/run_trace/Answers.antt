use Rattle.std.proofs.Common.{◌∙◌, ap, sym, subst, length, replicate}
use Rattle.dk_desk.specs.Calls.{AddsToFile}
use Rattle.wiring.specs.Snapshot.{Fit}
use Rattle.cycle_sim.specs.Ports.{din_widths}
use Rattle.stimulus.specs.Given.{rounds_of}
use Rattle.stimulus.proofs.Stimuli.{fit_zeros}
use Rattle.trace_bench.specs.declared.ending.TraceEnd.TheVariants.{Write}
use Rattle.trace_bench.proofs.Traced.{reset_ends, pixels_end, traced, last_fails, failed_only, ends_only, traced_only}
use Rattle.trace_bench.proofs.tracing.run_trace.Goals as goal

pub clock-requires-clause-dins : goal.clock-requires-clause-dins
clock-requires-clause-dins g c =
    let is = c.requires.tracer in
    let t = c.args.tracer.now in
    let zeros = subst (λ z. Fit (din_widths z) (replicate (length (din_widths z)) 0)) (sym is.netlist) (fit_zeros (din_widths c.args.module.now.netlist)) in
    subst (λ z. Fit (din_widths t.sim.netlist) z) (ap (λ n. replicate (length (din_widths n)) 0) is.netlist ∙ sym is.zeros) zeros

pub returns-in-Err-clause-only : goal.returns-in-Err-clause-only
returns-in-Err-clause-only g c = failed_only (g.D.Desk.outside c.args.desk.now) (g.D.Desk.outside c.write.new.desk) c.deref.result.now c.in-Err.ensures.err

pub returns-in-Err-clock-clause-end : goal.returns-in-Err-clock-clause-end
returns-in-Err-clock-clause-end g c =
    let old = g.D.Desk.outside c.args.desk.now in
    let half = g.D.Desk.outside c.write.new.desk in
    let head : AddsToFile old c.args.tracer.now.header.items half = subst (λ z. AddsToFile old z half) c.deref.ensures.value c.in-Ok.ensures.ok in
    reset_ends c.args.module.now c.args.drive (rounds_of c.args.rounds.now) c.requires.unheld c.args.tracer.now c.requires.tracer old half head c.in-Err-clock.end (g.D.Desk.outside c.clock.new.desk) c.in-Err-clock.ensures.traces.end

pub returns-in-Err-pixel_clocks-clause-end : goal.returns-in-Err-pixel_clocks-clause-end
returns-in-Err-pixel_clocks-clause-end g c =
    let old = g.D.Desk.outside c.args.desk.now in
    let half = g.D.Desk.outside c.write.new.desk in
    let after = g.D.Desk.outside c.clock.new.desk in
    let mid = c.clock.new.tracer in
    let head : AddsToFile old c.args.tracer.now.header.items half = subst (λ z. AddsToFile old z half) c.deref.ensures.value c.in-Ok.ensures.ok in
    pixels_end c.args.module.now c.args.drive (rounds_of c.args.rounds.now) c.requires.unheld c.args.tracer.now c.requires.tracer old half head mid.sim.netlist c.in-Ok-clock.ensures.traces.netlist mid.sim.contents mid.trace after c.in-Ok-clock.ensures.traces.ok
    c.in-Err-pixel_clocks.end (g.D.Desk.outside c.pixel_clocks.new.desk) c.in-Err-pixel_clocks.ensures.end

pub returns-in-Err-write_end-clause-end : goal.returns-in-Err-write_end-clause-end
returns-in-Err-write_end-clause-end g c =
    let old = g.D.Desk.outside c.args.desk.now in
    let half = g.D.Desk.outside c.write.new.desk in
    let after = g.D.Desk.outside c.clock.new.desk in
    let made = g.D.Desk.outside c.pixel_clocks.new.desk in
    let mid = c.clock.new.tracer in
    let new = c.pixel_clocks.new.tracer in
    let head : AddsToFile old c.args.tracer.now.header.items half = subst (λ z. AddsToFile old z half) c.deref.ensures.value c.in-Ok.ensures.ok in
    last_fails c.args.module.now c.args.drive (rounds_of c.args.rounds.now) c.requires.unheld c.args.tracer.now c.requires.tracer old half head mid.sim.netlist c.in-Ok-clock.ensures.traces.netlist mid.sim.contents mid.trace after c.in-Ok-clock.ensures.traces.ok
    new.sim.contents new.trace made c.in-Ok-pixel_clocks.ensures.ok (g.D.Desk.outside c.write_end.new.desk) c.in-Err-write_end.ensures.err

pub returns-in-Ok-write_end-clause-ok : goal.returns-in-Ok-write_end-clause-ok
returns-in-Ok-write_end-clause-ok g c =
    let old = g.D.Desk.outside c.args.desk.now in
    let half = g.D.Desk.outside c.write.new.desk in
    let after = g.D.Desk.outside c.clock.new.desk in
    let made = g.D.Desk.outside c.pixel_clocks.new.desk in
    let mid = c.clock.new.tracer in
    let new = c.pixel_clocks.new.tracer in
    let head : AddsToFile old c.args.tracer.now.header.items half = subst (λ z. AddsToFile old z half) c.deref.ensures.value c.in-Ok.ensures.ok in
    traced c.args.module.now c.args.drive (rounds_of c.args.rounds.now) c.requires.unheld c.args.tracer.now c.requires.tracer old half head mid.sim.netlist c.in-Ok-clock.ensures.traces.netlist mid.sim.contents mid.trace after c.in-Ok-clock.ensures.traces.ok
    new.sim.contents new.trace made c.in-Ok-pixel_clocks.ensures.ok (g.D.Desk.outside c.write_end.new.desk) c.in-Ok-write_end.ensures.ok

pub returns-in-Err-clock-clause-only : goal.returns-in-Err-clock-clause-only
returns-in-Err-clock-clause-only g c = ends_only c.args.module.now c.args.drive (rounds_of c.args.rounds.now) c.in-Err-clock.end (g.D.Desk.outside c.args.desk.now) (g.D.Desk.outside c.clock.new.desk) (returns-in-Err-clock-clause-end g c)

pub returns-in-Err-pixel_clocks-clause-only : goal.returns-in-Err-pixel_clocks-clause-only
returns-in-Err-pixel_clocks-clause-only g c = ends_only c.args.module.now c.args.drive (rounds_of c.args.rounds.now) c.in-Err-pixel_clocks.end (g.D.Desk.outside c.args.desk.now) (g.D.Desk.outside c.pixel_clocks.new.desk) (returns-in-Err-pixel_clocks-clause-end g c)

pub returns-in-Err-write_end-clause-only : goal.returns-in-Err-write_end-clause-only
returns-in-Err-write_end-clause-only g c = ends_only c.args.module.now c.args.drive (rounds_of c.args.rounds.now) Write (g.D.Desk.outside c.args.desk.now) (g.D.Desk.outside c.write_end.new.desk) (returns-in-Err-write_end-clause-end g c)

pub returns-in-Ok-write_end-clause-only : goal.returns-in-Ok-write_end-clause-only
returns-in-Ok-write_end-clause-only g c = traced_only c.args.module.now c.args.drive (rounds_of c.args.rounds.now) (g.D.Desk.outside c.args.desk.now) (g.D.Desk.outside c.write_end.new.desk) (returns-in-Ok-write_end-clause-ok g c)
