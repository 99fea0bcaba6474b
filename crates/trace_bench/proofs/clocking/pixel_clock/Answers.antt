use Rattle.std.proofs.Common.{length}
use Rattle.cycle_sim.specs.Ports.{din_widths}
use Rattle.trace_bench.proofs.Fitting.{pixels_fit}
use Rattle.trace_bench.proofs.clocking.pixel_clock.Goals as goal

pub clock-requires-clause-dins : goal.clock-requires-clause-dins
clock-requires-clause-dins g c =
    let frames = c.requires.pixels.frames in
    pixels_fit (din_widths c.args.tracer.now.sim.netlist) frames.0 c.args.rounds.now c.args.number c.args.area (length c.args.tracer.now.dins.items) c.fill_dins.new.dins.items frames.1 frames.2 c.requires.pixels.area c.requires.can.tracing.dins c.fill_dins.ensures.is
