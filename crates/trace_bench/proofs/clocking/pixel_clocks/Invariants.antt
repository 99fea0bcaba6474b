use Rattle.std.proofs.Common.{◌≡◌, ◌+◌, None}
use Rattle.std.specs.List.{flat_map, range_with_len}
use Rattle.dk_desk.specs.declared.Stage.TheVariants.{Open}
use Rattle.cycle_sim.specs.Ports.{din_widths}
use Rattle.stimulus.specs.Stimulus.{clocks_at}
use Rattle.stimulus.specs.Given.{rounds_of}
use Rattle.trace_bench.specs.Tracers.{IsTracing}
use Rattle.trace_bench.specs.Going.{Goes}
use Rattle.trace_bench.proofs.clocking.pixel_clocks.Given as goal

abbrev pub invariant-loop-number : goal.invariant-loop-number
invariant-loop-number g l =
    let outside = g.D.Desk.outside in
    let m = l.fn.tracer.sim.netlist in
    record {
      netlist : l.tracer.sim.netlist ≡ m;
      tracing : IsTracing l.tracer;
      made : l.tracer.made ≡ l.fn.tracer.made + l.number;
      opened : (outside l.desk).file.stage ≡ Open;
      no_failure : (outside l.desk).output_failures ≡ (outside l.fn.desk).output_failures;
      goes : Goes m (flat_map (clocks_at None (din_widths m) (rounds_of l.rounds)) (range_with_len 0 l.number)) l.fn.tracer.sim.contents l.tracer.sim.contents l.fn.tracer.trace l.tracer.trace (outside l.fn.desk) (outside l.desk);
    }
