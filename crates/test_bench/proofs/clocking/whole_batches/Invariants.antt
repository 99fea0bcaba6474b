use Rattle.std.proofs.Common.{◌≡◌, ◌+◌, ◌*◌, ◌≤◌}
use Rattle.std.specs.List.{flat_map, range_with_len}
use Rattle.cycle_sim.specs.Ports.{din_widths}
use Rattle.test_bench.specs.declared.batch.TheConstants.{BATCH_PIXELS}
use Rattle.stimulus.specs.Stimulus.{clocks_at}
use Rattle.stimulus.specs.Given.{rounds_of}
use Rattle.test_bench.specs.Clocking.{Clocked}
use Rattle.test_bench.proofs.clocking.whole_batches.Given as goal

abbrev pub invariant-loop-batch : goal.invariant-loop-batch
invariant-loop-batch g l =
    let outside = g.D.Desk.outside in
    let m = l.fn.bench.sim.netlist in
    record {
      few : l.bench.made ≤ l.fn.bench.made + 2 * (l.batch * BATCH_PIXELS);
      only : outside l.desk ≡ record (outside l.fn.desk) { notes = (outside l.desk).notes };
      clocked : Clocked m (flat_map (clocks_at l.feed.hold (din_widths m) (rounds_of l.rounds)) (range_with_len 0 (l.batch * BATCH_PIXELS))) l.fn.bench l.bench (outside l.fn.desk).notes (outside l.desk).notes;
    }
