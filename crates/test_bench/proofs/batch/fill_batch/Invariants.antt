use Rattle.std.proofs.Common.{◌≡◌, ◌+◌, ◌*◌, ◌≤◌, length}
use Rattle.std.specs.List.{flat_map, range_with_len}
use Rattle.dk_base.specs.Frames.{Size}
use Rattle.wiring.specs.Netlist.{Netlist}
use Rattle.cycle_sim.specs.Ports.{din_widths}
use Rattle.batch_sim.specs.Called.{clocks_with}
use Rattle.stimulus.specs.Stimulus.{clocks_left, clocks_at}
use Rattle.stimulus.specs.Given.{rounds_of}
use Rattle.test_bench.specs.Batches.{KeepsRoom}
use Rattle.test_bench.specs.Clocking.{IsFed}
use Rattle.test_bench.proofs.batch.fill_batch.Given as goal

abbrev pub invariant-loop-number : goal.invariant-loop-number
invariant-loop-number l = record {
  clocks : (m : Netlist) (size : Size) → IsFed m size l.feed l.rounds → clocks_with (length l.feed.held.items) l.batch.enables.items l.batch.dins.items ≡ flat_map (clocks_at l.feed.hold (din_widths m) (rounds_of l.rounds)) (range_with_len l.start l.number);
  count : length l.batch.enables.items ≤ 2 * l.number;
  whole : length l.batch.dins.items ≡ length l.batch.enables.items * length l.feed.held.items;
  room : KeepsRoom l.fn.batch l.batch;
  left : l.left ≡ clocks_left l.feed.hold (l.start + l.number);
}
