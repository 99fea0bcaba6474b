use Rattle.std.proofs.Common.{◌≡◌, ◌≤◌, ◌+◌, take}
use Rattle.std.specs.Vec.{vec_capacity, vec_len}
use Rattle.cycle_sim.specs.Runs.{clocks_of, Ran}
use Rattle.cycle_sim.proofs.running.run_clocks.Given as goal

abbrev pub invariant-loop-clock : goal.invariant-loop-clock
invariant-loop-clock l = record {
  netlist : l.sim.netlist ≡ l.fn.sim.netlist;
  ran : Ran l.fn.sim.netlist l.output (clocks_of (take l.clock-index l.clocks)) l.fn.sim.contents l.fn.samples.items l.sim.contents l.samples.items;
  count : vec_len l.samples ≤ vec_len l.fn.samples + l.clock-index;
  capacity : vec_capacity l.samples ≡ vec_capacity l.fn.samples;
}
