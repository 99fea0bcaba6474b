use Rattle.std.proofs.Common.{◌≡◌, ◌+◌, length, take}
use Rattle.net_build.specs.Registers.{register_bits}
use Rattle.circuit.specs.Registers.{latencies, latency_bits}
use Rattle.edge_select.specs.FrameTests.{AddsTests}
use Rattle.circuit.specs.Ends.{AreOuts, AreShared}
use Rattle.circuit.proofs.outs.all_outs.Given as goal

abbrev pub invariant-loop : goal.invariant-loop
invariant-loop l = record {
  count : length l.outs.items ≡ l.index;
  adds : AddsTests l.b l.fn.b l.tests l.tests;
  are : AreOuts l.b l.plan l.nets (length l.outs.items) l.outs.items;
  bits : register_bits l.b ≡ register_bits l.fn.b + latency_bits l.tests (take l.index (latencies l.plan));
  share : AreShared l.plan l.outs.items;
}
