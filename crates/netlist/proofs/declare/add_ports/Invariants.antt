use Rattle.std.proofs.Common.{◌≡◌, ◌+◌, ◌≤◌, ◌++◌, drop, length}
use Rattle.netlist.specs.Scopes.{port_entries}
use Rattle.netlist.proofs.declare.add_ports.Given as goal

abbrev pub invariant-loop-k : goal.invariant-loop-k
invariant-loop-k l = record {
  whole : l.scope ++ port_entries l.inputs l.outputs (drop l.k l.ports) ≡ l.fn.scope ++ port_entries 0 0 l.ports;
  size : length l.scope ≡ 1 + l.k;
  inputs : l.inputs ≤ l.k;
  outputs : l.outputs ≤ l.k;
}
