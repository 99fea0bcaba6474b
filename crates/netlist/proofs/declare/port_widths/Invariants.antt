use Rattle.std.proofs.Common.{◌≡◌, take}
use Rattle.netlist.specs.declared.parts.Port.{Port}
use Rattle.netlist.specs.Scopes.{collected, taken, given}
use Rattle.netlist.proofs.declare.port_widths.Given as goal

abbrev pub invariant-loop-port : goal.invariant-loop-port
invariant-loop-port l = record {
  inputs : l.widths.inputs.items ≡ collected (λ (q : Port). taken q.direction q.width) (take l.port-index l.ports);
  outputs : l.widths.outputs.items ≡ collected (λ (q : Port). given q.direction q.width) (take l.port-index l.ports);
}
