use Rattle.std.proofs.Common.{◌≡◌, take, length}
use Rattle.wiring.specs.Tables.{IsTable}
use Rattle.wiring.proofs.drivers.drivers_of.Given as goal

abbrev pub invariant-loop-k : goal.invariant-loop-k
invariant-loop-k l = record {
  table : IsTable (take l.k l.assigns) l.drivers;
  outputs : length l.drivers.outputs.items ≡ l.fn.outputs;
  wires : length l.drivers.wires.items ≡ l.fn.wires;
}
