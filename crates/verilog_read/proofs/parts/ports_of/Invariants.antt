use Rattle.std.proofs.Common.{◌≡◌, map, take}
use Rattle.verilog_text.specs.Stands.{port_of}
use Rattle.verilog_read.proofs.parts.ports_of.Given as goal

abbrev pub invariant-loop-port : goal.invariant-loop-port
invariant-loop-port l = l.items.items ≡ map (port_of l.text) (take l.port-index l.ports)
