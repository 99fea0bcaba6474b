use Rattle.std.proofs.Common.{◌≡◌, drop}
use Rattle.verilog_text.specs.Limits.{ports_fault}
use Rattle.verilog_read.proofs.limits.check_ports.Given as goal

abbrev pub invariant-loop-port : goal.invariant-loop-port
invariant-loop-port l = ports_fault l.ports ≡ ports_fault (drop l.port-index l.ports)
