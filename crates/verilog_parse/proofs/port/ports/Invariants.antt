use Rattle.std.proofs.Common.{◌++◌, length}
use Rattle.dk_grammar.proofs.Stucks.{Reached}
use Rattle.verilog_parse.specs.Sections.{Ports}
use Rattle.verilog_parse.proofs.port.ports.Given as goal

abbrev pub invariant-ports : goal.invariant-ports
invariant-ports l = Reached Ports Ports (λ us. l.ports.items ++ us) l.fn.tokens l.tokens

abbrev pub decreases-ports : goal.decreases-ports
decreases-ports l = length l.tokens
