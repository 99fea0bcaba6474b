use Rattle.wiring.specs.Netlist.{netlist_of}
use Rattle.batch_code.specs.Parts.{ArePuts}
use Rattle.batch_code.proofs.updates.puts_of.Given as goal

abbrev pub invariant-loop-number : goal.invariant-loop-number
invariant-loop-number l = ArePuts (netlist_of l.wiring) l.number l.puts.items
