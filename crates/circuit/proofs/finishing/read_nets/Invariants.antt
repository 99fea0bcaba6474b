use Rattle.circuit.specs.Taps.{AreTapsOf}
use Rattle.circuit.proofs.finishing.read_nets.Given as goal

abbrev pub invariant-loop-read : goal.invariant-loop-read
invariant-loop-read l = AreTapsOf l.plan l.taps l.read-index l.reads.items
