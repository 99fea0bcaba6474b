use Rattle.std.proofs.Common.{take}
use Rattle.dk_base.specs.Types.{width_of}
use Rattle.wiring.specs.Netlist.{Netlist}
use Rattle.net_build.specs.Includes.{Includes}
use Rattle.circuit.specs.Rounds.{type_at}
use Rattle.circuit.specs.Leaves.{leaf_at}
use Rattle.circuit.specs.Reads.{IsChoice}
use Rattle.circuit.specs.Registers.{AsksLeaf}
use Rattle.circuit.specs.Growing.{GrowFor}
use Rattle.circuit.proofs.choices.choice_of.Given as goal

abbrev pub invariant-loop-read : goal.invariant-loop-read
invariant-loop-read l = record {
  grows : GrowFor l.b l.fn.b l.tests l.fn.tests l.reader.plan.now (AsksLeaf l.reader.plan.now l.reader.image (leaf_at l.leaf.image l.leaf.steps.now));
  choice : (first : Netlist) → Includes l.fn.b first → IsChoice l.b first l.reader.plan.now l.reader.taps.now l.reader.image (take l.read-index l.read-items) (leaf_at l.leaf.image l.leaf.steps.now) (width_of (type_at l.reader.ir.now l.leaf.image)) l.choice;
}
