use Rattle.std.proofs.Common.{◌≡◌, length, take}
use Rattle.circuit.specs.Splits.{lists_of}
use Rattle.circuit.specs.Forms.{shapes_of, block_shapes_of}
use Rattle.circuit.proofs.slots.first_of_block.Given as goal

abbrev pub invariant-loop-k : goal.invariant-loop-k
invariant-loop-k l = l.first ≡ length (shapes_of (block_shapes_of (lists_of l.proposed)) l.plan (take l.k l.plan.system.stencils.images))
