use Rattle.std.proofs.Common.{◌≡◌, length, take}
use Rattle.circuit.specs.Forms.{shapes_of, chain_shapes_of}
use Rattle.circuit.proofs.slots.first_of_chain.Given as goal

abbrev pub invariant-loop-k : goal.invariant-loop-k
invariant-loop-k l = l.first ≡ length (shapes_of chain_shapes_of l.plan (take l.k l.plan.system.stencils.images))
