use Rattle.std.proofs.Common.{◌≡◌, map, take}
use Rattle.dk_base.specs.Types.{width_of}
use Rattle.circuit.proofs.ports.din_bits.Given as goal

abbrev pub invariant-loop-input : goal.invariant-loop-input
invariant-loop-input l = record { bits : l.bits.items ≡ map (λ i. width_of i.ty) (take l.input-index l.input-items) }
