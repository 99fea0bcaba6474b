use Rattle.std.proofs.Common.{◌≡◌, map, take}
use Rattle.dk_base.specs.Types.{width_of}
use Rattle.circuit.specs.Rounds.{type_at}
use Rattle.circuit.proofs.ports.dout_bits.Given as goal

abbrev pub invariant-loop-image : goal.invariant-loop-image
invariant-loop-image l = record { bits : l.bits.items ≡ map (λ g. width_of (type_at l.ir g)) (take l.image-index l.image-items) }
