use Rattle.std.proofs.Common.{arith}
use Rattle.datapath.proofs.Bitwise.{negated_carries}
use Rattle.datapath.proofs.Divided.{at_type}
use Rattle.datapath.proofs.Composed.{carries_over}
use Rattle.datapath.proofs.bits.bit_complement.Goals as goal

pub complement-requires : goal.complement-requires
complement-requires c = record { width = (omega arith, omega arith); x = (at_type _ c.args.x _ c.requires.ty c.requires.x).width }

pub returns : goal.returns
returns c = carries_over c.in_ok-bits.ensures (negated_carries _ _ c.args.x _ c.requires.ty c.requires.x c.in_ok-bits.ensures.grows.includes c.in_ok-bits.ensures.word)
