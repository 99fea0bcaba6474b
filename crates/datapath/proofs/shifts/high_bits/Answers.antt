use Rattle.datapath.proofs.Shifted.{high_carries, high_part}
use Rattle.datapath.proofs.Composed.{carries_over}
use Rattle.datapath.proofs.shifts.high_bits.Goals as goal

pub part-requires : goal.part-requires
part-requires c = high_part _ c.args.x _ _ c.width-width.ensures c.requires.by c.requires.x

pub returns : goal.returns
returns c = carries_over c.in_ok-atom.ensures (high_carries _ _ c.args.x _ c.narrowed-ty.result _ _ c.narrowed-ty.ensures c.width-width.ensures c.requires.by c.requires.x c.in_ok-atom.ensures.grows.includes c.in_ok-atom.ensures.word)
