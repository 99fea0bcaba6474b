use Rattle.datapath.proofs.Carried.{cast_carries}
use Rattle.datapath.proofs.Composed.{type_is}
use Rattle.datapath.proofs.comparison.cast.Goals as goal

pub resized-requires : goal.resized-requires
resized-requires c = record { operand = c.requires.x; width = type_is _ _ c.width-width.ensures c.requires.ty }

pub returns : goal.returns
returns c = cast_carries c.args.x c.args.ty c.width-width.ensures c.requires.ty c.in_ok-atom.ensures
