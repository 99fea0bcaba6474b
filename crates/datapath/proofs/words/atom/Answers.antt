use Rattle.datapath.proofs.Growth.{size_of, constant_of}
use Rattle.datapath.proofs.words.atom.Goals as goal

pub new-requires : goal.new-requires
new-requires c = size_of c.args.x _ _ c.in-Constant.is c.requires

pub new-requires-in-Constant : goal.new-requires-in-Constant
new-requires-in-Constant c = constant_of c.args.x _ _ _ c.in-Constant.is c.new.ensures c.requires
