use Rattle.datapath.specs.Expressions.{types_in}
use Rattle.datapath.proofs.Leaved.{typed_as}
use Rattle.datapath.proofs.lowering.typed_over_leaves_law.Goals as goal

pub returns : goal.returns
returns c = λ types e t reads ok has are. let w = typed_as types (types_in reads) ok e t 0 has are in (w.typed, w.is)
