use Rattle.std.proofs.Common.{arith}
use Rattle.dk_parser.proofs.Depths as D
use Rattle.dk_parser.proofs.built.operand.Goals as goal

pub returns-else-depth-le-MAX_SOURCE_DEPTH : goal.returns-else-depth-le-MAX_SOURCE_DEPTH
returns-else-depth-le-MAX_SOURCE_DEPTH c = record { stands = λ e s. let h = rw c.in-Whole.is at s in D.deepest _ c.in-Whole.tree.node e h.0 (omega (arith, h.1, h.2)); shallow = tt }
