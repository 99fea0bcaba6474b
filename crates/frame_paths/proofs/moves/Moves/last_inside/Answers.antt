use Rattle.std.proofs.Common.{arith, inl}
use Rattle.std.proofs.lemmas.Int.{ints, clamps}
use Rattle.frame_paths.proofs.moves.Moves.last_inside.Goals as goal

pub returns-then-high-edge : goal.returns-then-high-edge
returns-then-high-edge c = inl (omega (arith, ints), omega (arith, ints, clamps, c.min.ensures.value))
