use Rattle.std.proofs.Common.{arith, inl}
use Rattle.std.proofs.lemmas.Int.{ints, clamps}
use Rattle.frame_paths.proofs.moves.Moves.first_inside.Goals as goal

pub returns-then-low-lt0 : goal.returns-then-low-lt0
returns-then-low-lt0 c = inl (omega (arith, ints), omega (arith, ints, clamps, c.max.ensures.value))
