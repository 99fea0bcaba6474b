use Rattle.batch_guess.specs.Guess.{KeepsCode}
use Rattle.batch_guess.proofs.guess.RowGuess.guess_all.Given as goal

abbrev pub invariant-loop-place : goal.invariant-loop-place
invariant-loop-place l = KeepsCode l.fn.self l.self
