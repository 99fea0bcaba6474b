use Rattle.batch_guess.specs.Guess.{KeepsCode}
use Rattle.batch_guess.proofs.guess.RowGuess.take_all.Given as goal

abbrev pub invariant-loop-number : goal.invariant-loop-number
invariant-loop-number l = KeepsCode l.fn.self l.self
