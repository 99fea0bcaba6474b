use Rattle.batch_guess.specs.Guess.{KeepsCode}
use Rattle.batch_guess.proofs.guess.RowGuess.guess_cycle.Given as goal

abbrev pub invariant-loop-round : goal.invariant-loop-round
invariant-loop-round l = KeepsCode l.fn.self l.self
