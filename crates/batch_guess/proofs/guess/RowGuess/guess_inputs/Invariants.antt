use Rattle.batch_guess.specs.Guess.{KeepsCode}
use Rattle.batch_guess.proofs.guess.RowGuess.guess_inputs.Given as goal

abbrev pub invariant-loop-input : goal.invariant-loop-input
invariant-loop-input l = KeepsCode l.fn.self l.self
