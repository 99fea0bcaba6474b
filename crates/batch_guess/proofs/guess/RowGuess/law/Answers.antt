use Rattle.std.proofs.Common.{subst}
use Rattle.batch_rows.specs.Code.{HaveRun}
use Rattle.batch_guess.specs.Guess.{Guessed}
use Rattle.batch_guess.proofs.guess.RowGuess.law.Goals as goal

pub returns : goal.returns
returns c = subst (λ (g : Guessed). HaveRun g.engine.code.widths.items g.engine.code.instructions.items g.long g.rows g.done) c.self.view_is c.self.invariant.1.ran
