use Rattle.pointwise_ir.proofs.Rewritten.{keeps_meaning, still_program}
use Rattle.pointwise_ir.proofs.laws.rewriting_law.Goals as goal

pub returns-clause-program : goal.returns-clause-program
returns-clause-program c = λ old new is are. still_program old new is are

pub returns-clause-meaning : goal.returns-clause-meaning
returns-clause-meaning c = λ old new is are. keeps_meaning old new is are
