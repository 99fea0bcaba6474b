use Rattle.std.proofs.Common.{arith}
use Rattle.made_program.proofs.Lengths.{program_length}
use Rattle.made_program.proofs.Reading.{image_length}
use Rattle.made_program.proofs.laws.made_is_small_law.Goals as goal

pub returns-clause-program : goal.returns-clause-program
returns-clause-program c = λ n. omega (arith, program_length n)

pub returns-clause-image : goal.returns-clause-image
returns-clause-image c = λ n. omega (arith, image_length n)

pub returns-clause-width : goal.returns-clause-width
returns-clause-width c = λ n. (omega arith, omega arith)

pub returns-clause-height : goal.returns-clause-height
returns-clause-height c = λ n. (omega arith, omega arith)
