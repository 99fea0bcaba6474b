use Rattle.std.proofs.Common.{refl, lit<}
use Rattle.made_program.proofs.Digits.{digit, greatest}
use Rattle.made_program.proofs.worked.made_of_six_definitions.Goals as goal

pub returns-clause-program : goal.returns-clause-program
returns-clause-program c = rw (digit 7 (lit< tt), digit 1 (lit< tt), digit 2 (lit< tt), digit 3 (lit< tt), digit 4 (lit< tt), digit 5 (lit< tt), digit 6 (lit< tt)) refl

pub returns-clause-image : goal.returns-clause-image
returns-clause-image c = rw (digit 7 (lit< tt), digit 1 (lit< tt), greatest) refl
