use Rattle.std.proofs.Common.{refl, lit<}
use Rattle.made_program.proofs.Digits.{digit, greatest}
use Rattle.made_program.proofs.worked.made_of_three.Goals as goal

pub returns-clause-program : goal.returns-clause-program
returns-clause-program c = rw (digit 4 (lit< tt), digit 1 (lit< tt)) refl

pub returns-clause-image : goal.returns-clause-image
returns-clause-image c = rw (digit 4 (lit< tt), digit 1 (lit< tt), greatest) refl

pub returns-clause-line : goal.returns-clause-line
returns-clause-line c = rw (digit 3 (lit< tt), digit 4 (lit< tt), digit 0 (lit< tt), digit 1 (lit< tt), digit 8 (lit< tt)) refl
