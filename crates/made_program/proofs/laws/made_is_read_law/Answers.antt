use Rattle.std.proofs.Common.{sym, subst, List, ℕ, [], ◌∷◌, lit<, lit≤}
use Rattle.pgm_codec.specs.Images.{IsFile}
use Rattle.made_program.specs.Images.{picture_of}
use Rattle.made_program.proofs.Reading.{image_written, can_be_written, one_round}
use Rattle.made_program.proofs.laws.made_is_read_law.Goals as goal

pub returns-clause-written : goal.returns-clause-written
returns-clause-written c = image_written

pub returns-clause-file : goal.returns-clause-file
returns-clause-file c = λ n.
    let P : List ℕ → Type 0 = λ bytes. IsFile bytes (picture_of n ∷ []) in
    subst P (sym (image_written n)) (c.read_again_law.ensures (picture_of n ∷ []) (lit< tt) (lit≤ tt) (can_be_written n, tt))

pub returns-clause-fits : goal.returns-clause-fits
returns-clause-fits c = one_round
