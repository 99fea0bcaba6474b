use Rattle.std.proofs.Common.{refl}
use lib.Count
use Rattle.body_levels.proofs.worked.worked_operator_levels.Goals as goal

pub returns-clause-double : goal.returns-clause-double
unfolding lib.Count.ones
returns-clause-double c = refl

pub returns-clause-triple : goal.returns-clause-triple
unfolding lib.Count.ones
returns-clause-triple c = refl

pub returns-clause-mean : goal.returns-clause-mean
unfolding lib.Count.ones
returns-clause-mean c = refl

pub returns-clause-half : goal.returns-clause-half
unfolding lib.Count.ones
returns-clause-half c = refl
