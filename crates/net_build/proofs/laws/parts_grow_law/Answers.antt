use Rattle.net_build.proofs.Parts.{Includes-refl, Includes-trans}
use Rattle.net_build.proofs.Grown.{net_more, operation_more}
use Rattle.net_build.proofs.Control.{made_more, made_wider}
use Rattle.net_build.proofs.laws.parts_grow_law.Goals as goal

pub returns-clause-same : goal.returns-clause-same
returns-clause-same c m = Includes-refl m

pub returns-clause-joined : goal.returns-clause-joined
returns-clause-joined c z y x f g = Includes-trans z y x f g

pub returns-clause-net : goal.returns-clause-net
returns-clause-net c b a f n is = net_more b a f n is

pub returns-clause-operation : goal.returns-clause-operation
returns-clause-operation c b a f r is = operation_more b a f r is

pub returns-clause-made_of : goal.returns-clause-made_of
returns-clause-made_of c b a f base h is = made_more b a base f is

pub returns-clause-wider : goal.returns-clause-wider
returns-clause-wider c b base wide up h is = made_wider b base wide up is
