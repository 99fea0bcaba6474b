use Rattle.net_build.proofs.Known.{absent_from}
use Rattle.net_build.proofs.grow.place_of.Goals as goal

pub returns-clause-absent : goal.returns-clause-absent
returns-clause-absent g c = absent_from g.met.T.Eq.laws c.args.key.now c.args.known.now.keys c.get_index_of.result c.get_index_of.ensures.index
