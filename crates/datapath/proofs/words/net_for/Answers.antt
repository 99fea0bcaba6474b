use Rattle.datapath.proofs.Growth.{grown, net_is, at_most_one}
use Rattle.datapath.proofs.words.net_for.Goals as goal

pub returns-clause-grows : goal.returns-clause-grows
returns-clause-grows c = grown _ _ c.args.operation c.op.result c.requires.no_array c.op.ensures.includes c.op.ensures.ok c.op.ensures.err c.op.ensures.wires c.op.ensures.stops c.op.ensures.control

pub returns-clause-net : goal.returns-clause-net
returns-clause-net c = net_is _ _ c.args.operation _ c.law.ensures.fits c.in_ok-net.ensures.net c.in_ok-net.ensures.width c.in_ok-net.ensures.value c.in_ok-net.ensures.made

pub returns-clause-one : goal.returns-clause-one
returns-clause-one c = at_most_one _ _ c.args.operation c.op.result c.op.ensures.ok c.op.ensures.err
