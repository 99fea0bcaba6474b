use Rattle.edge_select.proofs.Inverting.{negated_is}
use Rattle.edge_select.proofs.Depth.{negated_over}
use Rattle.edge_select.proofs.Failing.{at_err}
use Rattle.edge_select.proofs.bands.negated.Goals as goal

pub returns : goal.returns
returns c = record {
  logic = c.gate.ensures.logic;
  test = negated_is c.args.b.now c.gate.new.b c.args.test c.in_ok-net.net c.gate.ensures.logic.includes c.requires.net c.requires.width c.in_ok-net.ensures.gate;
  depth = negated_over c.gate.new.b c.args.b.now c.args.test c.in_ok-net.net c.gate.ensures.logic.includes c.in_ok-net.ensures.gate;
}

pub returns-in_err-net : goal.returns-in_err-net
returns-in_err-net c = at_err _ _ c.from_residual.result c.from_residual.ensures.1 (c.gate.ensures.logic)
