use Rattle.edge_select.proofs.Beginning.{unless_is}
use Rattle.edge_select.proofs.Failing.{at_err}
use Rattle.edge_select.proofs.Levels.{unless_over}
use Rattle.edge_select.proofs.starts.unless_reset.Goals as goal

pub returns : goal.returns
returns c = record {
  logic = c.gate.ensures.logic;
  test = unless_is c.args.b.now c.gate.new.b c.rst-reset.result c.args.register c.in_ok-net.net c.number.result c.gate.ensures.logic.includes c.rst-reset.ensures.reset c.rst-reset.ensures.net c.rst-reset.ensures.width c.requires.net c.requires.width c.number.ensures c.in_ok-net.ensures.gate;
  depth = unless_over c.gate.new.b c.args.b.now c.rst-reset.result c.args.register c.in_ok-net.net c.number.result _ c.gate.ensures.logic.includes c.rst-reset.ensures.reset c.number.ensures c.in_ok-net.ensures.gate;
}

pub returns-in_err-net : goal.returns-in_err-net
returns-in_err-net c = at_err _ _ c.from_residual.result c.from_residual.ensures.1 (c.gate.ensures.logic)
