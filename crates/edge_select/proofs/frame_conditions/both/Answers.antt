use Rattle.net_build.proofs.Logic.{logic_none}
use Rattle.edge_select.proofs.Combining.{both_net}
use Rattle.edge_select.proofs.Depth.{other_over, first_over, both_over}
use Rattle.edge_select.proofs.Failing.{at_err}
use Rattle.std.proofs.Common.{rules}
use Rattle.edge_select.proofs.frame_conditions.both.Goals as goal

pub returns-in-None : goal.returns-in-None
returns-in-None c = record {
  logic = logic_none c.args.b.now;
  test = search rules;
  depth = other_over c.args.b.now c.args.one c.args.other c.in-None.is;
}

pub returns-in-None-other : goal.returns-in-None-other
returns-in-None-other c = record {
  logic = logic_none c.args.b.now;
  test = search rules;
  depth = first_over c.args.b.now c.args.one c.args.other c.in-Some.left c.in-Some.is c.in-None-other.is;
}

pub returns-in_ok-net-in-Some-other : goal.returns-in_ok-net-in-Some-other
returns-in_ok-net-in-Some-other c = record {
  logic = c.gate.ensures.logic;
  test = both_net c.gate.new.b c.args.b.now c.args.one c.args.other c.in-Some.left c.in-Some-other.right c.in_ok-net-in-Some-other.net c.in-Some.is c.in-Some-other.is c.requires.one c.requires.other c.gate.ensures.logic.includes c.in_ok-net-in-Some-other.ensures.gate;
  depth = both_over c.gate.new.b c.args.b.now c.args.one c.args.other c.in-Some.left c.in-Some-other.right c.in_ok-net-in-Some-other.net c.in-Some.is c.in-Some-other.is c.gate.ensures.logic.includes c.in_ok-net-in-Some-other.ensures.gate;
}

pub returns-in_err-net-in-Some-other : goal.returns-in_err-net-in-Some-other
returns-in_err-net-in-Some-other c = at_err _ _ c.from_residual.result c.from_residual.ensures.1 (c.gate.ensures.logic)
