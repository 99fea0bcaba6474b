use Rattle.net_build.proofs.Logic.{logic_none}
use Rattle.edge_select.proofs.Depth.{none_over, some_over}
use Rattle.std.proofs.Common.{rules}
use Rattle.edge_select.proofs.frame_conditions.test_net.Goals as goal

pub returns-in-Some : goal.returns-in-Some
returns-in-Some c = record {
  logic = logic_none c.args.b.now;
  test = search rules;
  depth = some_over c.args.b.now c.args.test c.in-Some.net c.in-Some.is;
}

pub returns-in_ok-net-in-None : goal.returns-in_ok-net-in-None
returns-in_ok-net-in-None c = record {
  logic = c.in_ok-net-in-None.ensures.logic;
  test = search rules;
  depth = none_over c.constant_test.new.b c.args.b.now c.args.test c.in_ok-net-in-None.net c.in-None.is c.in_ok-net-in-None.ensures.depth;
}
