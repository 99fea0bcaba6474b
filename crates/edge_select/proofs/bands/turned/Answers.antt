use Rattle.net_build.proofs.Logic.{logic_none}
use Rattle.edge_select.proofs.Depth.{same_over}
use Rattle.std.proofs.Common.{rules}
use Rattle.edge_select.proofs.bands.turned.Goals as goal

pub returns : goal.returns
returns c = record {
  logic = logic_none c.args.b.now;
  test = search rules;
  depth = same_over c.args.b.now c.args.test;
}
