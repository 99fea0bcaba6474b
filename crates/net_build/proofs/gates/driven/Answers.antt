use Rattle.net_build.proofs.Logic.{logic_op}
use Rattle.net_build.proofs.Depth.{within_wire}
use Rattle.net_build.proofs.gates.driven.Goals as goal

pub returns-clause-logic : goal.returns-clause-logic
returns-clause-logic c = logic_op c.args.b.now c.op.new.self c.args.right c.requires.no_array c.op.ensures.includes c.in_ok-net.ensures.ok c.op.ensures.wires c.op.ensures.stops c.op.ensures.control

pub returns-clause-gate : goal.returns-clause-gate
returns-clause-gate c = record {
  net = c.in_ok-net.ensures.net;
  width = c.in_ok-net.ensures.width;
  value = c.in_ok-net.ensures.value;
  made_of = c.in_ok-net.ensures.made_of;
  within = λ base j all. within_wire c.op.new.self _ c.args.right base j c.in_ok-net.ensures.made all;
}
