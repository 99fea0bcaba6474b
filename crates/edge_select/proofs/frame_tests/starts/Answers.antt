use Rattle.std.proofs.Common.{◌==◌}
use Rattle.edge_select.proofs.Earlier.{after_is}
use Rattle.edge_select.proofs.frame_tests.starts.Goals as goal

pub returns : goal.returns
returns c = record {
  logic = c.in_ok-net.ensures.logic;
  test = record {
    test = λ x. x == c.one_before-earlier.result;
    computes = c.in_ok-net.ensures.test;
    right = λ x low. after_is c.args.k.now.pixel.size.width x c.one_before-earlier.result c.args.start low c.one_before-earlier.ensures.low c.one_before-earlier.ensures.next;
  };
  depth = c.in_ok-net.ensures.depth;
}
