use Rattle.edge_select.specs.Bands.{in_band}
use Rattle.edge_select.proofs.frame_tests.next_column_test.Goals as goal

pub returns : goal.returns
returns c = record {
  logic = c.in_ok-net.ensures.logic;
  test = record {
    test = in_band c.args.k.now.pixel.size.width c.before-earlier.result;
    computes = c.in_ok-net.ensures.test;
    right = c.before-earlier.ensures.before;
  };
  depth = c.in_ok-net.ensures.depth;
}
