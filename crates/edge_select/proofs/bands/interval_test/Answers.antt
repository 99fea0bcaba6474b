use Rattle.std.proofs.Common.{[], ◌∷◌, arith}
use Rattle.net_build.proofs.Logic.{logic_on}
use Rattle.edge_select.proofs.Combining.{test_computes}
use Rattle.edge_select.proofs.Inverting.{one_is, more_is}
use Rattle.edge_select.proofs.Failing.{at_err}
use Rattle.edge_select.proofs.Levels.{test_depth, over_deeper}
use Rattle.edge_select.proofs.bands.interval_test.Goals as goal

pub returns : goal.returns
returns c = record {
  logic = logic_on _ _ _ c.in_ok-test.ensures.logic c.in_ok-net-2.ensures.logic;
  test = more_is c.test_net.new.b c.args.b.now c.args.x c.in_ok-net-2.net c.args.side c.args.band.first c.args.band.last (λ e. c.if-band.false (omega (arith, e)))
      (test_computes c.test_net.new.b c.within.new.b c.args.b.now (c.args.x ∷ []) _ c.in_ok-test.test c.in_ok-net-2.net c.in_ok-net-2.ensures.logic.includes c.in_ok-test.ensures.logic.includes c.in_ok-test.ensures.test c.in_ok-net-2.ensures.test);
  depth = test_depth c.test_net.new.b c.within.new.b c.args.b.now c.in_ok-test.test 3 (c.args.x ∷ []) c.in_ok-net-2.net c.in_ok-test.ensures.depth c.in_ok-net-2.ensures.depth;
}

pub returns-in_err-net-2 : goal.returns-in_err-net-2
returns-in_err-net-2 c = at_err _ _ c.from_residual-in_err-net-2.result c.from_residual-in_err-net-2.ensures.1 (logic_on _ _ _ c.in_ok-test.ensures.logic c.in_err-net-2.ensures)

pub returns-then-band : goal.returns-then-band
returns-then-band c = record {
  logic = c.in_ok-net.ensures.logic;
  test = one_is c.equal_to.new.b c.args.b.now c.args.x c.in_ok-net.net c.args.side c.args.band.first c.args.band.last (omega (arith, c.if-band.true)) c.in_ok-net.ensures.test;
  depth = over_deeper c.equal_to.new.b c.args.b.now 1 3 (c.args.x ∷ []) c.in_ok-net.net (omega arith) c.in_ok-net.ensures.depth;
}
