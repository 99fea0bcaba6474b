use Rattle.net_build.proofs.Logic.{logic_on}
use Rattle.edge_select.proofs.Inverting.{inside_is, is_inside, outside_is, is_outside}
use Rattle.edge_select.proofs.Failing.{at_err}
use Rattle.std.proofs.Common.{[], ◌∷◌, arith}
use Rattle.edge_select.proofs.Levels.{turned_over, over_deeper}
use Rattle.edge_select.proofs.bands.band_test.Goals as goal

pub returns : goal.returns
returns c = record {
  logic = logic_on _ _ _ c.in_ok-net.ensures.logic c.in_ok-other.ensures.logic;
  test = outside_is c.negated.new.b c.interval_test.new.b c.args.b.now c.args.x c.in_ok-net.net c.in_ok-other.other c.args.side c.args.band (is_outside c.args.band.outside c.if-not-band.false) c.in_ok-other.ensures.logic.includes c.in_ok-net.ensures.test c.in_ok-other.ensures.test;
  depth = turned_over c.negated.new.b c.interval_test.new.b c.args.b.now 3 (c.args.x ∷ []) c.in_ok-net.net c.in_ok-other.other c.in_ok-net.ensures.depth c.in_ok-other.ensures.depth;
}

pub returns-in_err-other : goal.returns-in_err-other
returns-in_err-other c = at_err _ _ c.from_residual-in_err-other.result c.from_residual-in_err-other.ensures.1 (logic_on _ _ _ c.in_ok-net.ensures.logic c.in_err-other.ensures)

pub returns-then-not-band : goal.returns-then-not-band
returns-then-not-band c = record {
  logic = c.in_ok-net.ensures.logic;
  test = inside_is c.interval_test.new.b c.args.b.now c.args.x c.in_ok-net.net c.args.side c.args.band (is_inside c.args.band.outside c.if-not-band.true) c.in_ok-net.ensures.test;
  depth = over_deeper c.interval_test.new.b c.args.b.now 3 4 (c.args.x ∷ []) c.in_ok-net.net (omega arith) c.in_ok-net.ensures.depth;
}
