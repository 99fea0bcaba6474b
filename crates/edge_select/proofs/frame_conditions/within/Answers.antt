use Rattle.std.proofs.Common.{[], ◌∷◌}
use Rattle.wiring.specs.Snapshot.{net_value}
use Rattle.edge_select.specs.Logic.{is_up_to, is_from}
use Rattle.net_build.proofs.Logic.{logic_on}
use Rattle.edge_select.proofs.Combining.{tests_bit, bit_more, tests_more, tests_since, both_tests}
use Rattle.edge_select.proofs.Failing.{at_err}
use Rattle.edge_select.proofs.Levels.{both_depth}
use Rattle.edge_select.proofs.frame_conditions.within.Goals as goal

pub both-requires-clause-one : goal.both-requires-clause-one
both-requires-clause-one c = bit_more c.at_most.new.b c.at_least.new.b c.in_ok-low.low c.in_ok-high.ensures.logic.includes (tests_bit c.at_least.new.b c.args.b.now (c.args.x ∷ []) _ c.in_ok-low.low c.in_ok-low.ensures.test)

pub both-requires-clause-other : goal.both-requires-clause-other
both-requires-clause-other c = tests_bit c.at_most.new.b c.at_least.new.b (c.args.x ∷ []) _ c.in_ok-high.high c.in_ok-high.ensures.test

pub returns : goal.returns
returns c = record {
  logic = logic_on _ _ _ c.in_ok-low.ensures.logic (logic_on _ _ _ c.in_ok-high.ensures.logic c.in_ok-test.ensures.logic);
  test = let old = c.args.b.now in
      let one = c.at_least.new.b in
      let two = c.at_most.new.b in
      let from = c.args.x ∷ [] in
      both_tests c.both.new.b two old from (λ s. is_from c.args.side c.args.interval.first (net_value s c.args.x)) (λ s. is_up_to c.args.side c.args.interval.last (net_value s c.args.x)) c.in_ok-low.low c.in_ok-high.high c.in_ok-test.test c.in_ok-test.ensures.logic.includes
      (tests_more two one old from _ c.in_ok-low.low c.in_ok-high.ensures.logic.includes c.in_ok-low.ensures.test) (tests_since two one old from _ c.in_ok-high.high c.in_ok-low.ensures.logic.includes c.in_ok-high.ensures.test) c.in_ok-test.ensures.test;
  depth = both_depth c.both.new.b c.at_most.new.b c.at_least.new.b c.args.b.now c.in_ok-low.low c.in_ok-high.high c.in_ok-test.test (c.args.x ∷ []) c.in_ok-low.ensures.logic.includes c.in_ok-high.ensures.logic.includes c.in_ok-low.ensures.depth c.in_ok-high.ensures.depth c.in_ok-test.ensures.depth;
}

pub returns-in_err-high : goal.returns-in_err-high
returns-in_err-high c = at_err _ _ c.from_residual-in_err-high.result c.from_residual-in_err-high.ensures.1 (logic_on _ _ _ c.in_ok-low.ensures.logic c.in_err-high.ensures)

pub returns-in_err-test : goal.returns-in_err-test
returns-in_err-test c = at_err _ _ c.from_residual-in_err-test.result c.from_residual-in_err-test.ensures.1 (logic_on _ _ _ c.in_ok-low.ensures.logic (logic_on _ _ _ c.in_ok-high.ensures.logic c.in_err-test.ensures))
