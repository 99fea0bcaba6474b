use Rattle.std.proofs.Common.{[], ◌∷◌, ◌∙◌, rules}
use Rattle.wiring.specs.Snapshot.{net_value}
use Rattle.net_build.proofs.Parts.{includes_on}
use Rattle.net_build.proofs.Grown.{net_more, width_more}
use Rattle.edge_select.specs.Logic.{is_within}
use Rattle.net_build.proofs.Logic.{logic_on, first_in, second_in, none_in, more_in}
use Rattle.edge_select.proofs.Combining.{tests_bit, bit_more, tests_more, tests_since, tests_from, both_tests, test_computes}
use Rattle.edge_select.proofs.Failing.{at_err}
use Rattle.edge_select.proofs.frame_conditions.rectangle_test.Goals as goal

pub both-requires-clause-one : goal.both-requires-clause-one
both-requires-clause-one c = bit_more c.within-2.new.b c.within.new.b c.in_ok-across.across c.in_ok-down.ensures.logic.includes (tests_bit c.within.new.b c.args.b.now _ _ c.in_ok-across.across c.in_ok-across.ensures.test)

pub both-requires-clause-other : goal.both-requires-clause-other
both-requires-clause-other c = tests_bit c.within-2.new.b c.within.new.b _ _ c.in_ok-down.down c.in_ok-down.ensures.test

pub returns : goal.returns
returns c = record {
  logic = logic_on _ _ _ c.in_ok-across.ensures.logic (logic_on _ _ _ c.in_ok-down.ensures.logic (logic_on _ _ _ c.in_ok-test.ensures.logic c.in_ok-net.ensures.logic));
  test = let p = c.args.pixel.now in
      let r = c.args.rectangle in
      let old = c.args.b.now in
      let one = c.within.new.b in
      let two = c.within-2.new.b in
      let three = c.both.new.b in
      let from = p.column ∷ (p.row ∷ []) in
      let f1 = c.in_ok-across.ensures.logic.includes in
      let f2 = c.in_ok-down.ensures.logic.includes in
      let f3 = c.in_ok-test.ensures.logic.includes in
      let across = tests_more two one old from _ c.in_ok-across.across f2 (tests_from one old from (p.column ∷ []) _ c.in_ok-across.across (more_in from p.column [] (first_in p.column (p.row ∷ [])) (none_in from)) c.in_ok-across.ensures.test) in
      let down = tests_since two one old from _ c.in_ok-down.down f1 (tests_from two one from (p.row ∷ []) _ c.in_ok-down.down (more_in from p.row [] (second_in p.column p.row []) (none_in from)) c.in_ok-down.ensures.test) in
      test_computes c.test_net.new.b three old from _ c.in_ok-test.test c.in_ok-net.net c.in_ok-net.ensures.logic.includes (includes_on _ _ _ f1 (includes_on _ _ _ f2 f3))
      (both_tests three two old from (λ s. is_within p.size.width r.across.first r.across.last (net_value s p.column)) (λ s. is_within p.size.height r.down.first r.down.last (net_value s p.row)) c.in_ok-across.across c.in_ok-down.down c.in_ok-test.test f3 across down c.in_ok-test.ensures.test)
      c.in_ok-net.ensures.test;
}

pub within-requires-2-clause-coordinate : goal.within-requires-2-clause-coordinate
within-requires-2-clause-coordinate c = record {
  some = search rules;
  most = search rules;
  x = net_more _ _ c.in_ok-across.ensures.logic.includes c.args.pixel.now.row c.requires.pixel.row;
  width = width_more _ _ c.in_ok-across.ensures.logic.includes c.args.pixel.now.row c.requires.pixel.row.declared ∙ c.requires.pixel.row_width;
}

pub returns-in_err-down : goal.returns-in_err-down
returns-in_err-down c = at_err _ _ c.from_residual-in_err-down.result c.from_residual-in_err-down.ensures.1 (logic_on _ _ _ c.in_ok-across.ensures.logic c.in_err-down.ensures)

pub returns-in_err-test : goal.returns-in_err-test
returns-in_err-test c = at_err _ _ c.from_residual-in_err-test.result c.from_residual-in_err-test.ensures.1 (logic_on _ _ _ c.in_ok-across.ensures.logic (logic_on _ _ _ c.in_ok-down.ensures.logic c.in_err-test.ensures))

pub returns-in_err-net : goal.returns-in_err-net
returns-in_err-net c = at_err _ _ c.from_residual-in_err-net.result c.from_residual-in_err-net.ensures.1 (logic_on _ _ _ c.in_ok-across.ensures.logic (logic_on _ _ _ c.in_ok-down.ensures.logic (logic_on _ _ _ c.in_ok-test.ensures.logic c.in_err-net.ensures)))
