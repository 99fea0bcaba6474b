use Rattle.std.proofs.Common.{Option, sym, subst, rules}
use Rattle.dk_base.specs.FrameSizes.{size_of}
use Rattle.edge_select.specs.declared.paths.Rectangle.{Rectangle}
use Rattle.edge_select.specs.Passes.{PassesOn}
use Rattle.edge_select.specs.FrameTests.{IsFrameTest}
use Rattle.edge_select.proofs.Beside.{beside_logic}
use Rattle.edge_select.proofs.Framed.{tests_more}
use Rattle.edge_select.specs.Pixels.{AllPass}
use Rattle.edge_select.proofs.Bits.{counts_none}
use Rattle.edge_select.proofs.Depth.{constant_depth}
use Rattle.edge_select.specs.Asked.{InColumn, InRow, SeparatesColumns, SeparatesRows, AddsFor}
use Rattle.edge_select.proofs.Asked.{only_same}
use Rattle.edge_select.proofs.frame_tests.test_of.Goals as goal

pub returns-in_ok-net-in-Some : goal.returns-in_ok-net-in-Some
returns-in_ok-net-in-Some c = record {
  adds = search rules;
  registers = search rules;
  only = subst (λ (o : Option Rectangle). AddsFor (size_of c.args.tests.now.size) c.args.delay (PassesOn o) c.rectangle_of.new.tests c.args.tests.now) (sym c.in-Some.is) c.in_ok-net-in-Some.ensures.only;
  none = λ all. c.in_ok-net-in-Some.ensures.none (subst (λ (o : Option Rectangle). AllPass c.args.tests.now.size.width c.args.tests.now.size.height (PassesOn o)) c.in-Some.is all);
  tests = search rules;
  test = subst (λ (o : Option Rectangle). IsFrameTest c.rectangle_of.new.b (size_of c.args.tests.now.size) c.args.delay (PassesOn o) c.in_ok-net-in-Some.net) (sym c.in-Some.is) c.in_ok-net-in-Some.ensures.test;
  depth = search rules;
}

pub returns-in_ok-net-in-None : goal.returns-in_ok-net-in-None
returns-in_ok-net-in-None c = record {
  adds = beside_logic c.constant_test.new.b c.args.b.now c.args.tests.now.counters c.in_ok-net-in-None.ensures.logic;
  registers = counts_none c.constant_test.new.b c.args.b.now c.args.tests.now c.in_ok-net-in-None.ensures.logic;
  only = let size = size_of c.args.tests.now.size in
      only_same c.args.tests.now (SeparatesColumns size c.args.delay (InColumn size (PassesOn c.args.rectangle))) (SeparatesRows size c.args.delay (InRow size (PassesOn c.args.rectangle)));
  none = search rules;
  tests = tests_more c.constant_test.new.b c.args.b.now (size_of c.args.tests.now.size) c.args.tests.now c.in_ok-net-in-None.ensures.logic.includes c.requires.tests;
  test = search rules;
  depth = constant_depth c.constant_test.new.b c.args.b.now 2 c.in_ok-net-in-None.net c.in_ok-net-in-None.ensures.logic.includes c.in_ok-net-in-None.ensures.depth;
}
