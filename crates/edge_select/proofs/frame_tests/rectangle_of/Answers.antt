use Rattle.std.proofs.Common.{subst}
use Rattle.dk_base.specs.Frames.{Size}
use Rattle.dk_base.specs.FrameSizes.{size_of}
use Rattle.frame_paths.specs.Moves.{IsIn}
use Rattle.net_build.proofs.Parts.{includes_on}
use Rattle.net_build.proofs.Logic.{logic_on}
use Rattle.edge_select.specs.FrameTests.{AreFrameTests, IsPartTest}
use Rattle.edge_select.proofs.Beside.{beside_logic, beside_on}
use Rattle.edge_select.proofs.Framed.{part_bit, part_test_more, tests_more, rectangle_frame_test}
use Rattle.edge_select.proofs.Everywhere.{none_added}
use Rattle.edge_select.proofs.Bits.{counts_on, counts_logic}
use Rattle.edge_select.proofs.Depth.{part_depth_more, rectangle_depth}
use Rattle.edge_select.specs.Asked.{SeparatesRows, AddsOnly}
use Rattle.edge_select.proofs.Asked.{only_rectangle}
use Rattle.edge_select.proofs.frame_tests.rectangle_of.Goals as goal

pub both-requires-clause-one : goal.both-requires-clause-one
both-requires-clause-one c =
    let size = size_of c.args.tests.now.size in
    part_bit c.down_test.new.b size c.args.delay (λ x y. IsIn c.args.rectangle.across x) c.in_ok-across.across
    (part_test_more c.down_test.new.b c.across_test.new.b size c.args.delay (λ x y. IsIn c.args.rectangle.across x) c.in_ok-across.across c.in_ok-down.ensures.adds.includes c.in_ok-across.ensures.test)

pub returns : goal.returns
returns c = record {
  adds = beside_on c.args.b.now c.down_test.new.b c.test_net.new.b _ _ _ (beside_on _ _ _ _ _ _ c.in_ok-across.ensures.adds c.in_ok-down.ensures.adds) (beside_logic _ _ _ (logic_on _ _ _ c.in_ok-test.ensures.logic c.in_ok-net.ensures.logic));
  registers = counts_logic c.test_net.new.b c.down_test.new.b c.args.b.now c.down_test.new.tests c.args.tests.now (logic_on _ _ _ c.in_ok-test.ensures.logic c.in_ok-net.ensures.logic)
      (counts_on c.args.b.now c.across_test.new.b c.down_test.new.b c.args.tests.now c.across_test.new.tests c.down_test.new.tests c.in_ok-across.ensures.registers c.in_ok-down.ensures.registers);
  only = let size = size_of c.args.tests.now.size in
      only_rectangle size c.args.tests.now.size.sides.some_columns c.args.tests.now.size.sides.some_rows c.args.delay c.args.rectangle c.down_test.new.tests c.across_test.new.tests c.args.tests.now c.requires.rectangle c.in_ok-across.ensures.only
      (subst (λ (z : Size). AddsOnly c.down_test.new.tests c.across_test.new.tests (λ t. ⊥) (SeparatesRows z c.args.delay (IsIn c.args.rectangle.down))) c.in_ok-across.ensures.tests.size_is c.in_ok-down.ensures.only);
  none = λ all. none_added c.down_test.new.tests c.across_test.new.tests c.args.tests.now c.args.rectangle c.args.tests.now.size.sides.some_columns c.args.tests.now.size.sides.some_rows c.in_ok-across.ensures.tests.size_is c.in_ok-across.ensures.none c.in_ok-down.ensures.none all;
  tests = let same = c.in_ok-across.ensures.tests.size_is in
      tests_more c.test_net.new.b c.down_test.new.b (size_of c.args.tests.now.size) c.down_test.new.tests (includes_on _ _ _ c.in_ok-test.ensures.logic.includes c.in_ok-net.ensures.logic.includes)
      (subst (λ (z : Size). AreFrameTests c.down_test.new.b z c.down_test.new.tests) same c.in_ok-down.ensures.tests);
  test = let size = size_of c.args.tests.now.size in
      let same = c.in_ok-across.ensures.tests.size_is in
      let r = c.args.rectangle in
      rectangle_frame_test c.test_net.new.b c.both.new.b c.down_test.new.b size c.args.delay c.args.tests.now.size.sides.some_columns c.args.tests.now.size.sides.some_rows r c.in_ok-across.across c.in_ok-down.down c.in_ok-test.test c.in_ok-net.net c.in_ok-test.ensures.logic.includes c.in_ok-net.ensures.logic.includes
      (part_test_more c.down_test.new.b c.across_test.new.b size c.args.delay (λ x y. IsIn c.args.rectangle.across x) c.in_ok-across.across c.in_ok-down.ensures.adds.includes c.in_ok-across.ensures.test)
      (subst (λ (z : Size). IsPartTest c.down_test.new.b z c.args.delay (λ x y. IsIn c.args.rectangle.down y) c.in_ok-down.down) same c.in_ok-down.ensures.test) c.in_ok-test.ensures.test c.in_ok-net.ensures.test;
  depth = rectangle_depth c.test_net.new.b c.both.new.b c.down_test.new.b c.in_ok-across.across c.in_ok-down.down c.in_ok-test.test c.in_ok-net.net c.in_ok-test.ensures.logic.includes c.in_ok-net.ensures.logic.includes
      (part_depth_more c.down_test.new.b c.across_test.new.b c.in_ok-across.across c.in_ok-down.ensures.adds.includes c.in_ok-across.ensures.depth) c.in_ok-down.ensures.depth c.in_ok-test.ensures.depth c.in_ok-net.ensures.depth;
}
