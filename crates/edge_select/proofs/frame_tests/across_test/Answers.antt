use Rattle.std.proofs.Common.{[], ◌∷◌, ℕ, ◌%◌, ap, subst, ◌≡◌, ◌∙◌, rules}
use Rattle.dk_base.specs.FrameSizes.{size_of}
use Rattle.edge_select.specs.declared.bands.Band.{Band}
use Rattle.edge_select.specs.FrameTests.{IsColumnTest}
use Rattle.edge_select.proofs.Beside.{beside_none, beside_logic, beside_on}
use Rattle.edge_select.proofs.Framed.{tests_more, column_frame_test}
use Rattle.edge_select.proofs.Bits.{counts_logic}
use Rattle.edge_select.proofs.Everywhere.{not_all}
use Rattle.edge_select.proofs.Differing.{band_divides}
use Rattle.net_build.specs.Control.{is_control}
use Rattle.edge_select.proofs.Depth.{one_within, depth_over}
use Rattle.frame_paths.specs.Moves.{IsIn}
use Rattle.edge_select.specs.Asked.{SeparatesColumns}
use Rattle.edge_select.proofs.Asked.{only_same, only_by, separates_columns}
use Rattle.edge_select.proofs.frame_tests.across_test.Goals as goal

pub returns-then-is_whole : goal.returns-then-is_whole
returns-then-is_whole c = record {
  adds = beside_none c.args.b.now c.args.tests.now.counters;
  registers = search rules;
  only = only_same c.args.tests.now (SeparatesColumns (size_of c.args.tests.now.size) c.args.delay (IsIn c.args.interval)) (λ t. ⊥);
  none = search rules;
  tests = search rules;
  test = search rules;
  depth = search rules;
}

pub returns : goal.returns
returns c = record {
  adds = beside_on c.args.b.now c.column_test.new.b c.turned.new.b _ _ _ c.in_ok-test.ensures.adds (beside_logic _ _ _ c.in_ok-net.ensures.logic);
  registers = counts_logic c.turned.new.b c.column_test.new.b c.args.b.now c.column_test.new.tests c.args.tests.now c.in_ok-net.ensures.logic c.in_ok-test.ensures.registers;
  only = let size = size_of c.args.tests.now.size in
      only_by c.column_test.new.tests c.args.tests.now (λ t. t.band ≡ c.interval_of.result) (λ t. ⊥) (SeparatesColumns size c.args.delay (IsIn c.args.interval)) (λ t. ⊥)
      (λ t is. separates_columns size c.args.tests.now.size.sides.some_columns c.args.tests.now.size.sides.some_rows c.args.delay _ (IsIn c.args.interval) c.moved-band.result t (ap (λ (w : ℕ). c.args.delay % w) c.from.ensures) c.moved-band.ensures.moved (is ∙ c.interval_of.ensures)) (λ t no. no) c.in_ok-test.ensures.only;
  none = λ all. absurd (not_all c.args.tests.now.size.width c.args.interval c.is_whole.result c.args.tests.now.size.sides.some_columns c.is_whole.ensures.1 c.if-is_whole.false all);
  tests = tests_more c.turned.new.b c.column_test.new.b (size_of c.args.tests.now.size) c.column_test.new.tests c.in_ok-net.ensures.logic.includes c.in_ok-test.ensures.tests;
  test = let size = size_of c.args.tests.now.size in
      let register = c.in_ok-test.test in
      let is = subst (λ (z : Band). IsColumnTest c.column_test.new.b size (record { start = 0; band = z; net = register })) c.interval_of.ensures c.in_ok-test.ensures.test in
      column_frame_test c.column_test.new.b size c.args.delay c.args.tests.now.size.sides.some_columns c.args.tests.now.size.sides.some_rows c.turned.new.b c.moved-band.result register c.in_ok-net.net c.args.interval _ c.in_ok-net.ensures.logic.includes (ap (λ (w : ℕ). c.args.delay % w) c.from.ensures) c.moved-band.ensures.moved is
      c.in_ok-net.ensures.test;
  depth = depth_over c.turned.new.b c.column_test.new.b 1 0 (c.in_ok-test.test ∷ []) c.in_ok-net.net c.in_ok-net.ensures.logic.includes (one_within c.column_test.new.b (is_control c.column_test.new.b.enable) 0 c.in_ok-test.test c.in_ok-test.ensures.test.register) c.in_ok-net.ensures.depth;
}

pub column_test-requires-clause-band : goal.column_test-requires-clause-band
column_test-requires-clause-band c = record { band = search rules; divides = band_divides c.args.tests.now.size.width c.moved-band.result c.interval_of.result c.interval_of.ensures c.moved-band.ensures.band c.moved-band.ensures.last }
