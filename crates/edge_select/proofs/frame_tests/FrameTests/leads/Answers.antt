use Rattle.dk_base.specs.FrameSizes.{size_of}
use Rattle.edge_select.specs.Steps.{LeadOn}
use Rattle.edge_select.specs.Passes.{PassesOn}
use Rattle.edge_select.proofs.Framed.{test_same}
use Rattle.edge_select.proofs.Everywhere.{all_same}
use Rattle.edge_select.proofs.Asked.{for_same}
use Rattle.edge_select.proofs.frame_tests.FrameTests.leads.Goals as goal

pub returns : goal.returns
returns c = record {
  adds = c.in_ok-net.ensures.adds;
  registers = c.in_ok-net.ensures.registers;
  only = for_same (size_of c.args.self.now.size) c.args.self.now.size.sides.some_columns c.args.self.now.size.sides.some_rows c.args.delay (PassesOn c.leading_pixels-rectangle.result) (LeadOn (size_of c.args.self.now.size) c.args.steps.now) c.test_of.new.tests c.args.self.now c.leading_pixels-rectangle.ensures.passes c.in_ok-net.ensures.only;
  none = λ all. c.in_ok-net.ensures.none (all_same c.args.self.now.size.width c.args.self.now.size.height (PassesOn c.leading_pixels-rectangle.result) (LeadOn (size_of c.args.self.now.size) c.args.steps.now) c.leading_pixels-rectangle.ensures.passes all);
  tests = c.in_ok-net.ensures.tests;
  test = test_same c.test_of.new.b (size_of c.args.self.now.size) c.args.delay c.args.self.now.size.sides.some_columns c.args.self.now.size.sides.some_rows (PassesOn c.leading_pixels-rectangle.result) (LeadOn (size_of c.args.self.now.size) c.args.steps.now) c.in_ok-net.net c.in_ok-net.ensures.test c.leading_pixels-rectangle.ensures.passes;
  depth = c.in_ok-net.ensures.depth;
}
