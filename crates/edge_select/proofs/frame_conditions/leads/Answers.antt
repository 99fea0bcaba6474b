use Rattle.dk_base.specs.FrameSizes.{size_of}
use Rattle.edge_select.specs.Steps.{LeadOn}
use Rattle.edge_select.specs.Passes.{PassesOn}
use Rattle.edge_select.proofs.Combining.{test_within}
use Rattle.edge_select.proofs.frame_conditions.leads.Goals as goal

pub returns : goal.returns
returns c = record {
  logic = c.in_ok-net.ensures.logic;
  test = test_within c.passing_test.new.b c.args.b.now c.args.pixel.now (PassesOn c.leading_pixels-rectangle.result) (LeadOn (size_of c.args.pixel.now.size) c.args.steps.now) c.in_ok-net.net c.in_ok-net.ensures.test c.leading_pixels-rectangle.ensures.passes;
}
