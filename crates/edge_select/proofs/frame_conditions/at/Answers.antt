use Rattle.std.proofs.Common.{◌≡◌, ℕ, ℤ, ◌<◌, subst, rules, to_z, of_z, w32}
use Rattle.std.proofs.lemmas.Int.{to_z-of_z}
use Rattle.dk_base.specs.FrameSizes.{size_of}
use Rattle.edge_select.specs.Steps.{LeadBy}
use Rattle.edge_select.specs.Passes.{PassesOn}
use Rattle.edge_select.proofs.Walks.{Same}
use Rattle.edge_select.proofs.Combining.{test_within}
use Rattle.edge_select.proofs.frame_conditions.at.Goals as goal

pub returns : goal.returns
returns c = record {
  logic = c.in_ok-net.ensures.logic;
  test = let p = c.args.pixel.now in
      let size = size_of p.size in
      let steps = c.args.steps.now in
      let found = PassesOn c.passing_pixels-rectangle.result in
      let dx : to_z w32 (of_z w32 c.args.dx) ≡ c.args.dx = to_z-of_z w32 c.args.dx (search rules) in
      let dy : to_z w32 (of_z w32 c.args.dy) ≡ c.args.dy = to_z-of_z w32 c.args.dy (search rules) in
      let same : (x y : ℕ) → x < p.size.width → y < p.size.height → Same (found x y) (LeadBy size steps c.args.dx c.args.dy x y) =
      λ x y low high. subst (λ (d : ℤ). Same (found x y) (LeadBy size steps d c.args.dy x y)) dx (subst (λ (e : ℤ). Same (found x y) (LeadBy size steps (to_z w32 (of_z w32 c.args.dx)) e x y)) dy (c.passing_pixels-rectangle.ensures.passes x y low high)) in
      test_within c.passing_test.new.b c.args.b.now p found (LeadBy size steps c.args.dx c.args.dy) c.in_ok-net.net c.in_ok-net.ensures.test same;
}
