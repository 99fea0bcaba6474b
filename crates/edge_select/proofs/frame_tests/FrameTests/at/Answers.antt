use Rattle.std.proofs.Common.{◌≡◌, ℤ, sym, subst, rules, to_z, of_z, w32}
use Rattle.std.proofs.lemmas.Int.{to_z-of_z}
use Rattle.dk_base.specs.FrameSizes.{size_of}
use Rattle.edge_select.specs.Steps.{LeadBy}
use Rattle.edge_select.specs.Passes.{PassesOn}
use Rattle.edge_select.specs.FrameTests.{IsFrameTest}
use Rattle.edge_select.specs.Pixels.{AllPass}
use Rattle.edge_select.proofs.Framed.{test_same}
use Rattle.edge_select.proofs.Everywhere.{all_same}
use Rattle.edge_select.specs.Asked.{AddsFor}
use Rattle.edge_select.proofs.Asked.{for_same}
use Rattle.edge_select.proofs.frame_tests.FrameTests.at.Goals as goal

pub returns : goal.returns
returns c = record {
  adds = c.in_ok-net.ensures.adds;
  registers = c.in_ok-net.ensures.registers;
  only = let size = size_of c.args.self.now.size in
      let steps = c.args.steps.now in
      let dx : to_z w32 (of_z w32 c.args.dx) ≡ c.args.dx = to_z-of_z w32 c.args.dx (search rules) in
      let dy : to_z w32 (of_z w32 c.args.dy) ≡ c.args.dy = to_z-of_z w32 c.args.dy (search rules) in
      let all : AddsFor size c.args.delay (LeadBy size steps (to_z w32 (of_z w32 c.args.dx)) (to_z w32 (of_z w32 c.args.dy))) c.test_of.new.tests c.args.self.now =
      for_same size c.args.self.now.size.sides.some_columns c.args.self.now.size.sides.some_rows c.args.delay (PassesOn c.passing_pixels-rectangle.result) (LeadBy size steps (to_z w32 (of_z w32 c.args.dx)) (to_z w32 (of_z w32 c.args.dy))) c.test_of.new.tests c.args.self.now c.passing_pixels-rectangle.ensures.passes c.in_ok-net.ensures.only in
      subst (λ (d : ℤ). AddsFor size c.args.delay (LeadBy size steps d c.args.dy) c.test_of.new.tests c.args.self.now) dx
      (subst (λ (e : ℤ). AddsFor size c.args.delay (LeadBy size steps (to_z w32 (of_z w32 c.args.dx)) e) c.test_of.new.tests c.args.self.now) dy all);
  none = λ all. let size = size_of c.args.self.now.size in
      let steps = c.args.steps.now in
      let dx : to_z w32 (of_z w32 c.args.dx) ≡ c.args.dx = to_z-of_z w32 c.args.dx (search rules) in
      let dy : to_z w32 (of_z w32 c.args.dy) ≡ c.args.dy = to_z-of_z w32 c.args.dy (search rules) in
      let there : AllPass c.args.self.now.size.width c.args.self.now.size.height (LeadBy size steps (to_z w32 (of_z w32 c.args.dx)) (to_z w32 (of_z w32 c.args.dy))) =
      subst (λ (d : ℤ). AllPass c.args.self.now.size.width c.args.self.now.size.height (LeadBy size steps d (to_z w32 (of_z w32 c.args.dy)))) (sym dx)
      (subst (λ (e : ℤ). AllPass c.args.self.now.size.width c.args.self.now.size.height (LeadBy size steps c.args.dx e)) (sym dy) all) in
      c.in_ok-net.ensures.none (all_same c.args.self.now.size.width c.args.self.now.size.height (PassesOn c.passing_pixels-rectangle.result) (LeadBy size steps (to_z w32 (of_z w32 c.args.dx)) (to_z w32 (of_z w32 c.args.dy))) c.passing_pixels-rectangle.ensures.passes there);
  tests = c.in_ok-net.ensures.tests;
  test = let size = size_of c.args.self.now.size in
      let steps = c.args.steps.now in
      let dx : to_z w32 (of_z w32 c.args.dx) ≡ c.args.dx = to_z-of_z w32 c.args.dx (search rules) in
      let dy : to_z w32 (of_z w32 c.args.dy) ≡ c.args.dy = to_z-of_z w32 c.args.dy (search rules) in
      let all : IsFrameTest c.test_of.new.b size c.args.delay (LeadBy size steps (to_z w32 (of_z w32 c.args.dx)) (to_z w32 (of_z w32 c.args.dy))) c.in_ok-net.net =
      test_same c.test_of.new.b size c.args.delay c.args.self.now.size.sides.some_columns c.args.self.now.size.sides.some_rows (PassesOn c.passing_pixels-rectangle.result) (LeadBy size steps (to_z w32 (of_z w32 c.args.dx)) (to_z w32 (of_z w32 c.args.dy))) c.in_ok-net.net c.in_ok-net.ensures.test c.passing_pixels-rectangle.ensures.passes in
      subst (λ (d : ℤ). IsFrameTest c.test_of.new.b size c.args.delay (LeadBy size steps d c.args.dy) c.in_ok-net.net) dx
      (subst (λ (e : ℤ). IsFrameTest c.test_of.new.b size c.args.delay (LeadBy size steps (to_z w32 (of_z w32 c.args.dx)) e) c.in_ok-net.net) dy all);
  depth = c.in_ok-net.ensures.depth;
}
