use Rattle.std.proofs.Common.{◌≡◌, Option, Some, refl, rules, subst, w32, to_z, of_z, FitsSigned}
use Rattle.std.specs.Prelude.{ℤ}
use Rattle.std.proofs.lemmas.Int.{to_z-of_z}
use Rattle.dk_base.specs.Frames.{Size}
use Rattle.dk_base.specs.FrameSizes.{size_of}
use Rattle.edge_select.specs.FrameTests.{IsFrameTest}
use Rattle.edge_select.specs.Asked.{AddsFor}
use Rattle.edge_select.specs.Steps.{LeadBy}
use Rattle.circuit.specs.Taps.{size_in}
use Rattle.circuit.proofs.Placing.{own_tests, their_tests, pixel_test}
use Rattle.circuit.specs.Leaves.{leaf_at}
use Rattle.circuit.specs.Registers.{AsksRead}
use Rattle.circuit.proofs.Registered.{needed_by, needed_tests}
use Rattle.circuit.proofs.positions.test_at.Goals as goal

pub at-requires : goal.at-requires
at-requires c = record { tests = own_tests c.args.b.now (size_in c.args.reader.now.plan.now) c.args.tests.now c.requires.tests }

pub returns : goal.returns
returns c = record {
  adds = c.in_ok-net.ensures.adds;
  tests = their_tests c.at.new.b c.args.b.now (size_in c.args.reader.now.plan.now) c.at.new.self c.args.tests.now c.requires.tests c.in_ok-net.ensures.tests;
  needed = let r = c.args.reader.now in
      let steps = c.args.steps.now in
      let across : FitsSigned w32 c.args.read.dx = search rules in
      let down : FitsSigned w32 c.args.read.dy = search rules in
      let own = size_of c.args.tests.now.size in
      let only : ℤ → ℤ → Type 0 = λ x y. AddsFor own c.delay-delay.result (LeadBy own steps x y) c.at.new.self c.args.tests.now in
      let here = subst (λ (y : ℤ). only c.args.read.dx y) (to_z-of_z w32 c.args.read.dy down) (subst (λ (x : ℤ). only x (to_z w32 (of_z w32 c.args.read.dy))) (to_z-of_z w32 c.args.read.dx across) c.in_ok-net.ensures.only) in
      let offset : Option (ℤ × ℤ) = Some (c.args.read.dx, c.args.read.dy) in
      needed_by c.at.new.b c.args.b.now c.at.new.self c.args.tests.now r.plan.now (λ d. d ≡ record { image = r.image; steps = steps; offset = offset }) (AsksRead r.image (leaf_at c.args.read.g steps) c.args.read) (λ d is. (refl, is))
      (needed_tests c.at.new.b c.args.b.now c.at.new.self c.args.tests.now r.plan.now r.image c.delay-delay.result steps offset c.requires.tests.size_is c.delay-delay.ensures c.in_ok-net.ensures.registers here);
  test = let across : FitsSigned w32 c.args.read.dx = search rules in
      let down : FitsSigned w32 c.args.read.dy = search rules in
      let own = size_of c.args.tests.now.size in
      let passes : ℤ → ℤ → Type 0 = λ x y. IsFrameTest c.at.new.b own c.delay-delay.result (LeadBy own c.args.steps.now x y) c.in_ok-net.net in
      let test = subst (λ (y : ℤ). passes c.args.read.dx y) (to_z-of_z w32 c.args.read.dy down) (subst (λ (x : ℤ). passes x (to_z w32 (of_z w32 c.args.read.dy))) (to_z-of_z w32 c.args.read.dx across) c.in_ok-net.ensures.test) in
      pixel_test c.at.new.b c.args.b.now c.args.reader.now.plan.now c.args.reader.now.image c.delay-delay.result c.args.tests.now (λ (z : Size). LeadBy z c.args.steps.now c.args.read.dx c.args.read.dy) c.in_ok-net.net c.delay-delay.ensures c.requires.tests test c.in_ok-net.ensures.depth;
}
