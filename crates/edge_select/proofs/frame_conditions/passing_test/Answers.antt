use Rattle.edge_select.specs.Passes.{Passes, PassesOn}
use Rattle.std.proofs.Common.{None, sym, subst, Option}
use Rattle.edge_select.specs.declared.paths.Rectangle.{Rectangle}
use Rattle.edge_select.specs.Pixels.{IsTest}
use Rattle.edge_select.proofs.Combining.{in_rectangle, rectangle_bit, test_is, no_test_is}
use Rattle.edge_select.proofs.frame_conditions.passing_test.Goals as goal

pub returns-in_ok-net-in-Some : goal.returns-in_ok-net-in-Some
returns-in_ok-net-in-Some c = record {
  logic = c.in_ok-net-in-Some.ensures.logic;
  test = let p = c.args.pixel.now in
      let r = c.in-Some.rectangle in
      subst (λ (o : Option Rectangle). IsTest c.rectangle_test.new.b c.args.b.now p (PassesOn o) c.in_ok-net-in-Some.net) (sym c.in-Some.is)
      (test_is c.rectangle_test.new.b c.args.b.now p (Passes r) (in_rectangle p.size.width p.size.height r) c.in_ok-net-in-Some.net c.in_ok-net-in-Some.ensures.test
      (λ x y low high. rectangle_bit p.size.width p.size.height r x y (Passes r x y) low high (λ h. h) (λ h. h)));
}

pub returns-in_ok-net-in-None : goal.returns-in_ok-net-in-None
returns-in_ok-net-in-None c = record {
  logic = c.in_ok-net-in-None.ensures.logic;
  test = subst (λ (o : Option Rectangle). IsTest c.constant_test.new.b c.args.b.now c.args.pixel.now (PassesOn o) c.in_ok-net-in-None.net) (sym c.in-None.is)
      (no_test_is c.constant_test.new.b c.args.b.now c.args.pixel.now (PassesOn None) c.in_ok-net-in-None.net c.in_ok-net-in-None.ensures.test (λ x y low high h. h));
}
