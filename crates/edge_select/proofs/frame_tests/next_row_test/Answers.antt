use Rattle.std.proofs.Common.{Bool, true, ◌-◌, ◌∙◌, ap, sym, arith}
use Rattle.std.specs.Prelude.{if◌then◌else◌}
use Rattle.std.proofs.lemmas.Bool.{eq-eqb, ne_eqb}
use Rattle.net_build.specs.Counters.{after}
use Rattle.edge_select.specs.Bands.{in_band}
use Rattle.edge_select.proofs.frame_tests.next_row_test.Goals as goal

pub returns-then-start-eq0 : goal.returns-then-start-eq0
returns-then-start-eq0 c = record {
  logic = c.in_ok-net.ensures.logic;
  test = let h = c.args.k.now.pixel.size.height in
      record {
        test = in_band c.args.k.now.pixel.size.height c.before-earlier.result;
        computes = c.in_ok-net.ensures.test;
        right = λ y low. c.before-earlier.ensures.before y low ∙ ap (λ (t : Bool). in_band h c.args.band (if t then after true (h - 1) y else y)) (sym (eq-eqb c.args.start 0 (omega (arith, c.if-start-eq0.true))));
      };
  depth = c.in_ok-net.ensures.depth;
}

pub returns : goal.returns
returns c = record {
  logic = c.in_ok-net-2.ensures.logic;
  test = let h = c.args.k.now.pixel.size.height in
      record {
        test = in_band c.args.k.now.pixel.size.height c.args.band;
        computes = c.in_ok-net-2.ensures.test;
        right = λ y low. ap (λ (t : Bool). in_band h c.args.band (if t then after true (h - 1) y else y)) (sym (ne_eqb c.args.start 0 (λ e. c.if-start-eq0.false (omega (arith, e)))));
      };
  depth = c.in_ok-net-2.ensures.depth;
}
