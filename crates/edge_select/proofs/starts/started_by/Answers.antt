use Rattle.std.proofs.Common.{◌≡◌, Bool, false, Some, arith, rules}
use Rattle.std.specs.Prelude.{IsTrue}
use Rattle.dk_base.specs.FrameSizes.{size_of}
use Rattle.net_build.specs.Registers.{register_bits, count_bits}
use Rattle.net_build.proofs.Bits.{bits_same}
use Rattle.edge_select.specs.FrameTests.{start_bits}
use Rattle.edge_select.proofs.Bits.{at_a_pixel, at_no_pixel}
use Rattle.edge_select.proofs.Beside.{beside_logic, beside_on}
use Rattle.edge_select.proofs.Beginning.{started_unless, beside_control}
use Rattle.edge_select.proofs.Levels.{unless_depth}
use Rattle.edge_select.proofs.starts.started_by.Goals as goal

not_both : (b : Bool) → IsTrue b → b ≡ false → ⊥
not_both b e f = cc

pub returns-then-is_set_at_a_pixel : goal.returns-then-is_set_at_a_pixel
returns-then-is_set_at_a_pixel c = record {
  adds = beside_on c.args.b.now c.start_register.new.b c.unless_reset.new.b (Some c.args.k.now) (Some c.args.k.now) (Some c.args.k.now) c.in_ok-register.ensures.register.adds (beside_logic c.unless_reset.new.b c.start_register.new.b (Some c.args.k.now) c.in_ok-net.ensures.logic);
  bits = let is = c.is_set_at_a_pixel.ensures.yes c.if-is_set_at_a_pixel.true in
      let one : start_bits (Some c.args.k.now) (size_of c.args.k.now.pixel.size) c.args.last ≡ 1 = at_a_pixel c.args.k.now (size_of c.args.k.now.pixel.size) c.args.last is.0 is.1 in
      let same : register_bits c.unless_reset.new.b ≡ register_bits c.start_register.new.b = bits_same c.unless_reset.new.b c.start_register.new.b c.in_ok-net.ensures.logic.wires.regs in
      omega (arith, one, same, c.in_ok-register.ensures.register.bits);
  net = c.in_ok-net.ensures.test.net;
  width = c.in_ok-net.ensures.test.width;
  starts = started_unless c.unless_reset.new.b c.start_register.new.b c.args.last c.in_ok-register.register c.in_ok-net.net c.in_ok-net.ensures.logic.includes c.in_ok-register.ensures.test c.in_ok-net.ensures.test;
  depth = unless_depth c.unless_reset.new.b c.start_register.new.b c.in_ok-register.register c.in_ok-net.net c.in_ok-net.ensures.logic.includes c.in_ok-register.ensures.test.depth c.in_ok-net.ensures.depth;
}

pub returns : goal.returns
returns c = record {
  adds = beside_control c.started.new.b c.args.b.now (Some c.args.k.now) c.in_ok-net-2.ensures.adds;
  bits = let none : start_bits (Some c.args.k.now) (size_of c.args.k.now.pixel.size) c.args.last ≡ count_bits c.args.last = at_no_pixel c.args.k.now (size_of c.args.k.now.pixel.size) c.args.last (λ more most. not_both c.is_set_at_a_pixel.result (c.is_set_at_a_pixel.ensures.no more most) c.if-is_set_at_a_pixel.false) in
      omega (arith, none, c.in_ok-net-2.ensures.bits);
  net = search rules;
  width = search rules;
  starts = search rules;
  depth = search rules;
}
