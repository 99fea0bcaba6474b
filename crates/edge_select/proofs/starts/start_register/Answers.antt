use Rattle.std.proofs.Common.{◌∙◌, arith}
use Rattle.dk_base.specs.FrameSizes.{size_of}
use Rattle.net_build.proofs.Grown.{net_more, width_more}
use Rattle.edge_select.proofs.Beginning.{start_adds, start_is_test}
use Rattle.net_build.proofs.Logic.{logic_on}
use Rattle.edge_select.proofs.Bits.{one_more}
use Rattle.edge_select.proofs.starts.start_register.Goals as goal

pub register_of-requires-clause-load : goal.register_of-requires-clause-load
register_of-requires-clause-load c = (
  net_more c.constant_test.new.b c.is_at.new.b c.in_ok-one.ensures.logic.includes c.in_ok-here.here c.in_ok-here.ensures.test.net,
  width_more c.constant_test.new.b c.is_at.new.b c.in_ok-one.ensures.logic.includes c.in_ok-here.here c.in_ok-here.ensures.test.net.declared ∙ c.in_ok-here.ensures.test.width,
)

pub returns-clause-register : goal.returns-clause-register
returns-clause-register c = record {
  adds = start_adds c.register_of.new.b c.constant_test.new.b c.is_at.new.b c.args.b.now (size_of c.args.k.now.pixel.size) c.args.k.now c.args.last c.last_spot-spot.result.column c.last_spot-spot.result.row c.in_ok-here.here c.in_ok-one.one c.in_ok-net.net c.requires.counters
      c.in_ok-here.ensures.logic c.in_ok-one.ensures.logic c.in_ok-here.ensures.test c.in_ok-one.ensures.test c.in_ok-here.ensures.depth c.in_ok-one.ensures.depth c.in_ok-net.ensures.adds;
  bits = one_more c.register_of.new.b c.constant_test.new.b c.args.b.now c.in_ok-net.ensures.adds.regs (logic_on _ _ _ c.in_ok-here.ensures.logic c.in_ok-one.ensures.logic);
}

pub returns-clause-test : goal.returns-clause-test
returns-clause-test c =
    start_is_test c.register_of.new.b c.constant_test.new.b c.is_at.new.b c.args.b.now (size_of c.args.k.now.pixel.size) c.args.k.now c.args.last c.last_spot-spot.result.column c.last_spot-spot.result.row c.in_ok-here.here c.in_ok-one.one c.in_ok-net.net c.requires.counters
    c.args.k.now.pixel.size.sides.some_columns c.args.k.now.pixel.size.sides.some_rows (omega (arith, c.requires.some)) c.requires.most c.last_spot-spot.ensures.column c.last_spot-spot.ensures.row c.in_ok-here.ensures.logic c.in_ok-one.ensures.logic c.in_ok-here.ensures.test c.in_ok-one.ensures.test c.in_ok-net.ensures.adds
