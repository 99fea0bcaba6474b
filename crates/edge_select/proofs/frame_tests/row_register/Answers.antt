use Rattle.std.proofs.Common.{◌∙◌}
use Rattle.dk_base.specs.FrameSizes.{size_of}
use Rattle.net_build.proofs.Grown.{net_more, width_more}
use Rattle.edge_select.proofs.Framed.{counters_more}
use Rattle.edge_select.proofs.Made.{row_adds, row_is_test}
use Rattle.net_build.proofs.Logic.{logic_on}
use Rattle.edge_select.proofs.Bits.{one_more}
use Rattle.edge_select.proofs.frame_tests.row_register.Goals as goal

pub returns-clause-register : goal.returns-clause-register
returns-clause-register c = record {
  adds = row_adds c.register_of.new.b c.next_row_test.new.b c.starts.new.b c.args.b.now (size_of c.args.k.now.pixel.size) c.args.k.now c.args.start c.args.band c.first_bit.result c.in_ok-begins.begins c.in_ok-test.test c.in_ok-net.net c.requires.counters c.in_ok-begins.ensures.logic c.in_ok-test.ensures.logic c.in_ok-begins.ensures.test c.in_ok-test.ensures.test c.in_ok-begins.ensures.depth c.in_ok-test.ensures.depth c.in_ok-net.ensures.adds;
  bits = one_more c.register_of.new.b c.next_row_test.new.b c.args.b.now c.in_ok-net.ensures.adds.regs (logic_on _ _ _ c.in_ok-begins.ensures.logic c.in_ok-test.ensures.logic);
}

pub returns-clause-test : goal.returns-clause-test
returns-clause-test c =
    row_is_test c.register_of.new.b c.next_row_test.new.b c.starts.new.b c.args.b.now (size_of c.args.k.now.pixel.size) c.args.k.now c.args.start c.args.band c.first_bit.result c.in_ok-begins.begins c.in_ok-test.test c.in_ok-net.net c.requires.counters c.args.k.now.pixel.size.sides.some_columns c.args.k.now.pixel.size.sides.some_rows c.requires.start (c.first_bit.ensures.bit c.args.k.now.pixel.size.height c.requires.band)
    c.in_ok-begins.ensures.logic c.in_ok-test.ensures.logic c.in_ok-begins.ensures.test c.in_ok-test.ensures.test c.in_ok-net.ensures.adds

pub register_of-requires-clause-load : goal.register_of-requires-clause-load
register_of-requires-clause-load c = (
  net_more c.next_row_test.new.b c.starts.new.b c.in_ok-test.ensures.logic.includes c.in_ok-begins.begins c.in_ok-begins.ensures.test.computes.net,
  width_more c.next_row_test.new.b c.starts.new.b c.in_ok-test.ensures.logic.includes c.in_ok-begins.begins c.in_ok-begins.ensures.test.computes.net.declared ∙ c.in_ok-begins.ensures.test.computes.width,
)

pub next_row_test-requires : goal.next_row_test-requires
next_row_test-requires c = record { start = c.requires.start; band = c.requires.band; counters = counters_more c.starts.new.b c.args.b.now (size_of c.args.k.now.pixel.size) c.args.k.now c.in_ok-begins.ensures.logic.includes c.requires.counters }
