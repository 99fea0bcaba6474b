use Rattle.dk_base.specs.FrameSizes.{size_of}
use Rattle.edge_select.proofs.Made.{column_adds, column_is_test}
use Rattle.edge_select.proofs.Bits.{one_more}
use Rattle.edge_select.proofs.frame_tests.column_register.Goals as goal

pub returns-clause-register : goal.returns-clause-register
returns-clause-register c = record {
  adds = column_adds c.register_of.new.b c.next_column_test.new.b c.args.b.now (size_of c.args.k.now.pixel.size) c.args.k.now c.args.band c.first_bit.result c.in_ok-test.test c.in_ok-net.net c.requires.counters c.in_ok-test.ensures.logic c.in_ok-test.ensures.test c.in_ok-test.ensures.depth c.in_ok-net.ensures.adds;
  bits = one_more c.register_of.new.b c.next_column_test.new.b c.args.b.now c.in_ok-net.ensures.adds.regs c.in_ok-test.ensures.logic;
}

pub returns-clause-test : goal.returns-clause-test
returns-clause-test c =
    column_is_test c.register_of.new.b c.next_column_test.new.b c.args.b.now (size_of c.args.k.now.pixel.size) c.args.k.now c.args.band c.first_bit.result c.in_ok-test.test c.in_ok-net.net c.requires.counters c.args.k.now.pixel.size.sides.some_columns c.args.k.now.pixel.size.sides.some_rows (c.first_bit.ensures.bit c.args.k.now.pixel.size.width c.requires.band) c.in_ok-test.ensures.logic c.in_ok-test.ensures.test
    c.in_ok-net.ensures.adds
