use Rattle.std.proofs.Common.{None, length, refl, ap, arith, rules}
use Rattle.dk_base.specs.FrameSizes.{size_of}
use Rattle.edge_select.proofs.Framed.{no_tests}
use Rattle.edge_select.proofs.frame_tests.FrameTests.new.Goals as goal

pub returns-clause-none : goal.returns-clause-none
returns-clause-none c = record {
  tests = λ b. no_tests b (size_of c.args.size) (record { size = c.args.size; counters = None; columns = c.new.result; rows = c.new-2.result }) refl refl c.new.ensures.items c.new-2.ensures.items;
  apart = search rules;
  none = let columns = ap length c.new.ensures.items in
      let rows = ap length c.new-2.ensures.items in
      omega (arith, columns, rows);
}
