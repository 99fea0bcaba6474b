use Rattle.std.proofs.Common.{◌+◌, Option, Some, sym, ap, subst, length}
use Rattle.dk_base.specs.FrameSizes.{size_of}
use Rattle.net_build.specs.Registers.{register_bits}
use Rattle.edge_select.specs.declared.counters.Counters.{Counters}
use Rattle.edge_select.specs.FrameTests.{AddsBeside, counter_bits}
use Rattle.edge_select.proofs.Beside.{beside_none, beside_counters}
use Rattle.edge_select.proofs.Framed.{counters_are, some_counters_are}
use Rattle.edge_select.proofs.Bits.{counters_bits}
use Rattle.edge_select.proofs.frame_tests.counters_of.Goals as goal

pub returns-in-Some : goal.returns-in-Some
returns-in-Some c = record {
  adds = subst (λ (o : Option Counters). AddsBeside c.args.b.now c.args.b.now (Some c.in-Some.counters) o) (sym c.in-Some.is) (beside_none c.args.b.now (Some c.in-Some.counters));
  counters = some_counters_are c.args.b.now (size_of c.args.tests.now.size) c.args.tests.now c.in-Some.counters c.in-Some.is c.requires.tests;
  bits = ap (λ (o : Option Counters). register_bits c.args.b.now + counter_bits o) c.in-Some.is;
}

pub returns-in_ok-counters-in-None : goal.returns-in_ok-counters-in-None
returns-in_ok-counters-in-None c = record {
  adds = beside_counters c.counted.new.b c.args.b.now _ _ c.in_ok-counters-in-None.counters c.args.tests.now.counters c.in_ok-counters-in-None.ensures.counters.includes c.in_ok-counters-in-None.ensures.counters.counters c.in_ok-counters-in-None.ensures.counters.column c.in_ok-counters-in-None.ensures.counters.row c.in_ok-counters-in-None.ensures.counters.updated c.in_ok-counters-in-None.ensures.counters.still c.in_ok-counters-in-None.ensures.counters.stops
      c.in_ok-counters-in-None.ensures.counters.control;
  counters = counters_are c.counted.new.b (size_of c.args.tests.now.size) (length c.args.b.now.regs) c.in_ok-counters-in-None.counters c.in_ok-counters-in-None.ensures.counters.size_is c.in_ok-counters-in-None.ensures.counters.pixel c.in_ok-counters-in-None.ensures.counters.follows c.in_ok-counters-in-None.ensures.next;
  bits = counters_bits c.counted.new.b c.args.b.now (size_of c.args.tests.now.size) c.args.tests.now.counters c.in_ok-counters-in-None.counters c.in-None.is c.in_ok-counters-in-None.ensures.counters.size_is c.in_ok-counters-in-None.ensures.counters.counters.regs;
}
