use Rattle.std.proofs.Common.{◌≡◌, Option, Some, sym, ap, subst, ◌∙◌, arith, rules}
use Rattle.dk_base.specs.Frames.{Size}
use Rattle.net_build.specs.Registers.{count_bits}
use Rattle.edge_select.specs.FrameTests.{start_bits, AddsBeside}
use Rattle.dk_base.specs.FrameSizes.{size_of}
use Rattle.edge_select.specs.declared.counters.Counters.{Counters}
use Rattle.edge_select.proofs.Beginning.{beside_control, counters_in}
use Rattle.edge_select.proofs.Framed.{tests_more, some_counters_are}
use Rattle.edge_select.proofs.frame_tests.FrameTests.started.Goals as goal

pub started_by-requires : goal.started_by-requires
started_by-requires c = record { counters = counters_in c.args.b.now c.args.self.now c.in-Some.counters c.in-Some.is c.requires.tests }

pub returns-in_ok-net-in-Some-clause-start : goal.returns-in_ok-net-in-Some-clause-start
returns-in_ok-net-in-Some-clause-start c = record {
  adds = subst (λ (o : Option Counters). AddsBeside c.started_by.new.b c.args.b.now o o) (sym c.in-Some.is) c.in_ok-net-in-Some.ensures.adds;
  bits = let has = some_counters_are c.args.b.now (size_of c.args.self.now.size) c.args.self.now c.in-Some.counters c.in-Some.is c.requires.tests in
      let same : start_bits c.args.self.now.counters (size_of c.args.self.now.size) c.args.last ≡ start_bits (Some c.in-Some.counters) (size_of c.in-Some.counters.pixel.size) c.args.last =
      ap (λ (o : Option Counters). start_bits o (size_of c.args.self.now.size) c.args.last) c.in-Some.is ∙ ap (λ (z : Size). start_bits (Some c.in-Some.counters) z c.args.last) (sym has.size_is) in
      omega (arith, same, c.in_ok-net-in-Some.ensures.bits);
  net = search rules;
  width = search rules;
  starts = search rules;
  depth = search rules;
}

pub returns-in_ok-net-in-Some-clause-tests : goal.returns-in_ok-net-in-Some-clause-tests
returns-in_ok-net-in-Some-clause-tests c = tests_more c.started_by.new.b c.args.b.now (size_of c.args.self.now.size) c.args.self.now c.in_ok-net-in-Some.ensures.adds.includes c.requires.tests

pub returns-in_ok-net-in-None-clause-start : goal.returns-in_ok-net-in-None-clause-start
returns-in_ok-net-in-None-clause-start c = record {
  adds = beside_control c.started.new.b c.args.b.now c.args.self.now.counters c.in_ok-net-in-None.ensures.adds;
  bits = let same : start_bits c.args.self.now.counters (size_of c.args.self.now.size) c.args.last ≡ count_bits c.args.last = ap (λ (o : Option Counters). start_bits o (size_of c.args.self.now.size) c.args.last) c.in-None.is in
      omega (arith, same, c.in_ok-net-in-None.ensures.bits);
  net = search rules;
  width = search rules;
  starts = search rules;
  depth = search rules;
}

pub returns-in_ok-net-in-None-clause-tests : goal.returns-in_ok-net-in-None-clause-tests
returns-in_ok-net-in-None-clause-tests c = tests_more c.started.new.b c.args.b.now (size_of c.args.self.now.size) c.args.self.now c.in_ok-net-in-None.ensures.adds.includes c.requires.tests
