use Rattle.std.proofs.Common.{List, refl, Some, subst, sym, ◌≡◌, rules}
use Rattle.dk_base.specs.Frames.{Size}
use Rattle.dk_base.specs.FrameSizes.{size_of}
use Rattle.edge_select.specs.declared.frame_tests.Test.{Test}
use Rattle.edge_select.specs.Bands.{IsBand}
use Rattle.edge_select.specs.FrameTests.{IsColumnTest, HasNone}
use Rattle.edge_select.proofs.Beside.{beside_none, beside_on}
use Rattle.edge_select.proofs.Framed.{tests_more, counters_more, own_size, with_column}
use Rattle.net_build.proofs.Parts.{includes_on}
use Rattle.edge_select.proofs.Bits.{counts_column}
use Rattle.edge_select.proofs.Asked.{only_same, only_column}
use Rattle.edge_select.proofs.frame_tests.column_test.Goals as goal

pub column_register-requires : goal.column_register-requires
column_register-requires c = record {
  counters = own_size c.counters_of.new.b (size_of c.args.tests.now.size) c.in_ok-counters.counters c.in_ok-counters.ensures.counters;
  band = subst (λ (z : Size). IsBand z.width c.args.band) (sym c.in_ok-counters.ensures.counters.size_is) c.requires.band.band;
}

pub returns-in-Some : goal.returns-in-Some
returns-in-Some c = record {
  adds = beside_none c.args.b.now c.args.tests.now.counters;
  registers = search rules;
  only = only_same c.args.tests.now (λ t. t.band ≡ c.args.band) (λ t. ⊥);
  tests = search rules;
  test = search rules;
}

pub returns : goal.returns
returns c = record {
  adds = beside_on c.args.b.now c.counters_of.new.b c.column_register.new.b c.args.tests.now.counters (Some c.in_ok-counters.counters) (Some c.in_ok-counters.counters) c.in_ok-counters.ensures.adds c.in_ok-net.ensures.register.adds;
  registers = counts_column c.column_register.new.b c.counters_of.new.b c.args.b.now (record { size = c.args.tests.now.size; counters = Some c.in_ok-counters.counters; columns = c.push.new.self; rows = c.args.tests.now.rows }) c.args.tests.now c.in_ok-counters.counters (record { start = 0; band = c.args.band; net = c.in_ok-net.net })
      c.in_ok-counters.ensures.bits c.in_ok-net.ensures.register.bits refl c.in_ok-push.ensures.items refl;
  only = only_column (record { size = c.args.tests.now.size; counters = Some c.in_ok-counters.counters; columns = c.push.new.self; rows = c.args.tests.now.rows }) c.args.tests.now (λ t. t.band ≡ c.args.band) (λ t. ⊥) (record { start = 0; band = c.args.band; net = c.in_ok-net.net }) c.in_ok-push.ensures.items refl refl;
  tests = let size = size_of c.args.tests.now.size in
      let t : Test = record { start = 0; band = c.args.band; net = c.in_ok-net.net } in
      with_column c.column_register.new.b size (record { size = c.args.tests.now.size; counters = Some c.in_ok-counters.counters; columns = c.push.new.self; rows = c.args.tests.now.rows }) c.args.tests.now c.in_ok-counters.counters t refl refl c.in_ok-push.ensures.items refl
      (tests_more c.column_register.new.b c.args.b.now size c.args.tests.now (includes_on _ _ _ c.in_ok-counters.ensures.adds.includes c.in_ok-net.ensures.register.adds.includes) c.requires.tests)
      (counters_more c.column_register.new.b c.counters_of.new.b size c.in_ok-counters.counters c.in_ok-net.ensures.register.adds.includes c.in_ok-counters.ensures.counters)
      (subst (λ (z : Size). IsColumnTest c.column_register.new.b z (record { start = 0; band = c.args.band; net = c.in_ok-net.net })) c.in_ok-counters.ensures.counters.size_is c.in_ok-net.ensures.test) (record { start = refl; band = c.requires.band.divides })
      (subst (λ (ts : List Test). HasNone ts 0 c.args.band) c.deref.ensures.value c.in_default.ensures.none);
  test = search rules;
}
