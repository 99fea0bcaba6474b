use Rattle.std.proofs.Common.{None, subst}
use Rattle.dk_base.specs.Frames.{Size}
use Rattle.edge_select.specs.Steps.{LeadOn}
use Rattle.circuit.specs.Taps.{size_in}
use Rattle.circuit.proofs.Placing.{own_tests, their_tests, pixel_test, always_test, never_test}
use Rattle.circuit.proofs.Registered.{needed_tests, needed_logic}
use Rattle.std.specs.Prelude.{ℕ}
use Rattle.edge_select.specs.Pixels.{AllPass, NonePass}
use Rattle.edge_select.proofs.Beside.{beside_logic}
use Rattle.edge_select.proofs.Framed.{tests_more}
use Rattle.circuit.specs.Registers.{AsksPart}
use Rattle.circuit.proofs.positions.test_on.Goals as goal

pub returns-in_ok-net-in-Always : goal.returns-in_ok-net-in-Always
returns-in_ok-net-in-Always c = record {
  adds = beside_logic c.constant_test.new.b c.args.b.now c.args.tests.now.counters c.in_ok-net-in-Always.ensures.logic;
  tests = tests_more c.constant_test.new.b c.args.b.now (size_in c.args.plan.now) c.args.tests.now c.in_ok-net-in-Always.ensures.logic.includes c.requires.tests;
  needed = needed_logic c.constant_test.new.b c.args.b.now c.args.tests.now c.args.plan.now (AsksPart c.args.f c.args.steps.now) c.in_ok-net-in-Always.ensures.logic;
  test = let plan = c.args.plan.now in
      let all = c.leading.ensures.always.0 c.in-Always.is in
      let here = subst (λ (w : ℕ). AllPass w plan.system.stencils.height (LeadOn (record { width = w; height = plan.system.stencils.height }) c.args.steps.now)) c.columns.ensures
      (subst (λ (h : ℕ). AllPass c.columns.result h (LeadOn (record { width = c.columns.result; height = h }) c.args.steps.now)) c.rows.ensures all)
      in
      always_test c.constant_test.new.b c.args.b.now plan c.args.f _ c.in_ok-net-in-Always.net c.law.ensures c.in_ok-net-in-Always.ensures.test c.in_ok-net-in-Always.ensures.depth here;
}

pub returns-in_ok-net-in-Never : goal.returns-in_ok-net-in-Never
returns-in_ok-net-in-Never c = record {
  adds = beside_logic c.constant_test-in-Never.new.b c.args.b.now c.args.tests.now.counters c.in_ok-net-in-Never.ensures.logic;
  tests = tests_more c.constant_test-in-Never.new.b c.args.b.now (size_in c.args.plan.now) c.args.tests.now c.in_ok-net-in-Never.ensures.logic.includes c.requires.tests;
  needed = needed_logic c.constant_test-in-Never.new.b c.args.b.now c.args.tests.now c.args.plan.now (AsksPart c.args.f c.args.steps.now) c.in_ok-net-in-Never.ensures.logic;
  test = let plan = c.args.plan.now in
      let all = c.leading.ensures.never.0 c.in-Never.is in
      let here = subst (λ (w : ℕ). NonePass w plan.system.stencils.height (LeadOn (record { width = w; height = plan.system.stencils.height }) c.args.steps.now)) c.columns.ensures
      (subst (λ (h : ℕ). NonePass c.columns.result h (LeadOn (record { width = c.columns.result; height = h }) c.args.steps.now)) c.rows.ensures all)
      in
      never_test c.constant_test-in-Never.new.b c.args.b.now plan c.args.f _ c.in_ok-net-in-Never.net c.law.ensures c.in_ok-net-in-Never.ensures.test c.in_ok-net-in-Never.ensures.depth here;
}

pub leads-requires : goal.leads-requires
leads-requires c = record { tests = own_tests c.args.b.now (size_in c.args.plan.now) c.args.tests.now c.requires.tests }

pub returns-in_ok-net-in-Sometimes : goal.returns-in_ok-net-in-Sometimes
returns-in_ok-net-in-Sometimes c = record {
  adds = c.in_ok-net-in-Sometimes.ensures.adds;
  tests = their_tests c.leads.new.b c.args.b.now (size_in c.args.plan.now) c.leads.new.self c.args.tests.now c.requires.tests c.in_ok-net-in-Sometimes.ensures.tests;
  needed = needed_tests c.leads.new.b c.args.b.now c.leads.new.self c.args.tests.now c.args.plan.now c.args.f c.delay.result c.args.steps.now None c.requires.tests.size_is c.delay.ensures c.in_ok-net-in-Sometimes.ensures.registers c.in_ok-net-in-Sometimes.ensures.only;
  test = pixel_test c.leads.new.b c.args.b.now c.args.plan.now c.args.f c.delay.result c.args.tests.now (λ (z : Size). LeadOn z c.args.steps.now) c.in_ok-net-in-Sometimes.net c.delay.ensures c.requires.tests c.in_ok-net-in-Sometimes.ensures.test c.in_ok-net-in-Sometimes.ensures.depth;
}
