use Rattle.std.proofs.Common.{ℕ, subst}
use Rattle.edge_select.specs.FrameTests.{AreFrameTests}
use Rattle.circuit.proofs.positions.no_tests.Goals as goal

pub returns : goal.returns
returns c = record {
  tests = λ b. let width = c.args.plan.now.system.stencils.width in
      subst (λ (h : ℕ). AreFrameTests b (record { width = width; height = h }) c.new.result) c.rows.ensures
      (subst (λ (w : ℕ). AreFrameTests b (record { width = w; height = c.rows.result }) c.new.result) c.columns.ensures (c.new.ensures.none.tests b));
  apart = c.new.ensures.none.apart;
  none = c.new.ensures.none.none;
}
