use Rattle.std.proofs.Common.{ℕ, ap, ◌∙◌}
use Rattle.wiring.specs.declared.right.Atom.TheVariants as atom
use Rattle.net_build.proofs.Logic.{logic_on}
use Rattle.edge_select.proofs.Combining.{apart_is}
use Rattle.edge_select.proofs.Failing.{at_err}
use Rattle.wiring.specs.declared.right.Operator.TheVariants.{Equal}
use Rattle.edge_select.proofs.Levels.{apart_over, compared_over}
use Rattle.edge_select.proofs.frame_conditions.apart_from.Goals as goal

pub returns : goal.returns
returns c = record {
  logic = logic_on _ _ _ c.gate.ensures.logic c.gate-2.ensures.logic;
  test = apart_is c.args.b.now c.gate.new.b c.gate-2.new.b c.args.x c.in_ok-same.same c.in_ok-net.net c.args.bits c.args.value c.number.result c.number-2.result c.number-3.result c.gate.ensures.logic.includes c.gate-2.ensures.logic.includes c.requires.x c.requires.width c.requires.bits c.requires.fits
      (c.number.ensures ∙ ap (λ (v : ℕ). atom.Constant (record { width = c.args.bits; value = v })) c.from.ensures) c.number-2.ensures c.number-3.ensures c.in_ok-same.ensures.gate c.in_ok-net.ensures.gate;
  depth = apart_over c.gate-2.new.b c.gate.new.b c.args.b.now c.args.x c.in_ok-same.same c.in_ok-net.net c.number-2.result c.number-3.result _ _ c.gate-2.ensures.logic.includes c.number-2.ensures c.number-3.ensures
      (compared_over c.gate.new.b c.args.b.now Equal c.args.x c.in_ok-same.same c.number.result _ c.gate.ensures.logic.includes c.number.ensures c.in_ok-same.ensures.gate) c.in_ok-net.ensures.gate;
}

pub returns-in_err-same : goal.returns-in_err-same
returns-in_err-same c = at_err _ _ c.from_residual.result c.from_residual.ensures.1 (c.gate.ensures.logic)

pub returns-in_err-net : goal.returns-in_err-net
returns-in_err-net c = at_err _ _ c.from_residual-in_err-net.result c.from_residual-in_err-net.ensures.1 (logic_on _ _ _ c.gate.ensures.logic c.gate-2.ensures.logic)
