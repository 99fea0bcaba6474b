use Rattle.std.proofs.Common.{ℕ, ◌∙◌, ap}
use Rattle.wiring.specs.declared.right.Atom.TheVariants as atom
use Rattle.edge_select.proofs.Combining.{equal_is}
use Rattle.edge_select.proofs.Failing.{at_err}
use Rattle.wiring.specs.declared.right.Operator.TheVariants.{Equal}
use Rattle.edge_select.proofs.Levels.{compared_over}
use Rattle.edge_select.proofs.bands.equal_to.Goals as goal

pub returns : goal.returns
returns c = record {
  logic = c.gate.ensures.logic;
  test = equal_is c.args.b.now c.gate.new.b c.args.x c.in_ok-net.net c.args.bits c.args.value c.number-same.result c.gate.ensures.logic.includes c.requires.x c.requires.width c.requires.bits c.requires.fits
      (c.number-same.ensures ∙ ap (λ (v : ℕ). atom.Constant (record { width = c.args.bits; value = v })) c.from.ensures) c.in_ok-net.ensures.gate;
  depth = compared_over c.gate.new.b c.args.b.now Equal c.args.x c.in_ok-net.net c.number-same.result _ c.gate.ensures.logic.includes c.number-same.ensures c.in_ok-net.ensures.gate;
}

pub returns-in_err-net : goal.returns-in_err-net
returns-in_err-net c = at_err _ _ c.from_residual.result c.from_residual.ensures.1 (c.gate.ensures.logic)
