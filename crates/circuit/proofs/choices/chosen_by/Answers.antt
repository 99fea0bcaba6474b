use Rattle.edge_select.proofs.Failing.{at_err}
use Rattle.wiring.specs.declared.right.Atom.TheVariants as atom
use Rattle.net_build.proofs.Operands.{net_operand, choose_operation}
use Rattle.circuit.proofs.Choosing.{choice_operand, chosen_gate}
use Rattle.circuit.proofs.Depths.{chosen_over}
use Rattle.circuit.proofs.choices.chosen_by.Goals as goal

pub gate-requires-clause-operation : goal.gate-requires-clause-operation
gate-requires-clause-operation c =
    let b = c.args.b.now in
    choose_operation b (atom.Net c.args.test) (atom.Net c.args.tap) c.atom_of-rest.result c.args.bits c.requires.bits (net_operand b c.args.test 1 c.requires.there c.requires.one_bit) (net_operand b c.args.tap c.args.bits c.requires.tapped c.requires.tap_width)
    (choice_operand b c.args.before c.args.bits c.atom_of-rest.result c.requires.before.there c.requires.before.width c.requires.bits c.atom_of-rest.ensures)

pub returns : goal.returns
returns c = record {
  logic = c.gate.ensures.logic;
  test = chosen_gate c.gate.new.b c.args.b.now c.args.test c.args.tap c.args.before c.args.bits c.atom_of-rest.result c.in_ok-net.net c.in_ok-net.ensures.logic.includes c.requires.there c.requires.one_bit c.requires.tapped c.requires.tap_width c.requires.before.there c.requires.before.width c.requires.bits c.atom_of-rest.ensures c.in_ok-net.ensures.gate;
  depth = chosen_over c.gate.new.b c.args.b.now c.args.test c.args.tap c.args.before c.args.bits c.atom_of-rest.result c.in_ok-net.net c.in_ok-net.ensures.logic.includes c.atom_of-rest.ensures c.in_ok-net.ensures.gate;
}

pub returns-in_err-net : goal.returns-in_err-net
returns-in_err-net c = at_err _ _ c.from_residual.result c.from_residual.ensures.1 c.gate.ensures.logic
