use Rattle.std.proofs.Common.{◌==◌, ◌∙◌, sym, arith}
use Rattle.wiring.specs.declared.right.Atom.TheVariants as atom
use Rattle.wiring.specs.declared.right.Operator.TheVariants.{And}
use Rattle.net_build.proofs.Operands.{net_operand, binary_operation}
use Rattle.net_build.proofs.Counting.{old_operand}
use Rattle.wiring.specs.Snapshot.{net_value}
use Rattle.net_build.proofs.Grown.{net_more, width_more}
use Rattle.net_build.proofs.Logic.{logic_on}
use Rattle.edge_select.proofs.Beginning.{both_here}
use Rattle.edge_select.proofs.Failing.{at_err}
use Rattle.edge_select.proofs.Levels.{here_over}
use Rattle.edge_select.proofs.starts.is_at.Goals as goal

pub equal_to-requires-2 : goal.equal_to-requires-2
equal_to-requires-2 c = record {
  x = net_more _ _ c.in_ok-across.ensures.logic.includes c.args.pixel.now.row c.requires.pixel.row;
  width = width_more _ _ c.in_ok-across.ensures.logic.includes c.args.pixel.now.row c.requires.pixel.row.declared ∙ c.requires.pixel.row_width ∙ sym c.width_for-2.ensures.count;
  bits = c.width_for-2.ensures.width;
  fits = omega (arith, c.width_for-2.ensures.fits, c.requires.in_column);
}

pub gate-requires-clause-operation : goal.gate-requires-clause-operation
gate-requires-clause-operation c =
    let across = c.in_ok-across.ensures.test in
    let down = c.in_ok-down.ensures.test in
    binary_operation c.equal_to-2.new.b And (atom.Net c.in_ok-across.across) (atom.Net c.in_ok-down.down) 1 (λ e. let f : ⊥ = cc in f) (omega arith, omega arith)
    (old_operand c.equal_to-2.new.b c.equal_to.new.b c.in_ok-across.across 1 c.in_ok-down.ensures.logic.includes across.net across.width) (net_operand c.equal_to-2.new.b c.in_ok-down.down 1 down.net down.width)

pub returns : goal.returns
returns c = record {
  logic = logic_on _ _ _ c.in_ok-across.ensures.logic (logic_on _ _ _ c.in_ok-down.ensures.logic c.gate.ensures.logic);
  test = let p = c.args.pixel.now in
      both_here c.gate.new.b c.equal_to-2.new.b c.equal_to.new.b c.args.b.now p.column p.row c.in_ok-across.across c.in_ok-down.down c.in_ok-net.net (λ s. net_value s p.column == c.args.spot.column) (λ s. net_value s p.row == c.args.spot.row)
      c.in_ok-across.ensures.logic.includes c.in_ok-down.ensures.logic.includes c.gate.ensures.logic.includes c.in_ok-across.ensures.test c.in_ok-down.ensures.test c.in_ok-net.ensures.gate;
  depth = here_over c.gate.new.b c.equal_to-2.new.b c.equal_to.new.b c.args.b.now c.args.pixel.now.column c.args.pixel.now.row c.in_ok-across.across c.in_ok-down.down c.in_ok-net.net c.in_ok-across.ensures.logic.includes c.in_ok-down.ensures.logic.includes c.gate.ensures.logic.includes c.in_ok-across.ensures.depth c.in_ok-down.ensures.depth c.in_ok-net.ensures.gate;
}

pub returns-in_err-down : goal.returns-in_err-down
returns-in_err-down c = at_err _ _ c.from_residual-in_err-down.result c.from_residual-in_err-down.ensures.1 (logic_on _ _ _ c.in_ok-across.ensures.logic c.in_err-down.ensures)

pub returns-in_err-net : goal.returns-in_err-net
returns-in_err-net c = at_err _ _ c.from_residual-in_err-net.result c.from_residual-in_err-net.ensures.1 (logic_on _ _ _ c.in_ok-across.ensures.logic (logic_on _ _ _ c.in_ok-down.ensures.logic c.gate.ensures.logic))
