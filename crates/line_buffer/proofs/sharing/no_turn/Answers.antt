use Rattle.std.proofs.Common.{sym, subst, refl, lit≤}
use Rattle.wiring.specs.declared.right.Atom.{Atom}
use Rattle.wiring.specs.declared.netlist.Net.{Net}
use Rattle.net_build.specs.Draft.{IsOperand}
use Rattle.net_build.proofs.Operands.{constant_operand, copy_operation}
use Rattle.net_build.proofs.Counting.{one_wide}
use Rattle.line_buffer.proofs.Shared.{zero_turn}
use Rattle.line_buffer.proofs.sharing.no_turn.Goals as goal

pub gate-requires-clause-operation : goal.gate-requires-clause-operation
gate-requires-clause-operation c = copy_operation c.args.b.now c.number.result 1 one_wide (subst (λ (a : Atom Net). IsOperand c.args.b.now a 1) (sym c.number.ensures) (constant_operand c.args.b.now (record { width = 1; value = 0 }) 1 (record { width = one_wide; fits = lit≤ tt }) refl))

pub returns-clause-turn : goal.returns-clause-turn
returns-clause-turn c = zero_turn c.gate.new.b c.args.b.now c.number.result c.in_ok-net.net c.number.ensures c.in_ok-net.ensures.gate
