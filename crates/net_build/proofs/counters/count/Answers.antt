use Rattle.std.proofs.Common.{◌∙◌}
use Rattle.wiring.specs.declared.right.Atom.TheVariants as atom
use Rattle.wiring.specs.declared.right.Operator.TheVariants.{Add}
use Rattle.net_build.proofs.Grown.{width_more}
use Rattle.net_build.proofs.Operands.{net_operand, binary_operation, choose_operation}
use Rattle.net_build.proofs.Logic.{logic_on}
use Rattle.net_build.proofs.Counting.{one_fits, number_operand, over_operand, old_operand, ending_computes, next_computes}
use Rattle.net_build.proofs.Parts.{includes_on}
use Rattle.net_build.proofs.Levels.{ending_over, next_over}
use Rattle.net_build.proofs.counters.count.Goals as goal

pub number-requires-2-clause-fits : goal.number-requires-2-clause-fits
number-requires-2-clause-fits c = one_fits c.args.bits c.requires.range.wide.0

pub gate-requires-2-clause-operation : goal.gate-requires-2-clause-operation
gate-requires-2-clause-operation c =
    binary_operation c.gate.new.b Add (atom.Net c.args.at) c.number-2.result c.args.bits (λ e. cc) c.requires.range.wide (old_operand c.gate.new.b c.args.b.now c.args.at c.args.bits c.gate.ensures.logic.includes c.requires.at c.requires.width)
    (number_operand c.gate.new.b c.number-2.result c.args.bits 1 c.number-2.ensures c.requires.range.wide (one_fits c.args.bits c.requires.range.wide.0))

pub gate-requires-3-clause-operation : goal.gate-requires-3-clause-operation
gate-requires-3-clause-operation c =
    let first = c.in_ok-ending.ensures.gate in
    let second = c.in_ok-more.ensures.gate in
    choose_operation c.gate-2.new.b (atom.Net c.in_ok-ending.ending) c.over.result (atom.Net c.in_ok-more.more) c.args.bits c.requires.range.wide (old_operand c.gate-2.new.b c.gate.new.b c.in_ok-ending.ending 1 c.gate-2.ensures.logic.includes first.net first.width)
    (over_operand c.gate-2.new.b c.args.wraps c.args.bits c.args.at c.over.result c.over.ensures c.requires.range.wide (old_operand c.gate-2.new.b c.args.b.now c.args.at c.args.bits (includes_on _ _ _ c.gate.ensures.logic.includes c.gate-2.ensures.logic.includes) c.requires.at c.requires.width))
    (net_operand c.gate-2.new.b c.in_ok-more.more c.args.bits second.net (second.width ∙ width_more c.gate.new.b c.args.b.now c.gate.ensures.logic.includes c.args.at c.requires.at.declared ∙ c.requires.width))

pub returns-in_err-more-clause-logic : goal.returns-in_err-more-clause-logic
returns-in_err-more-clause-logic c = logic_on _ _ _ c.gate.ensures.logic c.gate-2.ensures.logic

pub returns-in_err-next-clause-logic : goal.returns-in_err-next-clause-logic
returns-in_err-next-clause-logic c = logic_on _ _ _ c.gate.ensures.logic (logic_on _ _ _ c.gate-2.ensures.logic c.gate-3.ensures.logic)

pub returns-clause-logic : goal.returns-clause-logic
returns-clause-logic c = logic_on _ _ _ c.gate.ensures.logic (logic_on _ _ _ c.gate-2.ensures.logic c.gate-3.ensures.logic)

pub returns-clause-next : goal.returns-clause-next
returns-clause-next c =
    next_computes c.args.b.now c.gate.new.b c.gate-2.new.b c.gate-3.new.b c.args.at c.args.bits c.args.last c.args.wraps c.number.result c.number-2.result c.over.result c.in_ok-ending.ending c.in_ok-more.more c.in_ok-next.next
    c.gate.ensures.logic.includes c.gate-2.ensures.logic.includes c.gate-3.ensures.logic.includes c.requires.at c.requires.width c.requires.range.wide c.requires.range.fits c.requires.range.needed c.number.ensures c.number-2.ensures c.over.ensures c.in_ok-ending.ensures.gate c.in_ok-more.ensures.gate c.in_ok-next.ensures.gate

pub returns-clause-ending : goal.returns-clause-ending
returns-clause-ending c =
    ending_computes c.args.b.now c.gate.new.b c.gate-2.new.b c.gate-3.new.b c.args.at c.args.bits c.args.last c.args.wraps c.number.result c.number-2.result c.over.result c.in_ok-ending.ending c.in_ok-more.more c.in_ok-next.next
    c.gate.ensures.logic.includes c.gate-2.ensures.logic.includes c.gate-3.ensures.logic.includes c.requires.at c.requires.width c.requires.range.wide c.requires.range.fits c.requires.range.needed c.number.ensures c.number-2.ensures c.over.ensures c.in_ok-ending.ensures.gate c.in_ok-more.ensures.gate

pub returns-clause-ending_depth : goal.returns-clause-ending_depth
returns-clause-ending_depth c = ending_over c.gate-3.new.b c.gate.new.b c.args.b.now c.args.at c.in_ok-ending.ending c.number.result _ c.gate.ensures.logic.includes (includes_on _ _ _ c.gate-2.ensures.logic.includes c.gate-3.ensures.logic.includes) c.number.ensures c.in_ok-ending.ensures.gate

pub returns-clause-next_depth : goal.returns-clause-next_depth
returns-clause-next_depth c =
    next_over c.args.b.now c.gate.new.b c.gate-2.new.b c.gate-3.new.b c.args.at c.in_ok-ending.ending c.in_ok-more.more c.in_ok-next.next c.args.bits c.args.wraps c.number.result c.number-2.result c.over.result _ _ c.gate.ensures.logic.includes c.gate-2.ensures.logic.includes c.gate-3.ensures.logic.includes c.number.ensures c.number-2.ensures c.over.ensures c.in_ok-ending.ensures.gate c.in_ok-more.ensures.gate c.in_ok-next.ensures.gate
