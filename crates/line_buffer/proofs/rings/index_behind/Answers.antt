use Rattle.std.proofs.Common.{◌∙◌, ◌-◌, arith}
use Rattle.wiring.specs.declared.right.Atom.TheVariants as atom
use Rattle.wiring.specs.declared.right.Operator.TheVariants.{Subtract}
use Rattle.net_build.proofs.Parts.{includes_on}
use Rattle.net_build.proofs.Grown.{width_more}
use Rattle.net_build.proofs.Operands.{net_operand, binary_operation, choose_operation}
use Rattle.net_build.proofs.Logic.{logic_on}
use Rattle.net_build.proofs.Counting.{number_operand, old_operand}
use Rattle.line_buffer.proofs.Tapping.{place_computes}
use Rattle.line_buffer.proofs.Depth.{place_over}
use Rattle.line_buffer.proofs.rings.index_behind.Goals as goal

pub returns-clause-net : goal.returns-clause-net
returns-clause-net c =
    place_computes c.args.b.now c.gate.new.b c.gate-2.new.b c.gate-3.new.b c.gate-4.new.b c.args.index c.in_ok-low.low c.in_ok-up.up c.in_ok-down.down c.in_ok-place.place c.args.bits c.args.words c.args.age c.number.result c.number-2.result c.number-3.result
    c.gate.ensures.logic.includes c.gate-2.ensures.logic.includes c.gate-3.ensures.logic.includes c.gate-4.ensures.logic.includes c.requires.there c.requires.width c.requires.wide c.requires.some c.requires.short c.requires.fits c.number.ensures c.number-2.ensures c.number-3.ensures
    c.in_ok-low.ensures.gate c.in_ok-up.ensures.gate c.in_ok-down.ensures.gate c.in_ok-place.ensures.gate

pub returns-clause-logic : goal.returns-clause-logic
returns-clause-logic c = logic_on _ _ _ c.gate.ensures.logic (logic_on _ _ _ c.gate-2.ensures.logic (logic_on _ _ _ c.gate-3.ensures.logic c.gate-4.ensures.logic))

pub returns-in_err-up-clause-logic : goal.returns-in_err-up-clause-logic
returns-in_err-up-clause-logic c = logic_on _ _ _ c.gate.ensures.logic c.gate-2.ensures.logic

pub returns-in_err-down-clause-logic : goal.returns-in_err-down-clause-logic
returns-in_err-down-clause-logic c = logic_on _ _ _ c.gate.ensures.logic (logic_on _ _ _ c.gate-2.ensures.logic c.gate-3.ensures.logic)

pub returns-in_err-place-clause-logic : goal.returns-in_err-place-clause-logic
returns-in_err-place-clause-logic c = logic_on _ _ _ c.gate.ensures.logic (logic_on _ _ _ c.gate-2.ensures.logic (logic_on _ _ _ c.gate-3.ensures.logic c.gate-4.ensures.logic))

pub gate-requires-3-clause-operation : goal.gate-requires-3-clause-operation
gate-requires-3-clause-operation c =
    let f = includes_on _ _ _ c.gate.ensures.logic.includes c.gate-2.ensures.logic.includes in
    binary_operation c.gate-2.new.b Subtract (atom.Net c.args.index) c.number-3.result c.args.bits (λ e. cc) c.requires.wide (old_operand c.gate-2.new.b c.args.b.now c.args.index c.args.bits f c.requires.there c.requires.width)
    (number_operand c.gate-2.new.b c.number-3.result c.args.bits c.args.age c.number-3.ensures c.requires.wide (omega (arith, c.requires.short, c.requires.fits)))

pub gate-requires-4-clause-operation : goal.gate-requires-4-clause-operation
gate-requires-4-clause-operation c =
    let first = c.in_ok-low.ensures.gate in
    let second = c.in_ok-up.ensures.gate in
    let third = c.in_ok-down.ensures.gate in
    let f10 = c.gate.ensures.logic.includes in
    let f20 = includes_on _ _ _ f10 c.gate-2.ensures.logic.includes in
    choose_operation c.gate-3.new.b (atom.Net c.in_ok-low.low) (atom.Net c.in_ok-up.up) (atom.Net c.in_ok-down.down) c.args.bits c.requires.wide
    (old_operand c.gate-3.new.b c.gate.new.b c.in_ok-low.low 1 (includes_on _ _ _ c.gate-2.ensures.logic.includes c.gate-3.ensures.logic.includes) first.net first.width)
    (old_operand c.gate-3.new.b c.gate-2.new.b c.in_ok-up.up c.args.bits c.gate-3.ensures.logic.includes second.net (second.width ∙ width_more c.gate.new.b c.args.b.now f10 c.args.index c.requires.there.declared ∙ c.requires.width))
    (net_operand c.gate-3.new.b c.in_ok-down.down c.args.bits third.net (third.width ∙ width_more c.gate-2.new.b c.args.b.now f20 c.args.index c.requires.there.declared ∙ c.requires.width))

pub returns-clause-depth : goal.returns-clause-depth
returns-clause-depth c =
    place_over c.args.b.now c.gate.new.b c.gate-2.new.b c.gate-3.new.b c.gate-4.new.b c.args.index c.in_ok-low.low c.in_ok-up.up c.in_ok-down.down c.in_ok-place.place c.number.result c.number-2.result c.number-3.result
    (record { width = c.args.bits; value = c.args.age }) (record { width = c.args.bits; value = c.args.words - c.args.age }) (record { width = c.args.bits; value = c.args.age }) c.gate.ensures.logic.includes c.gate-2.ensures.logic.includes c.gate-3.ensures.logic.includes c.gate-4.ensures.logic.includes c.number.ensures c.number-2.ensures c.number-3.ensures
    c.in_ok-low.ensures.gate c.in_ok-up.ensures.gate c.in_ok-down.ensures.gate c.in_ok-place.ensures.gate
