use Rattle.std.proofs.Common.{◌≡◌, ℕ, ◌+◌, ◌<◌, sym, subst, arith}
use Rattle.dk_base.specs.Numbers.{bit_count}
use Rattle.wiring.specs.declared.right.Atom.TheVariants as atom
use Rattle.net_build.specs.Counters.{Starts}
use Rattle.net_build.proofs.Operands.{net_operand, not_operation}
use Rattle.net_build.proofs.Counting.{one_wide}
use Rattle.net_build.specs.Registers.{register_bits, count_bits}
use Rattle.net_build.proofs.Bits.{bits_same, bits_more, no_count, some_count}
use Rattle.net_build.proofs.Starting.{register_adds, logic_adds, control_on, starts_now, starts_later, now_depth, later_depth}
use Rattle.net_build.proofs.counters.started.Goals as goal

pub gate-requires-clause-operation : goal.gate-requires-clause-operation
gate-requires-clause-operation c = not_operation c.args.b.now (atom.Net c.rst-reset.result) 1 one_wide (net_operand c.args.b.now c.rst-reset.result 1 c.rst-reset.ensures.net c.rst-reset.ensures.width)

pub returns-then-last-eq0-clause-adds : goal.returns-then-last-eq0-clause-adds
returns-then-last-eq0-clause-adds c = logic_adds c.gate.new.b c.args.b.now c.gate.ensures.logic

pub returns-then-last-eq0-clause-starts : goal.returns-then-last-eq0-clause-starts
returns-then-last-eq0-clause-starts c = subst (λ (l : ℕ). Starts c.gate.new.b l c.in_ok-net.net) (sym c.if-last-eq0.true) (starts_now c.args.b.now c.gate.new.b c.rst-reset.result c.in_ok-net.net c.rst-reset.ensures.reset c.rst-reset.ensures.net c.rst-reset.ensures.width c.gate.ensures.logic.includes c.in_ok-net.ensures.gate)

pub returns-clause-adds : goal.returns-clause-adds
returns-clause-adds c = control_on c.args.b.now c.counter_up_to.new.b c.gate-2.new.b (register_adds c.counter_up_to.new.b c.args.b.now _ c.in_ok-count.ensures.adds) (logic_adds c.gate-2.new.b c.counter_up_to.new.b c.gate-2.ensures.logic)

pub returns-clause-starts : goal.returns-clause-starts
returns-clause-starts c =
    let some : 0 < c.args.last = omega (arith, c.if-last-eq0.false) in
    starts_later c.counter_up_to.new.b c.gate-2.new.b c.in_ok-count.count c.in_ok-net-2.net c.number.result c.bits_for.result c.args.last some c.number.ensures c.gate-2.ensures.logic.includes c.in_ok-count.ensures.counts c.in_ok-net-2.ensures.gate

pub returns-then-last-eq0-clause-depth : goal.returns-then-last-eq0-clause-depth
returns-then-last-eq0-clause-depth c = now_depth c.gate.new.b c.args.b.now c.rst-reset.result c.in_ok-net.net c.rst-reset.ensures.reset c.in_ok-net.ensures.gate

pub returns-clause-depth : goal.returns-clause-depth
returns-clause-depth c = later_depth c.gate-2.new.b c.counter_up_to.new.b c.in_ok-count.count c.in_ok-net-2.net c.number.result _ c.number.ensures c.gate-2.ensures.logic.includes c.in_ok-count.ensures.depth c.in_ok-net-2.ensures.gate

pub returns-then-last-eq0-clause-bits : goal.returns-then-last-eq0-clause-bits
returns-then-last-eq0-clause-bits c =
    let same : register_bits c.gate.new.b ≡ register_bits c.args.b.now = bits_same c.gate.new.b c.args.b.now c.gate.ensures.logic.wires.regs in
    let none : count_bits c.args.last ≡ 0 = no_count c.args.last c.if-last-eq0.true in
    omega (arith, same, none)

pub returns-clause-bits : goal.returns-clause-bits
returns-clause-bits c =
    let same : register_bits c.gate-2.new.b ≡ register_bits c.counter_up_to.new.b = bits_same c.gate-2.new.b c.counter_up_to.new.b c.gate-2.ensures.logic.wires.regs in
    let more : register_bits c.counter_up_to.new.b ≡ register_bits c.args.b.now + bit_count c.args.last = bits_more c.counter_up_to.new.b c.args.b.now (bit_count c.args.last) c.in_ok-count.ensures.adds.regs in
    let some : count_bits c.args.last ≡ bit_count c.args.last = some_count c.args.last (omega (arith, c.if-last-eq0.false)) in
    omega (arith, same, more, some)
