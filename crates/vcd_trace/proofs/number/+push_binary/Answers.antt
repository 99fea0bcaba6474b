use Rattle.std.proofs.Common.{arith}
use Rattle.vcd_trace.proofs.Numbers.{binary_joined, binary_one_more}
use Rattle.vcd_trace.proofs.number.+push_binary.Goals as goal

pub push_binary-requires : goal.push_binary-requires
push_binary-requires t c =
    (omega (arith, c.decreases, c.if-value-ge2.true), omega (arith, c.requires, binary_one_more c.args.value c.if-value-ge2.true))

pub push_reserved-requires : goal.push_reserved-requires
push_reserved-requires t c =
    omega (arith, c.requires, c.push_binary.ensures.len, c.push_binary.ensures.capacity, binary_one_more c.args.value c.if-value-ge2.true)

pub returns-then-value-ge2-clause-items : goal.returns-then-value-ge2-clause-items
returns-then-value-ge2-clause-items t c =
    binary_joined c.args.to.now.items c.push_binary.new.to.items c.push_reserved.new.self.items c.args.value c.if-value-ge2.true c.push_binary.ensures.items c.push_reserved.ensures.items

pub returns-then-value-ge2-clause-len : goal.returns-then-value-ge2-clause-len
returns-then-value-ge2-clause-len t c =
    omega (arith, c.push_reserved.ensures.len, c.push_binary.ensures.len, binary_one_more c.args.value c.if-value-ge2.true)
