use Rattle.std.proofs.Common.{◌∙◌, sym, ap, ◌++◌, arith}
use Rattle.vcd_trace.proofs.Numbers.{id_last, id_joined, id_one, id_one_more}
use Rattle.vcd_trace.proofs.number.+push_id.Goals as goal

pub push_id-requires : goal.push_id-requires
push_id-requires t c =
    (omega (arith, c.decreases, c.if-place-ge-ID_BASE.true), omega (arith, c.requires, c.push_reserved.ensures.len, c.push_reserved.ensures.capacity, id_one_more c.args.place c.if-place-ge-ID_BASE.true))

pub returns-then-place-ge-ID_BASE-clause-items : goal.returns-then-place-ge-ID_BASE-clause-items
returns-then-place-ge-ID_BASE-clause-items t c =
    id_joined c.args.to.now.items c.push_reserved.new.self.items c.push_id.new.to.items c.args.place c.if-place-ge-ID_BASE.true c.push_reserved.ensures.items c.push_id.ensures.items

pub returns-then-place-ge-ID_BASE-clause-len : goal.returns-then-place-ge-ID_BASE-clause-len
returns-then-place-ge-ID_BASE-clause-len t c =
    omega (arith, c.push_id.ensures.len, c.push_reserved.ensures.len, id_one_more c.args.place c.if-place-ge-ID_BASE.true)

pub returns-else-place-ge-ID_BASE-clause-items : goal.returns-else-place-ge-ID_BASE-clause-items
returns-else-place-ge-ID_BASE-clause-items t c =
    c.push_reserved-else-place-ge-ID_BASE.ensures.items ∙ ap (λ z. c.args.to.now.items ++ z) (sym (id_last c.args.place (omega (arith, c.if-place-ge-ID_BASE.false))))

pub returns-else-place-ge-ID_BASE-clause-len : goal.returns-else-place-ge-ID_BASE-clause-len
returns-else-place-ge-ID_BASE-clause-len t c =
    omega (arith, c.push_reserved-else-place-ge-ID_BASE.ensures.len, id_one c.args.place (omega (arith, c.if-place-ge-ID_BASE.false)))
