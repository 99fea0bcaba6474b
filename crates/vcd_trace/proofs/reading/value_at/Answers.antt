use Rattle.std.proofs.Common.{◌++◌, ◌∷◌, [], arith}
use Rattle.vcd_trace.specs.Layout.{id_of}
use Rattle.vcd_trace.proofs.Readings.{wide_line, small_number}
use Rattle.vcd_trace.proofs.reading.value_at.Goals as goal

pub returns-else-bits-eq1 : goal.returns-else-bits-eq1
returns-else-bits-eq1 c = λ i v rest l e.
    c.wide_value.ensures v ((id_of i ++ 10 ∷ []) ++ rest) (small_number 64 c.args.width v (omega (arith, c.bits.ensures.width.1)) l)
    (wide_line c.args.width i v rest c.args.bytes.now (λ one. c.if-bits-eq1.false (omega (arith, one, c.bits.ensures.bits))) e)
