use Rattle.std.proofs.Common.{arith}
use Rattle.vcd_trace.proofs.Numbers.{id_one_more, id_short}
use Rattle.vcd_trace.proofs.number.+id_length.Goals as goal

pub returns-clause-few : goal.returns-clause-few
returns-clause-few t c = omega (arith, c.id_length.ensures.length, id_one_more c.args.place (omega (arith, c.if-place-lt-ID_BASE.false)), id_short c.args.place c.ranges.place.fits)
