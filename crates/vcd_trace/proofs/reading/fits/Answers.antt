use Rattle.std.proofs.Common.{◌≤◌, arith}
use Rattle.vcd_trace.proofs.Readings.{small_number}
use Rattle.vcd_trace.proofs.reading.fits.Goals as goal

pub returns-clause-yes : goal.returns-clause-yes
returns-clause-yes c = λ t.
    let h : c.bits_for.result ≤ c.bits.result = grind (arith, t) in
    small_number c.args.width c.bits_for.result c.args.value (omega (arith, h, c.bits.ensures.bits)) c.bits_for.ensures.least.holds
