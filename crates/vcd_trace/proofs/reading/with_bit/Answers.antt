use Rattle.std.proofs.Common.{arith}
use Rattle.vcd_trace.proofs.Readings.{zero_bit, one_bit}
use Rattle.vcd_trace.proofs.reading.with_bit.Goals as goal

pub returns-in-48 : goal.returns-in-48
returns-in-48 c = zero_bit c.args.value c.args.byte c.saturating_mul.result c.in-48.is (λ h. omega (arith, h, c.saturating_mul.ensures))

pub returns-in-49 : goal.returns-in-49
returns-in-49 c = one_bit c.args.value c.args.byte c.saturating_add.result c.in-49.is (λ h. omega (arith, h, c.saturating_mul-in-49.ensures, c.saturating_add.ensures))
