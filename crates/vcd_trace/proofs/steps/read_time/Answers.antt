use Rattle.std.proofs.Common.{subst}
use Rattle.vcd_trace.proofs.Readings.{TellsTime}
use Rattle.vcd_trace.proofs.Timewise.{time_missing}
use Rattle.vcd_trace.proofs.steps.read_time.Goals as goal

pub returns-in-Ok-None-clause-time : goal.returns-in-Ok-None-clause-time
returns-in-Ok-None-clause-time c = λ m text first old done r.
    time_missing m text c.args.bytes.now c.args.number first c.args.time old done r c.ranges.time.fits (subst (TellsTime c.args.time c.args.bytes.now) c.in-Ok-None.field-0-is c.in-Ok-None.ensures)
