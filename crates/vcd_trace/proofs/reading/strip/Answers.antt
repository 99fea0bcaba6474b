use Rattle.vcd_trace.proofs.Readings.{stripped}
use Rattle.vcd_trace.proofs.reading.strip.Goals as goal

pub returns : goal.returns
returns c = stripped c.args.front.now c.args.bytes.now c.strip_prefix.result c.strip_prefix.ensures.cases
