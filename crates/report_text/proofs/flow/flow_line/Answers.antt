use Rattle.report_text.proofs.Lines.{no_read}
use Rattle.report_text.proofs.flow.flow_line.Goals as goal

pub returns-in_err-reader : goal.returns-in_err-reader
returns-in_err-reader c = rw c.from_residual-in_err-reader.ensures (no_read c.args.images.now c.args.line.now c.in-Some-strip-2.rest.now c.in_default.ensures c.in_default-strip.ensures c.in-Some-strip-2.ensures c.in_err-reader.ensures)
