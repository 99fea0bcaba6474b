use Rattle.std.proofs.Common.{arith}
use Rattle.report_text.proofs.FirstLines.{cut_first, cut_last}
use Rattle.report_text.proofs.reading.line_length.Goals as goal

pub returns-then-length-text-clause-cut : goal.returns-then-length-text-clause-cut
returns-then-length-text-clause-cut c = cut_first c.args.text.now c.inside_length-length.result c.inside_length-length.ensures.is (omega arith)

pub returns-else-length-text-clause-cut : goal.returns-else-length-text-clause-cut
returns-else-length-text-clause-cut c = cut_last c.args.text.now (omega arith)
