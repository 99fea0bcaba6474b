use Rattle.report_text.proofs.Readers.{judged, accepts, tells}
use Rattle.report_text.proofs.reading.read.Goals as goal

pub returns-clause-judged : goal.returns-clause-judged
returns-clause-judged c = judged c.args.text.now c.all.result c.all.ensures

pub returns-clause-accepts : goal.returns-clause-accepts
returns-clause-accepts c = accepts c.args.text.now c.all.result c.all.ensures

pub returns-clause-tells : goal.returns-clause-tells
returns-clause-tells c = tells c.args.text.now c.all.result c.all.ensures
