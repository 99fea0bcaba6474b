use Rattle.report_text.proofs.Answering.{strip_answer}
use Rattle.report_text.proofs.field.strip.Goals as goal

pub returns : goal.returns
returns c = strip_answer c.args.word.now c.args.bytes.now c.strip_prefix.result c.strip_prefix.ensures.cases
