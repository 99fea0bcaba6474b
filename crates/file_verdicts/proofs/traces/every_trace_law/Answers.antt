use Rattle.file_verdicts.proofs.TraceLines.{one_trace}
use Rattle.file_verdicts.proofs.TraceTexts.{trace_judged}
use Rattle.file_verdicts.proofs.traces.every_trace_law.Goals as goal

pub returns-clause-some : goal.returns-clause-some
returns-clause-some c = trace_judged

pub returns-clause-one : goal.returns-clause-one
returns-clause-one c = one_trace
