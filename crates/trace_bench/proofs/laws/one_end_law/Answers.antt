use Rattle.trace_bench.proofs.OneRun.{one_run, one_stop, run_or_stop}
use Rattle.trace_bench.proofs.laws.one_end_law.Goals as goal

pub returns-clause-run : goal.returns-clause-run
returns-clause-run c = λ m one_shot one_next drive rounds. one_run m one_shot one_next drive rounds c.one_run_law.ensures.one

pub returns-clause-stop : goal.returns-clause-stop
returns-clause-stop c = λ m one_shot one_next drive rounds. one_stop m one_shot one_next drive rounds c.one_run_law.ensures.stop

pub returns-clause-apart : goal.returns-clause-apart
returns-clause-apart c = λ m one_shot one_next drive rounds. run_or_stop m one_shot one_next drive rounds c.one_run_law.ensures.apart
