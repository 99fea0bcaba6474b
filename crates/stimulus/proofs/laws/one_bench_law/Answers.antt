use Rattle.stimulus.proofs.Benches.{one_file, one_notes, one_stop, file_or_stop}
use Rattle.stimulus.proofs.laws.one_bench_law.Goals as goal

pub returns-clause-file : goal.returns-clause-file
returns-clause-file c = λ m one_shot one_next drive size rounds a b x y. one_file m one_shot one_next drive rounds c.one_run_law.ensures.one size a b x y

pub returns-clause-notes : goal.returns-clause-notes
returns-clause-notes c = λ m one_shot one_next drive rounds a b x y. one_notes m one_shot one_next drive rounds c.one_run_law.ensures.one a b x y

pub returns-clause-stop : goal.returns-clause-stop
returns-clause-stop c = λ m one_shot one_next drive size rounds s t x y. one_stop m one_shot one_next drive rounds c.one_run_law.ensures.one c.one_run_law.ensures.stop c.one_run_law.ensures.apart size s t x y

pub returns-clause-apart : goal.returns-clause-apart
returns-clause-apart c = λ m one_shot one_next drive size rounds file s x y. file_or_stop m one_shot one_next drive rounds c.one_run_law.ensures.one c.one_run_law.ensures.apart size file s x y
