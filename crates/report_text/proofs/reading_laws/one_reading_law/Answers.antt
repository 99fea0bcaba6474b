use Rattle.report_text.proofs.Laws.{report_is_one, fault_is_one, fault_apart}
use Rattle.report_text.proofs.reading_laws.one_reading_law.Goals as goal

pub returns-clause-report : goal.returns-clause-report
returns-clause-report c = λ text r s a b. report_is_one text r s a b

pub returns-clause-fault : goal.returns-clause-fault
returns-clause-fault c = λ text m n a b. fault_is_one text m n a b

pub returns-clause-apart : goal.returns-clause-apart
returns-clause-apart c = λ text r n a b. fault_apart text r n a b
