use Rattle.file_verdicts.proofs.ReportTexts.{report_judged}
use Rattle.file_verdicts.proofs.reports.every_report_law.Goals as goal

pub returns : goal.returns
returns c = record { some = report_judged }
