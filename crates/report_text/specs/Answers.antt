-- What is answered on a text.
use Rattle.std.specs.Prelude.{◌≡◌, ℕ, List, Result, Ok, Err, ⊤}
use Rattle.report_text.specs.declared.reading.ReportFault.{ReportFault}
use Rattle.report_text.specs.declared.reading.ReportFault.TheVariants.{Line, OutOfMemory}
use Rattle.report_text.specs.declared.report.Report.{Report as TheReport}
use Rattle.report_text.specs.Reports.{Report, parts_of}
use Rattle.report_text.specs.Texts.{IsFaultyLine}

-- the first faulty line, or out of memory
abbrev pub Refuses : List ℕ → ReportFault → Type 0
Refuses text (Line number) = IsFaultyLine text number
Refuses text OutOfMemory = ⊤

-- the report, or out of memory
abbrev pub Gives : Report → Result TheReport ReportFault → Type 0
Gives r (Ok report) = parts_of report ≡ r
Gives r (Err (Line number)) = ⊥
Gives r (Err OutOfMemory) = ⊤

-- the line, or out of memory
abbrev pub Tells : ℕ → Result TheReport ReportFault → Type 0
Tells n (Ok report) = ⊥
Tells n (Err (Line number)) = number ≡ n
Tells n (Err OutOfMemory) = ⊤
