-- Used by private functions only.
-- What the functions of the reader answer.
use Rattle.std.specs.Prelude.{◌≡◌, ℕ, ℤ, List, codes, Option, Some, None, Result, Ok, Err, ⊤, Bool, not, nat_eq}
use Rattle.report_text.specs.declared.report.FlowLine.{FlowLine}
use Rattle.report_text.specs.declared.report.Report.{Report as TheReport}
use Rattle.report_text.specs.declared.reading.ReportFault.{ReportFault}
use Rattle.report_text.specs.declared.reading.ReportFault.TheVariants.{Line, OutOfMemory}
use Rattle.report_text.specs.declared.step.Stage.{Stage}
use Rattle.report_text.specs.declared.step.Stage.TheVariants.{Clocks}
use Rattle.report_text.specs.Reports.{Report, parts_of}
use Rattle.report_text.specs.Reading.{◌>>=◌, strip, offset_at, amount_at, number_line_at}

-- the kind of the line and the report that a step returns; if it returns none, the report is unchanged
abbrev pub Does : Option (Stage × Report) → (old : Report) → Option Stage → (new : Report) → Type 0
Does read old None new = (read ≡ None) × (new ≡ old)
Does read old (Some stage) new = read ≡ Some (stage, new)

-- after the latencies: the clocks
abbrev pub clocked : Report → List ℕ → Option (Stage × Report)
clocked r line = number_line_at (codes "clocks ") line >>= λ n. Some (Clocks, record r { clocks = n })

-- after the names of a read: its offset and a flow
abbrev pub behind_names : (ℤ → ℤ → ℕ → FlowLine) → List ℕ → Option FlowLine
behind_names make bytes = do
  across ← strip (codes " ") bytes
  dx ← offset_at across
  down ← strip (codes " ") dx.1
  dy ← offset_at down
  n ← amount_at dy.1
  Some (make dx.0 dy.0 n)

-- any byte but LF
abbrev pub is_inside : ℕ → Bool
is_inside b = not (nat_eq b 10)

-- the report or the number of the faulty line, as it is read, or out of memory
abbrev pub Finds : Result Report ℕ → Result TheReport ReportFault → Type 0
Finds read (Ok report) = read ≡ Ok (parts_of report)
Finds read (Err (Line number)) = read ≡ Err number
Finds read (Err OutOfMemory) = ⊤
