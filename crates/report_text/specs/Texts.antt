-- Which report a text denotes, and the first line of it that continues no report.
use Rattle.std.specs.Prelude.{◌≡◌, ℕ, List}
use Rattle.dk_grammar.specs.Lines.{IsFirstFaulty}
use Rattle.report_text.specs.Reports.{Report, Meets}
use Rattle.report_text.specs.Layout.{layout}

-- the text is the report's, byte for byte
pub record StandsFor (text : List ℕ) (r : Report) : Type 0 where
  pub meets : Meets r
  pub written : text ≡ layout r

-- the text of some report
abbrev pub IsReportText : List ℕ → Type 0
IsReportText text = (r : Report) × StandsFor text r

-- The line of this number, counted from 1, is the first that continues no report.
abbrev pub IsFaultyLine : List ℕ → ℕ → Type 0
IsFaultyLine text number = IsFirstFaulty IsReportText text number
