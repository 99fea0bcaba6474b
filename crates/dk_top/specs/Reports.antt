-- What `check` judges.
use Rattle.std.specs.Prelude.{◌≡◌, ℕ, ◌<◌, ◌≤◌, true, List, length}
use Rattle.dk_base.specs.declared.TheConstants.{MAX_REPORT_BYTES}
use Rattle.dk_types.specs.Typed.{Typing}
use Rattle.dk_plan.specs.declared.judging.Claim.{Claim}
use Rattle.dk_endings.specs.declared.ending.ReportFault.{ReportFault}
use Rattle.dk_endings.specs.declared.ending.ReportFault.TheVariants.{TooLong, Line}
use Rattle.dk_compile.specs.Sources.{IsAccepted, IsSourceFault}
use Rattle.dk_top.specs.Plans.{IsConfirmed, IsWrongLine}
use Rattle.dk_endings.specs.declared.ending.Ending.{Ending}
use Rattle.dk_endings.specs.Lines.{holds_line}
use Rattle.dk_top.specs.Meaning.{bytes_of, Answers, faultless, IsAnswered, reports_text, Meaning, of_both}

-- the text is accepted, and this report of at most its limit holds of it
pub record IsChecked (source report : List ℕ) (claim : Claim) : Type 0 where
  pub short : length report ≤ MAX_REPORT_BYTES
  pub confirmed : IsConfirmed source report claim

-- why a report does not hold of an accepted text: its length, and then its first wrong line
abbrev pub IsReportFault : (source report : List ℕ) → ReportFault → Type 0
IsReportFault source report TooLong = MAX_REPORT_BYTES < length report
IsReportFault source report (Line number) = (length report ≤ MAX_REPORT_BYTES) × IsWrongLine source report number

pub record IsRefused (source report : List ℕ) (fault : ReportFault) : Type 0 where
  pub program : Typing
  pub accepted : IsAccepted source program
  pub fault_is : IsReportFault source report fault

-- the report holds
abbrev pub CanBeChecked : (source report : List ℕ) → Type 0
CanBeChecked source report = (claim : Claim) × IsChecked source report claim

-- when each ending comes for a program's text and a report
abbrev pub check_answers : (source report : List ℕ) → Answers
check_answers source report = record (faultless (CanBeChecked source report)) { source = IsSourceFault source; rejected = IsRefused source report }

abbrev pub IsCheckAnswer : (source report : List ℕ) → Ending → Type 0
IsCheckAnswer source report result = IsAnswered (check_answers source report) result

-- the line of a report that holds
abbrev pub IsClaimLine : (source report line : List ℕ) → Type 0
IsClaimLine source report line = (claim : Claim) × IsChecked source report claim × (line ≡ holds_line claim.bits claim.latency)

-- what `check` means
abbrev pub check_meaning : (program report : List ℕ) → Meaning
check_meaning program report = record (of_both program report true (λ source. (p : Typing) × IsAccepted source p) check_answers) {
  reports = reports_text (λ files. IsClaimLine (bytes_of files program) (bytes_of files report));
}
