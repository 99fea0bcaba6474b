-- A program's text decides one ending at an age, and with a report one of `check`.
use Rattle.std.proofs.Common.{◌≡◌, ℕ, List, refl, ap, arith}
use Rattle.dk_types.specs.Typed.{Typing}
use Rattle.dk_plan.specs.declared.judging.Claim.{Claim}
use Rattle.dk_endings.specs.declared.ending.Ending.{Ending}
use Rattle.dk_endings.specs.declared.ending.Ending.TheVariants as ending
use Rattle.source_fault.specs.declared.fault.SourceFault.{SourceFault}
use Rattle.dk_endings.specs.declared.ending.ReportFault.{ReportFault}
use Rattle.dk_endings.specs.declared.ending.ReportFault.TheVariants as report
use Rattle.dk_base.specs.Stencils.{Stencils}
use Rattle.pointwise_ir.specs.Programs.{Program}
use Rattle.dk_compile.specs.Fronts.{IsFront}
use Rattle.dk_compile.specs.Sources.{IsAccepted, IsSourceFault}
use Rattle.dk_top.specs.Plans.{IsConfirmed, IsWrongLine}
use Rattle.dk_top.specs.Reports.{IsChecked, IsReportFault, IsCheckAnswer}
use Rattle.dk_top.specs.Verdict.{IsJudged}
use Rattle.dk_top.specs.Program.{IsProgramAnswer}
use Rattle.dk_top.proofs.VerdictLemmas.{TextApart, OneTextFault, ApartAt, OneFaultAt}
use Rattle.dk_top.proofs.PlanFaults.{accepted_of}

-- the laws of reports
abbrev pub WrongApart : Type 0
WrongApart = (text bytes : List ℕ) (c : Claim) (line : ℕ) → IsConfirmed text bytes c → IsWrongLine text bytes line → ⊥

abbrev pub OneLine : Type 0
OneLine = (text bytes : List ℕ) (m n : ℕ) → IsWrongLine text bytes m → IsWrongLine text bytes n → m ≡ n

module _ (apart_at : ApartAt) (one_fault_at : OneFaultAt) where
  pub program_answer : (age : ℕ) (text : List ℕ) (a b : Ending) → IsJudged a → IsJudged b → IsProgramAnswer age text a → IsProgramAnswer age text b → a ≡ b
  program_answer age text ending.Done ending.Done _ _ x y = refl
  program_answer age text ending.Done (ending.Source f) _ _ x y = absurd (apart_at text age f x y)
  program_answer age text (ending.Source f) ending.Done _ _ x y = absurd (apart_at text age f y x)
  program_answer age text (ending.Source f) (ending.Source g) _ _ x y = ap ending.Source (one_fault_at text age f g x y)
  program_answer age text (ending.Image f) b _ _ x y = absurd x
  program_answer age text (ending.Verilog f) b _ _ x y = absurd x
  program_answer age text (ending.Stopped f) b _ _ x y = absurd x
  program_answer age text (ending.Rejected f) b _ _ x y = absurd x
  program_answer age text (ending.Unable f) b _ _ x y = absurd x
  program_answer age text ending.Usage b j _ x y = absurd j
  program_answer age text ending.ReadFault b j _ x y = absurd j
  program_answer age text ending.WriteFault b j _ x y = absurd j
  program_answer age text ending.Memory b j _ x y = absurd j
  program_answer age text _ (ending.Image f) _ _ x y = absurd y
  program_answer age text _ (ending.Verilog f) _ _ x y = absurd y
  program_answer age text _ (ending.Stopped f) _ _ x y = absurd y
  program_answer age text _ (ending.Rejected f) _ _ x y = absurd y
  program_answer age text _ (ending.Unable f) _ _ x y = absurd y
  program_answer age text _ ending.Usage _ j x y = absurd j
  program_answer age text _ ending.ReadFault _ j x y = absurd j
  program_answer age text _ ending.WriteFault _ j x y = absurd j
  program_answer age text _ ending.Memory _ j x y = absurd j

-- a text with a form and live reads is accepted
abbrev pub FrontAccepted : Type 0
FrontAccepted = (text : List ℕ) (p : Typing) (ir : Program) (s : Stencils) → IsFront text p ir s → IsAccepted text p

module _ (front_accepted : FrontAccepted) (text_apart : TextApart) (one_text : OneTextFault) (wrong_apart : WrongApart) (one_line : OneLine) where
  -- a report that holds is one of an accepted text
  checked_accepted : (text bytes : List ℕ) (c : Claim) → IsChecked text bytes c → (p : Typing) × IsAccepted text p
  checked_accepted text bytes c is = accepted_of front_accepted text is.confirmed.names is.confirmed.stencils is.confirmed.has

  no_source : (text : List ℕ) (f : SourceFault) → ((p : Typing) × IsAccepted text p) → IsSourceFault text f → ⊥
  no_source text f accepted h = text_apart text accepted.0 f accepted.1 h

  checked_no_fault : (text bytes : List ℕ) (c : Claim) (f : ReportFault) → IsChecked text bytes c → IsReportFault text bytes f → ⊥
  checked_no_fault text bytes c report.TooLong is h = let a = is.short in absurd (omega (arith, a, h))
  checked_no_fault text bytes c (report.Line n) is h = wrong_apart text bytes c n is.confirmed h.1

  one_report_fault : (text bytes : List ℕ) (f g : ReportFault) → IsReportFault text bytes f → IsReportFault text bytes g → f ≡ g
  one_report_fault text bytes report.TooLong report.TooLong x y = refl
  one_report_fault text bytes report.TooLong (report.Line n) x y = let l = y.0 in absurd (omega (arith, x, l))
  one_report_fault text bytes (report.Line m) report.TooLong x y = let l = x.0 in absurd (omega (arith, y, l))
  one_report_fault text bytes (report.Line m) (report.Line n) x y = ap report.Line (one_line text bytes m n x.1 y.1)

  pub check_answer : (text bytes : List ℕ) (a b : Ending) → IsJudged a → IsJudged b → IsCheckAnswer text bytes a → IsCheckAnswer text bytes b → a ≡ b
  check_answer text bytes ending.Done ending.Done _ _ x y = refl
  check_answer text bytes ending.Done (ending.Source f) _ _ x y = absurd (no_source text f (checked_accepted text bytes x.0 x.1) y)
  check_answer text bytes ending.Done (ending.Rejected f) _ _ x y = absurd (checked_no_fault text bytes x.0 f x.1 y.fault_is)
  check_answer text bytes (ending.Source f) ending.Done _ _ x y = absurd (no_source text f (checked_accepted text bytes y.0 y.1) x)
  check_answer text bytes (ending.Source f) (ending.Source g) _ _ x y = ap ending.Source (one_text text f g x y)
  check_answer text bytes (ending.Source f) (ending.Rejected g) _ _ x y = absurd (no_source text f (y.program, y.accepted) x)
  check_answer text bytes (ending.Rejected f) ending.Done _ _ x y = absurd (checked_no_fault text bytes y.0 f y.1 x.fault_is)
  check_answer text bytes (ending.Rejected f) (ending.Source g) _ _ x y = absurd (no_source text g (x.program, x.accepted) y)
  check_answer text bytes (ending.Rejected f) (ending.Rejected g) _ _ x y = ap ending.Rejected (one_report_fault text bytes f g x.fault_is y.fault_is)
  check_answer text bytes (ending.Image f) b _ _ x y = absurd x
  check_answer text bytes (ending.Verilog f) b _ _ x y = absurd x
  check_answer text bytes (ending.Stopped f) b _ _ x y = absurd x
  check_answer text bytes (ending.Unable f) b _ _ x y = absurd x
  check_answer text bytes ending.Usage b j _ x y = absurd j
  check_answer text bytes ending.ReadFault b j _ x y = absurd j
  check_answer text bytes ending.WriteFault b j _ x y = absurd j
  check_answer text bytes ending.Memory b j _ x y = absurd j
  check_answer text bytes _ (ending.Image f) _ _ x y = absurd y
  check_answer text bytes _ (ending.Verilog f) _ _ x y = absurd y
  check_answer text bytes _ (ending.Stopped f) _ _ x y = absurd y
  check_answer text bytes _ (ending.Unable f) _ _ x y = absurd y
  check_answer text bytes _ ending.Usage _ j x y = absurd j
  check_answer text bytes _ ending.ReadFault _ j x y = absurd j
  check_answer text bytes _ ending.WriteFault _ j x y = absurd j
  check_answer text bytes _ ending.Memory _ j x y = absurd j
