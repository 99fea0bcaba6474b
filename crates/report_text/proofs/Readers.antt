-- What `read` answers.
use Rattle.std.proofs.Common.{◌≡◌, ◌∙◌, ℕ, List, sym}
use Rattle.std.specs.Prelude.{Result, Ok, Err, MatchResult}
use Rattle.report_text.specs.declared.step.Stage.TheVariants.{Start}
use Rattle.report_text.specs.declared.report.Report.{Report as TheReport}
use Rattle.report_text.specs.declared.reading.ReportFault.{ReportFault}
use Rattle.report_text.specs.declared.reading.ReportFault.TheVariants.{Line, OutOfMemory}
use Rattle.report_text.specs.Reports.{Report, parts_of}
use Rattle.dk_grammar.specs.Lines.{cut}
use Rattle.report_text.specs.Texts.{StandsFor, IsFaultyLine}
use Rattle.report_text.specs.Reading.{reading, nothing}
use Rattle.report_text.specs.Answers.{Refuses, Gives, Tells}
use Rattle.report_text.specs.Steps.{Finds}
use Rattle.report_text.proofs.Laws.{reading_sound, reading_complete, reading_faulty, faulty_reading}

pub judged : (text : List ℕ) (a : Result TheReport ReportFault) → Finds (reading 1 Start nothing (cut text)) a → MatchResult a (λ report. StandsFor text (parts_of report)) (λ fault. Refuses text fault)
judged text (Ok report) f = reading_sound text (parts_of report) f
judged text (Err (Line number)) f = reading_faulty text number f
judged text (Err OutOfMemory) f = tt

pub accepts : (text : List ℕ) (a : Result TheReport ReportFault) → Finds (reading 1 Start nothing (cut text)) a → (r : Report) → StandsFor text r → Gives r a
accepts text (Ok report) f r s = same_parts (sym f ∙ reading_complete text r s)
  where
    same_parts : {a b : Report} → ◌≡◌ {A = Result Report ℕ} (Ok a) (Ok b) → a ≡ b
    same_parts e = cc
accepts text (Err (Line number)) f r s = absurd (let e = sym f ∙ reading_complete text r s in cc e)
accepts text (Err OutOfMemory) f r s = tt

pub tells : (text : List ℕ) (a : Result TheReport ReportFault) → Finds (reading 1 Start nothing (cut text)) a → (n : ℕ) → IsFaultyLine text n → Tells n a
tells text (Ok report) f n s = absurd (let e = sym f ∙ faulty_reading text n s in cc e)
tells text (Err (Line number)) f n s = let e = sym f ∙ faulty_reading text n s in cc e
tells text (Err OutOfMemory) f n s = tt
