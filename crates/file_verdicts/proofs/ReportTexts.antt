-- Each text denotes a report, or has a first faulty line.
use Rattle.std.proofs.Common.{◌≡◌, refl, List, ℕ, ◌⊎◌, inl, inr, Result, Ok, Err}
use Rattle.report_text.specs.Reports.{Report}
use Rattle.report_text.specs.Texts.{StandsFor, IsFaultyLine}
use Rattle.report_text.proofs.Laws.{reading_sound, reading_faulty}

-- one of two answers, each of which says what the text is
by_answer : (text : List ℕ) (answer : Result Report ℕ) → ((report : Report) → answer ≡ Ok report → StandsFor text report) → ((number : ℕ) → answer ≡ Err number → IsFaultyLine text number)
    → ((report : Report) × StandsFor text report) ⊎ ((number : ℕ) × IsFaultyLine text number)
by_answer text (Ok report) sound faulty = inl (report, sound report refl)
by_answer text (Err number) sound faulty = inr (number, faulty number refl)

pub report_judged : (text : List ℕ) → ((report : Report) × StandsFor text report) ⊎ ((number : ℕ) × IsFaultyLine text number)
report_judged text = by_answer text _ (reading_sound text) (reading_faulty text)
