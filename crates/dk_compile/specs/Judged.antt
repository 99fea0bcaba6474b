-- What is judged of a text that is proposed, for the private functions.
use Rattle.std.specs.Prelude.{⊤, ℕ, ◌<◌, List}
use Rattle.dk_types.specs.Typed.{Typing, typing_of}
use Rattle.pointwise_ir.specs.Programs.{Program, bodies_of}
use Rattle.dk_inline.specs.Answers.{IsInlining}
use Rattle.body_levels.specs.Levels.{greatest_level}
use Rattle.same_pictures.specs.Same.{HaveSamePictures}
use Rattle.dk_compile.specs.declared.compiling.PlannedProgram.{PlannedProgram}
use Rattle.dk_compile.specs.declared.cutting.Judgement.{Judgement}
use Rattle.dk_compile.specs.declared.cutting.Judgement.TheVariants.{Same}
use Rattle.dk_compile.specs.declared.cutting.Outcome.{Outcome}
use Rattle.dk_compile.specs.declared.cutting.Outcome.TheVariants.{Cut, Whole}
use Rattle.dk_compile.specs.Sources.{IsAccepted}
use Rattle.dk_compile.specs.Fronts.{IsForm}
use Rattle.dk_compile.specs.Cuts.{IsInlinedText, IsCutOf}

-- the text is accepted as this program, which has this form
pub record HasForm (text : List ℕ) (p : Typing) (ir : Program) : Type 0 where
  pub accepted : IsAccepted text p
  pub form : IsForm p ir

-- the text is accepted as a program p, and a form of p shows the pictures of this one
pub record ShowsFormOf (old : Program) (text : List ℕ) (p : Typing) : Type 0 where
  pub new : Program
  pub has : HasForm text p new
  pub same : HaveSamePictures old new

-- what is found of a text beside the form of a source
abbrev pub IsJudged : (old : Program) → (text : List ℕ) → Judgement → Type 0
IsJudged old text (Same program) = ShowsFormOf old text (typing_of program)
IsJudged old text _ = ⊤

-- The source has this program and form, and with its inline images substituted this one, which has more levels than asked.
pub record IsDeepSource (source : List ℕ) (old : PlannedProgram) (inlined : Program) (levels : ℕ) : Type 0 where
  pub has : HasForm source (typing_of old.program) old.ir
  pub inlining : IsInlining (typing_of old.program) inlined
  pub deep : levels < greatest_level (bodies_of inlined)

-- a text that the source is cut to, with the program that it has with its inline images substituted
abbrev pub IsOutcome : (source : List ℕ) → (levels : ℕ) → Outcome → Type 0
IsOutcome source levels (Cut chosen) = IsCutOf source levels chosen.text.items × IsInlinedText chosen.text.items chosen.form
IsOutcome source levels Whole = ⊤
