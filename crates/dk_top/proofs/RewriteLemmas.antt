-- What a rewriting writes to File and to Report.
use Rattle.std.proofs.Common.{◌≡◌, ◌⊎◌, inl, inr, ℕ, List, Option, None, Some, IfSome, Result, Ok, Err, OnErr, sym, ◌∙◌, ap, subst}
use Rattle.std.proofs.Math.Seq.{take-length}
use Rattle.dk_desk.specs.Outside.{Outside, Created}
use Rattle.dk_desk.specs.Calls.{IsIfTold, grown}
use Rattle.dk_words.specs.declared.command.Rewriting.{Rewriting}
use Rattle.dk_endings.specs.declared.ending.Ending.TheVariants as ending
use Rattle.dk_top.specs.Rewriting.{IsRewriteOf, AreRewriteLines, AreLinesOfStored, ReportsRewrite}
use Rattle.dk_top.specs.Reading.{EndsInLine}
use Rattle.dk_top.specs.Meaning.{Files, bytes_of}
use Rattle.dk_top.specs.Texts.{IsPrefix, ReportsFront}
use Rattle.dk_top.proofs.ReportLemmas.{whole, front}

-- a text that is whole is a prefix of itself
pub whole_prefix : (bytes : Option (List ℕ)) (text : List ℕ) → IfSome bytes (λ b. b ≡ text) → IfSome bytes (λ b. IsPrefix b text)
whole_prefix None text is = tt
whole_prefix (Some b) text is = rw is (take-length text)

-- the same of File after Report was written, whatever came of that
pub stays_prefix : {T E : Type 0} (r : Result T E) (A : Type 0) (text : List ℕ) (mid new : Outside) → new.file ≡ mid.file → IfSome mid.file.bytes (λ b. b ≡ text) → OnErr r (A → IfSome new.file.bytes (λ b. IsPrefix b text))
stays_prefix (Ok x) A text mid new same is = tt
stays_prefix (Err e) A text mid new same is = λ _. whole_prefix new.file.bytes text (subst (λ (f : Created). IfSome f.bytes (λ b. b ≡ text)) (sym same) is)

-- the lines of a text that File holds
lines_of_stored : (how : Rewriting) (source text lines : List ℕ) (stored : Option (List ℕ)) → IsRewriteOf how source text → AreRewriteLines how source text lines → IfSome stored (λ b. b ≡ text) → AreLinesOfStored how source stored lines
lines_of_stored how source text lines None is are same = record { text = text; is_rewrite = is; told = tt; are_lines = are }
lines_of_stored how source text lines (Some b) is are same = record {
  text = text;
  is_rewrite = is;
  told = let back : text ≡ b = cc in ap Some back;
  are_lines = are;
}

-- all of the lines are written
pub lines_whole : (told : Option Files) (how : Rewriting) (program text lines : List ℕ) (mid new : Outside) (old : Option (List ℕ)) → mid.report ≡ old → IfSome told (λ f. IsRewriteOf how (bytes_of f program) text) → IfSome told (λ f. AreRewriteLines how (bytes_of f program) text lines)
    → IfSome new.file.bytes (λ b. b ≡ text) → IsIfTold new.report (grown mid.report lines) → IfSome told (λ f. ReportsRewrite ending.Done how (bytes_of f program) new.file.bytes old new.report)
lines_whole None how program text lines mid new old before is are same written = tt
lines_whole (Some f) how program text lines mid new old before is are same written =
    whole (AreLinesOfStored how (bytes_of f program) new.file.bytes) lines old new.report (lines_of_stored how (bytes_of f program) text lines new.file.bytes is are same)
    (subst (λ r. IsIfTold new.report (grown r lines)) before written)

-- nothing of them, or a prefix
pub lines_front : (told : Option Files) (how : Rewriting) (program text lines : List ℕ) (mid new : Outside) (old : Option (List ℕ)) → mid.report ≡ old → IfSome told (λ f. IsRewriteOf how (bytes_of f program) text) → IfSome told (λ f. AreRewriteLines how (bytes_of f program) text lines)
    → (new.report ≡ mid.report) ⊎ EndsInLine text lines mid new → IfSome told (λ f. ReportsRewrite ending.WriteFault how (bytes_of f program) new.file.bytes old new.report)
lines_front None how program text lines mid new old before is are either = tt
lines_front (Some f) how program text lines mid new old before is are (inl same) = inl (same ∙ before)
lines_front (Some f) how program text lines mid new old before is are (inr ends) =
    inr (front (AreLinesOfStored how (bytes_of f program) new.file.bytes) lines old new.report (lines_of_stored how (bytes_of f program) text lines new.file.bytes is are ends.whole)
    (subst (λ r. ReportsFront lines r new.report) before ends.front))
