-- What a program is rewritten to, and the lines that report it.
use Rattle.std.specs.Prelude.{◌≡◌, ◌⊎◌, ℕ, List, Option, Some}
use Rattle.dk_desk.specs.Calls.{IsIfTold}
use Rattle.dk_words.specs.declared.command.Rewriting.{Rewriting}
use Rattle.dk_words.specs.declared.command.Rewriting.TheVariants.{Cut, Narrow, Widen}
use Rattle.dk_compile.specs.Cuts.{IsCutOf}
use Rattle.dk_compile.specs.Narrowed.{IsNarrowed}
use Rattle.dk_compile.specs.Widened.{IsWidened, IsAble, IsWidenFault}
use Rattle.dk_compile.specs.Reported.{AreCutLines, AreNarrowLines, IsWidenLine}
use Rattle.dk_types.specs.Typed.{Typing}
use Rattle.source_fault.specs.declared.widen.WidenFault.{WidenFault}
use Rattle.dk_compile.specs.Limits.{IsAcceptedAt, IsFaultAt}
use Rattle.dk_endings.specs.declared.ending.Ending.{Ending}
use Rattle.dk_endings.specs.declared.ending.Ending.TheVariants as ending
use Rattle.dk_top.specs.Program.{CanBeCompiled}
use Rattle.dk_top.specs.Meaning.{bytes_of, Answers, faultless, IsAnswered, reports_rewriting, Meaning, of_text}
use Rattle.dk_top.specs.Texts.{HoldsText, GainsText}

-- the text is what the source is rewritten to
abbrev pub IsRewriteOf : Rewriting → (source text : List ℕ) → Type 0
IsRewriteOf (Cut levels) source text = IsCutOf source levels text
IsRewriteOf Narrow source text = IsNarrowed source text
IsRewriteOf (Widen phases) source text = IsWidened source phases text

-- the lines report the text that the source was rewritten to
abbrev pub AreRewriteLines : Rewriting → (source text lines : List ℕ) → Type 0
AreRewriteLines (Cut levels) source text lines = AreCutLines text levels lines
AreRewriteLines Narrow source text lines = AreNarrowLines source text lines
AreRewriteLines (Widen phases) source text lines = IsWidenLine source text lines

-- The lines are those of a text that the source was rewritten to. If the desk specifies File, it is the text that File holds.
pub record AreLinesOfStored (how : Rewriting) (source : List ℕ) (stored : Option (List ℕ)) (lines : List ℕ) : Type 0 where
  pub text : List ℕ
  pub is_rewrite : IsRewriteOf how source text
  pub told : IsIfTold stored (Some text)
  pub are_lines : AreRewriteLines how source text lines

-- the text is accepted, and its program has room for its phases
abbrev pub CanBeWidened : (phases : ℕ) → (source : List ℕ) → Type 0
CanBeWidened phases source = (p : Typing) × IsAcceptedAt source 0 p × IsAble phases p

-- the text is accepted, and this is why its program gets no phases
pub record IsUnable (phases : ℕ) (source : List ℕ) (fault : WidenFault) : Type 0 where
  pub program : Typing
  pub accepted : IsAcceptedAt source 0 program
  pub fault_is : IsWidenFault phases program fault

-- a program that can be rewritten
abbrev pub CanBeRewritten : Rewriting → (source : List ℕ) → Type 0
CanBeRewritten (Widen phases) source = CanBeWidened phases source
CanBeRewritten _ source = CanBeCompiled source 0

-- why a program is not rewritten: only `widen` refuses one
abbrev pub IsUnableTo : Rewriting → (source : List ℕ) → WidenFault → Type 0
IsUnableTo (Widen phases) source fault = IsUnable phases source fault
IsUnableTo _ source fault = ⊥

-- when each ending comes for a program that is rewritten
abbrev pub rewrite_answers : Rewriting → (source : List ℕ) → Answers
rewrite_answers how source = record (faultless (CanBeRewritten how source)) { source = IsFaultAt source 0; unable = IsUnableTo how source }

abbrev pub IsRewriteAnswer : Rewriting → (source : List ℕ) → Ending → Type 0
IsRewriteAnswer how source result = IsAnswered (rewrite_answers how source) result

-- What Report gains after a rewriting: the lines of the text that File holds, and nothing if File was not written whole.
abbrev pub ReportsRewrite : Ending → Rewriting → (source : List ℕ) → (stored : Option (List ℕ)) → (old new : Option (List ℕ)) → Type 0
ReportsRewrite ending.Done how source stored old new = GainsText (AreLinesOfStored how source stored) old new ending.Done
ReportsRewrite ending.WriteFault how source stored old new = (new ≡ old) ⊎ GainsText (AreLinesOfStored how source stored) old new ending.WriteFault
ReportsRewrite _ how source stored old new = new ≡ old

-- what `cut`, `narrow` and `widen` mean
abbrev pub rewrite_meaning : Rewriting → (program out : List ℕ) → Meaning
rewrite_meaning how program out = record (of_text program (rewrite_answers how)) {
  out = Some out;
  stored = λ result files left bytes. HoldsText (IsRewriteOf how (bytes_of files program)) result bytes;
  reports = reports_rewriting how program;
}
