-- How a rewriting ends: a program's text decides one ending.
use Rattle.std.proofs.Common.{◌≡◌, ◌≢◌, ℕ, List, Option, None, Some, IfSome, refl, ap, subst}
use Rattle.dk_types.specs.Typed.{Typing}
use Rattle.source_fault.specs.declared.widen.WidenFault.{WidenFault}
use Rattle.source_fault.specs.declared.widen.WidenFault.TheVariants as fault
use Rattle.dk_endings.specs.declared.ending.Ending.{Ending}
use Rattle.dk_endings.specs.declared.ending.Ending.TheVariants as ending
use Rattle.dk_words.specs.declared.command.Rewriting.{Rewriting}
use Rattle.dk_words.specs.declared.command.Rewriting.TheVariants.{Cut, Narrow, Widen}
use Rattle.dk_compile.specs.Limits.{IsFaultAt}
use Rattle.dk_compile.specs.Widened.{IsWidenFault}
use Rattle.dk_compile.proofs.Widened.{one_reason}
use Rattle.dk_top.specs.Verdict.{IsJudged}
use Rattle.dk_top.specs.Reading.{IsSourceEnding, IsRewriteEnding}
use Rattle.dk_top.specs.Meaning.{Files, bytes_of}
use Rattle.dk_top.specs.Program.{IsProgramAnswer}
use Rattle.dk_top.specs.Rewriting.{IsRewriteAnswer, CanBeRewritten, CanBeWidened, IsUnable}
use Rattle.dk_top.proofs.VerdictLemmas.{OneProgram, ApartAt, OneFaultAt}
use Rattle.dk_top.proofs.PlanLemmas.{program_answer}

-- no reason is judged that is the last one
not_limits : (f : WidenFault) → IsJudged (ending.Unable f) → f ≢ fault.Limits
not_limits f judged is = subst (λ (g : WidenFault). IsJudged (ending.Unable g)) is judged

module _ (one_program : OneProgram) (apart_at : ApartAt) (one_fault_at : OneFaultAt) where
  -- a text has one reason
  once : (phases : ℕ) (text : List ℕ) (f g : WidenFault) → IsUnable phases text f → IsUnable phases text g → f ≡ g
  once phases text f g x y =
      let same : y.program ≡ x.program = one_program text y.program x.program y.accepted.accepted.program x.accepted.accepted.program in
      one_reason phases x.program f g x.fault_is (subst (λ (p : Typing). IsWidenFault phases p g) same y.fault_is)

  limits_of : (phases : ℕ) (text : List ℕ) → CanBeWidened phases text → IsUnable phases text fault.Limits
  limits_of phases text (p, accepted, able) = record { program = p; accepted = accepted; fault_is = able }

  -- what has room is not refused, and what is refused is accepted
  apart : (phases : ℕ) (text : List ℕ) (f : WidenFault) → IsJudged (ending.Unable f) → CanBeWidened phases text → IsUnable phases text f → ⊥
  apart phases text f judged can unable = not_limits f judged (once phases text f fault.Limits unable (limits_of phases text can))

  widen_answer : (phases : ℕ) (text : List ℕ) (a b : Ending) → IsJudged a → IsJudged b → IsRewriteAnswer (Widen phases) text a → IsRewriteAnswer (Widen phases) text b → a ≡ b
  widen_answer phases text ending.Done ending.Done _ _ x y = refl
  widen_answer phases text ending.Done (ending.Source f) _ _ x y = absurd (apart_at text 0 f (x.0, x.1) y)
  widen_answer phases text ending.Done (ending.Unable f) _ k x y = absurd (apart phases text f k x y)
  widen_answer phases text (ending.Source f) ending.Done _ _ x y = absurd (apart_at text 0 f (y.0, y.1) x)
  widen_answer phases text (ending.Source f) (ending.Source g) _ _ x y = ap ending.Source (one_fault_at text 0 f g x y)
  widen_answer phases text (ending.Source f) (ending.Unable g) _ _ x y = absurd (apart_at text 0 f (y.program, y.accepted) x)
  widen_answer phases text (ending.Unable f) ending.Done j _ x y = absurd (apart phases text f j y x)
  widen_answer phases text (ending.Unable f) (ending.Source g) _ _ x y = absurd (apart_at text 0 g (x.program, x.accepted) y)
  widen_answer phases text (ending.Unable f) (ending.Unable g) _ _ x y = ap ending.Unable (once phases text f g x y)
  widen_answer phases text (ending.Image f) b _ _ x y = absurd x
  widen_answer phases text (ending.Verilog f) b _ _ x y = absurd x
  widen_answer phases text (ending.Stopped f) b _ _ x y = absurd x
  widen_answer phases text (ending.Rejected f) b _ _ x y = absurd x
  widen_answer phases text ending.Usage b j _ x y = absurd j
  widen_answer phases text ending.ReadFault b j _ x y = absurd j
  widen_answer phases text ending.WriteFault b j _ x y = absurd j
  widen_answer phases text ending.Memory b j _ x y = absurd j
  widen_answer phases text _ (ending.Image f) _ _ x y = absurd y
  widen_answer phases text _ (ending.Verilog f) _ _ x y = absurd y
  widen_answer phases text _ (ending.Stopped f) _ _ x y = absurd y
  widen_answer phases text _ (ending.Rejected f) _ _ x y = absurd y
  widen_answer phases text _ ending.Usage _ j x y = absurd j
  widen_answer phases text _ ending.ReadFault _ j x y = absurd j
  widen_answer phases text _ ending.WriteFault _ j x y = absurd j
  widen_answer phases text _ ending.Memory _ j x y = absurd j

  pub rewrite_answer : (how : Rewriting) (text : List ℕ) (a b : Ending) → IsJudged a → IsJudged b → IsRewriteAnswer how text a → IsRewriteAnswer how text b → a ≡ b
  rewrite_answer (Cut levels) text a b j k x y = program_answer apart_at one_fault_at 0 text a b j k x y
  rewrite_answer Narrow text a b j k x y = program_answer apart_at one_fault_at 0 text a b j k x y
  rewrite_answer (Widen phases) text a b j k x y = widen_answer phases text a b j k x y

-- what can be rewritten is done
pub rewritten_done : (how : Rewriting) (text : List ℕ) → CanBeRewritten how text → IsRewriteAnswer how text ending.Done
rewritten_done (Cut levels) text can = can
rewritten_done Narrow text can = can
rewritten_done (Widen phases) text can = can

-- the answer of a program that is refused
refused_answer : (text : List ℕ) (e : Ending) → IsSourceEnding (IsFaultAt text 0) e → IsProgramAnswer 0 text e
refused_answer text (ending.Source f) h = h
refused_answer text ending.ReadFault h = tt
refused_answer text ending.Memory h = tt
refused_answer text ending.Done h = absurd h
refused_answer text ending.Usage h = absurd h
refused_answer text ending.WriteFault h = absurd h
refused_answer text (ending.Image f) h = absurd h
refused_answer text (ending.Verilog f) h = absurd h
refused_answer text (ending.Stopped f) h = absurd h
refused_answer text (ending.Rejected f) h = absurd h
refused_answer text (ending.Unable f) h = absurd h

ended_answer : (how : Rewriting) (text : List ℕ) (e : Ending) → IsRewriteEnding how text e → IsRewriteAnswer how text e
ended_answer (Cut levels) text e h = refused_answer text e h
ended_answer Narrow text e h = refused_answer text e h
ended_answer (Widen phases) text (ending.Unable f) h = h
ended_answer (Widen phases) text (ending.Source f) h = h
ended_answer (Widen phases) text ending.ReadFault h = tt
ended_answer (Widen phases) text ending.Memory h = tt
ended_answer (Widen phases) text ending.Done h = absurd h
ended_answer (Widen phases) text ending.Usage h = absurd h
ended_answer (Widen phases) text ending.WriteFault h = absurd h
ended_answer (Widen phases) text (ending.Image f) h = absurd h
ended_answer (Widen phases) text (ending.Verilog f) h = absurd h
ended_answer (Widen phases) text (ending.Stopped f) h = absurd h
ended_answer (Widen phases) text (ending.Rejected f) h = absurd h

pub ended_told : (told : Option Files) (how : Rewriting) (name : List ℕ) (e : Ending) → IfSome told (λ f. IsRewriteEnding how (bytes_of f name) e) → IfSome told (λ f. IsRewriteAnswer how (bytes_of f name) e)
ended_told None how name e h = tt
ended_told (Some f) how name e h = ended_answer how (bytes_of f name) e h

-- the same after a write that failed
rewritten_write : (how : Rewriting) (text : List ℕ) → CanBeRewritten how text → IsRewriteAnswer how text ending.WriteFault
rewritten_write (Cut levels) text can = can
rewritten_write Narrow text can = can
rewritten_write (Widen phases) text can = can

pub done_told : (told : Option Files) (how : Rewriting) (name : List ℕ) → IfSome told (λ f. CanBeRewritten how (bytes_of f name)) → IfSome told (λ f. IsRewriteAnswer how (bytes_of f name) ending.Done)
done_told None how name can = tt
done_told (Some f) how name can = rewritten_done how (bytes_of f name) can

pub write_told : (told : Option Files) (how : Rewriting) (name : List ℕ) → IfSome told (λ f. CanBeRewritten how (bytes_of f name)) → IfSome told (λ f. IsRewriteAnswer how (bytes_of f name) ending.WriteFault)
write_told None how name can = tt
write_told (Some f) how name can = rewritten_write how (bytes_of f name) can
