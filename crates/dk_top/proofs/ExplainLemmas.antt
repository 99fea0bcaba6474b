-- How `explain` ends, and what it writes.
use Rattle.std.proofs.Common.{◌≡◌, ℕ, suc, ◌<◌, List, [], ◌∷◌, ◌++◌, length, map, take, Option, None, Some, IfSome, Result, Ok, Err, IfOk, refl, sym, ap, ◌∙◌, subst}
use Rattle.std.specs.Prelude.{count_by}
use Rattle.dk_base.specs.declared.TheConstants.{MAX_SOURCE_BYTES}
use Rattle.source_fault.specs.declared.fault.SourceFault.{SourceFault}
use Rattle.source_fault.specs.declared.fault.SourceFault.TheVariants as source
use Rattle.dk_compile.specs.Limits.{IsFaultAt}
use Rattle.dk_endings.specs.declared.ending.Ending.{Ending}
use Rattle.dk_endings.specs.declared.ending.Ending.TheVariants as ending
use Rattle.dk_desk.specs.Calls.{IsIfTold, grown}
use Rattle.dk_types.specs.declared.fault.TypeFault.{TypeFault}
use Rattle.source_places.specs.Places.{is_line_end, begins_character, last_line, line_of, column_of}
use Rattle.source_fault.specs.Faults.{word_of}
use Rattle.fault_messages.specs.Explanations.{head, IsMessage, AreMessages, IsExplanation}
use Rattle.dk_top.specs.declared.commands.explaining.Judged.{Judged}
use Rattle.dk_top.specs.declared.commands.explaining.Judged.TheVariants.{Accepted, Refused}
use Rattle.dk_top.specs.declared.commands.explaining.Refusal.{Refusal}
use Rattle.dk_top.specs.Verdict.{IsJudged}
use Rattle.dk_top.specs.Explaining.{ExplainsFault, IsExplainAnswer}
use Rattle.dk_top.specs.Refusals.{IsJudgedAs, IsRefusedFor}
use Rattle.dk_top.specs.Meaning.{Files, bytes_of}
use Rattle.dk_top.specs.Program.{IsProgramAnswer}
use Rattle.dk_top.specs.Texts.{GainsText, ReportsFront}
use Rattle.dk_top.proofs.VerdictLemmas.{ApartAt, OneFaultAt}
use Rattle.dk_top.proofs.PlanLemmas.{program_answer}
use Rattle.dk_top.proofs.ReportLemmas.{front, whole}

-- but for a failed write, the answers of `explain` are those of a program
explained_answer : (text : List ℕ) (e : Ending) → (e ≡ ending.WriteFault → ⊥) → IsExplainAnswer text e → IsProgramAnswer 0 text e
explained_answer text ending.Done other h = h
explained_answer text ending.WriteFault other h = absurd (other refl)
explained_answer text (ending.Source x) other h = h
explained_answer text (ending.Image x) other h = h
explained_answer text (ending.Verilog x) other h = h
explained_answer text (ending.Stopped x) other h = h
explained_answer text (ending.Rejected x) other h = h
explained_answer text (ending.Unable x) other h = h
explained_answer text ending.Usage other h = h
explained_answer text ending.ReadFault other h = h
explained_answer text ending.Memory other h = h

-- a text decides one ending
pub explain_answer : ApartAt → OneFaultAt → (text : List ℕ) (a b : Ending) → IsJudged a → IsJudged b → IsExplainAnswer text a → IsExplainAnswer text b → a ≡ b
explain_answer apart one text a b j k x y =
    program_answer apart one 0 text a b j k (explained_answer text a (λ is. subst IsJudged is j) x) (explained_answer text b (λ is. subst IsJudged is k) y)

-- where a write failed, Report gains a prefix of the explanation
pub explained_front : (told : Option Files) (name : List ℕ) (r : Refusal) (old new : Option (List ℕ)) → IfSome told (λ f. IsJudgedAs name (bytes_of f name) (Refused r)) → ReportsFront r.text.items old new
    → IfSome told (λ f. GainsText (ExplainsFault name (bytes_of f name)) old new ending.WriteFault)
explained_front None name r old new h written = tt
explained_front (Some f) name r old new h written =
    front (ExplainsFault name (bytes_of f name)) r.text.items old new (record { fault = r.fault; first = h.0; explained = h.1 }) written

-- otherwise all of it
pub explained_whole : (told : Option Files) (name : List ℕ) (r : Refusal) (old new : Option (List ℕ)) → IfSome told (λ f. IsJudgedAs name (bytes_of f name) (Refused r)) → IsIfTold new (grown old r.text.items)
    → IfSome told (λ f. GainsText (IsExplanation name (bytes_of f name) r.fault) old new ending.Done)
explained_whole None name r old new h written = tt
explained_whole (Some f) name r old new h written = whole (IsExplanation name (bytes_of f name) r.fault) r.text.items old new h.1 written

-- the program has a fault
pub explained_faulty : (told : Option Files) (name : List ℕ) (r : Refusal) → IfSome told (λ f. IsJudgedAs name (bytes_of f name) (Refused r)) → IfSome told (λ f. IsExplainAnswer (bytes_of f name) ending.WriteFault)
explained_faulty None name r h = tt
explained_faulty (Some f) name r h = (r.fault, h.0)

-- the explanation of a fault of the text
pub refused_judged : (name text : List ℕ) (fault : SourceFault) (j : Judged) → IsFaultAt text 0 fault → IsRefusedFor name text fault j → IsJudgedAs name text j
refused_judged name text fault Accepted is h = absurd h
refused_judged name text fault (Refused r) is h =
    (subst (λ (x : SourceFault). IsFaultAt text 0 x) (sym h.0) is, subst (λ (x : SourceFault). IsExplanation name text x r.text.items) (sym h.0) h.1)

-- No text is needed to explain that it is too long: the place is that of its first byte.
before_first : (text : List ℕ) → take 0 text ≡ []
before_first [] = refl
before_first (b ∷ bs) = refl

module _ (name text : List ℕ) where
  first_line : line_of [] 0 ≡ line_of text 0
  first_line = ap (λ (t : List ℕ). suc (count_by is_line_end t)) (before_first [] ∙ sym (before_first text))

  first_column : column_of [] 0 ≡ column_of text 0
  first_column = ap (λ (t : List ℕ). suc (count_by begins_character (last_line t))) (before_first [] ∙ sym (before_first text))

  long_message : (bytes : List ℕ) → IsMessage name [] source.TooLong bytes → IsMessage name text source.TooLong bytes
  long_message bytes (detail, is, e) = (
    detail,
    is,
    subst (λ c. bytes ≡ head name (line_of text 0) c (word_of source.TooLong) ++ detail) first_column
        (subst (λ l. bytes ≡ head name l (column_of [] 0) (word_of source.TooLong) ++ detail) first_line e),
  )

  long_messages : (others : List TypeFault) (bytes : List ℕ) → others ≡ [] → AreMessages name [] (source.TooLong ∷ map source.Types others) bytes → AreMessages name text (source.TooLong ∷ map source.Types others) bytes
  long_messages [] bytes none (message, rest, is, last, e) = (message, rest, long_message message is, last, e)
  long_messages (x ∷ xs) bytes none h = absurd (cc)

  long_explained : (bytes : List ℕ) → IsExplanation name [] source.TooLong bytes → IsExplanation name text source.TooLong bytes
  long_explained bytes e = record { others = e.others; few = e.few; messages = long_messages e.others bytes e.few e.messages }

pub long_judged : (told : Option Files) (name : List ℕ) (r : Result Judged Ending) → IfSome told (λ f. MAX_SOURCE_BYTES < length (bytes_of f name)) → IfOk r (IsRefusedFor name [] source.TooLong) → IfOk r (λ j. IfSome told (λ f. IsJudgedAs name (bytes_of f name) j))
long_judged told name (Err e) over h = tt
long_judged None name (Ok j) over h = tt
long_judged (Some f) name (Ok Accepted) over h = absurd h
long_judged (Some f) name (Ok (Refused r)) over h =
    refused_judged name (bytes_of f name) source.TooLong (Refused r) over (h.0, long_explained name (bytes_of f name) r.text.items h.1)
