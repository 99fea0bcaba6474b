-- What the commands write and note.
use Rattle.std.proofs.Common.{◌≡◌, ◌≢◌, ◌⊎◌, inl, inr, ℕ, Bool, true, false, List, Option, None, Some, IfSome, refl, sym, ◌∙◌, subst}
use Rattle.std.specs.List.{flat_map}
use Rattle.dk_desk.specs.declared.Stage.TheVariants.{Unasked}
use Rattle.dk_desk.specs.Outside.{Input, Outside}
use Rattle.pointwise_ir.specs.Programs.{Program, IsProgram}
use Rattle.pointwise_ir.specs.Programs as P
use Rattle.pointwise_ir.specs.Meaning.{pictures}
use Rattle.pointwise_eval.specs.Rounds.{round_of}
use Rattle.pgm_codec.specs.Images.{file_of}
use Rattle.pgm_rounds.specs.declared.round.Round.{Round}
use Rattle.program_images.specs.Outputs.{output_images}
use Rattle.dk_endings.specs.declared.ending.Ending.{Ending}
use Rattle.dk_endings.specs.declared.ending.Ending.TheVariants as ending
use Rattle.dk_desk.specs.declared.Stage.{Stage}
use Rattle.dk_top.specs.Reading.{AreRead, IsRead}
use Rattle.dk_top.specs.Meaning.{Files, bytes_of, Notes, SecondFile, no_second, a_second, Creation, created_last, created_streaming, created_before_run, Reporting, silent, reports_text, reports_rewriting, reports_fault, Noting, no_clock, noted_at_done}
use Rattle.dk_top.specs.Output.{Terms, eval_terms, OfPair, output_file}
use Rattle.dk_top.specs.Command.{Command, meaning_of}
use Rattle.dk_top.specs.Verdict.{OnNamed, OnFiles, IsVerdict}
use Rattle.dk_top.specs.State.{AsksSecond, AsksInOrder, CreatesWhere, CreatesBy, ReadsWhere, ReadsBy, NotesWhere, IsNoted, ReportsWhere, IsReported, LeavesFiles, LeavesNamed, TakesNoMore}
use Rattle.dk_top.proofs.OutputLemmas.{evaluated_is}

-- what is evaluated is the output file
pub evaluated_pair : (ir : Program) (rounds : List Round) (output : List ℕ) → IsProgram ir → AreRead ir rounds
    → output ≡ flat_map (λ (r : Round). file_of (output_images ir.size (P.types_of ir) ir.outputs (pictures ir (round_of ir.size r.frames.items)))) rounds
    → (source file : List ℕ) → IsRead eval_terms source file ir rounds → OfPair eval_terms source file (λ p images. output ≡ output_file p images)
evaluated_pair ir rounds output program all is source file read = λ p images accepted fits.
    let form = read.formed p accepted in
    is ∙ evaluated_is source p ir accepted.accepted.program form program rounds images (read.input.frames p form images fits) all.each

-- what is written is the output file, or has the same relation to it as to what was made
pub stored_told : (told : Option Files) (terms : Terms) (program image : List ℕ) (bytes : Option (List ℕ)) (output : List ℕ) (R : List ℕ → List ℕ → Type 0) → IfSome told (λ f. OfPair terms (bytes_of f program) (bytes_of f image) (λ p images. output ≡ output_file p images))
    → IfSome bytes (λ written. R written output) → IfSome told (λ f. IfSome bytes (λ written. OfPair terms (bytes_of f program) (bytes_of f image) (λ p images. R written (output_file p images))))
stored_told None terms program image bytes output R made written = tt
stored_told (Some f) terms program image None output R made written = tt
stored_told (Some f) terms program image (Some b) output R made written = λ p images accepted fits. subst (R b) (made p images accepted fits) written

-- what is made of the files that were read, as far as the desk specifies them
pub read_pair : (told : Option Files) (program image : List ℕ) (ir : Program) (rounds : List Round) (Q : List ℕ → List ℕ → Type 0) → IfSome told (λ f. IsRead eval_terms (bytes_of f program) (bytes_of f image) ir rounds)
    → ((source file : List ℕ) → IsRead eval_terms source file ir rounds → Q source file) → IfSome told (λ f. Q (bytes_of f program) (bytes_of f image))
read_pair None program image ir rounds Q read made = tt
read_pair (Some f) program image ir rounds Q read made = made (bytes_of f program) (bytes_of f image) read

-- a line to Fault leaves what was requested
asked_stays : (second : SecondFile) (f : Files) (mid new : Outside) → new.image ≡ mid.image → AsksSecond second f mid → AsksSecond second f new
asked_stays no_second f mid new same h = tt
asked_stays (a_second n ready limited) f mid new same h = λ asked. h (subst (λ (i : Input). i.stage ≢ Unasked) same asked)

-- what holds of all files holds on every desk
named_all : (name : Option (List ℕ)) (told : Option Files) (P : Files → Type 0) → ((f : Files) → P f) → OnNamed name told P
named_all None told P h = h
named_all (Some n) None P h = tt
named_all (Some n) (Some f) P h = h f

pub on_all : (c : Command) (told : Option Files) (P : Files → Type 0) → ((f : Files) → P f) → OnFiles c told P
on_all c told P h = named_all (meaning_of c).program told P h

-- what follows from it follows on every desk
named_each : (name : Option (List ℕ)) (told : Option Files) (P Q : Files → Type 0) → ((f : Files) → P f → Q f) → OnNamed name told P → OnNamed name told Q
named_each None told P Q g h = λ f. g f (h f)
named_each (Some n) None P Q g h = tt
named_each (Some n) (Some f) P Q g h = g f h

pub on_each : (c : Command) (told : Option Files) (P Q : Files → Type 0) → ((f : Files) → P f → Q f) → OnFiles c told P → OnFiles c told Q
on_each c told P Q g h = named_each (meaning_of c).program told P Q g h

pub order_stays : (command : Option Command) (files : Option Files) (mid new : Outside) → new.image ≡ mid.image → IfSome command (λ c. OnFiles c files (λ f. AsksInOrder c f mid)) → IfSome command (λ c. OnFiles c files (λ f. AsksInOrder c f new))
order_stays None files mid new same h = tt
order_stays (Some c) files mid new same h = on_each c files (λ f. AsksInOrder c f mid) (λ f. AsksInOrder c f new) (λ f. asked_stays (meaning_of c).second f mid new same) h

-- what holds if the words are refused, or if out of memory
pub words_verdict : (command : Option Command) (files : Option Files) (e : Ending) → (e ≡ ending.Usage → command ≡ None) → (e ≡ ending.Usage) ⊎ (e ≡ ending.Memory) → IfSome command (λ c. OnFiles c files (λ f. IsVerdict c f e))
words_verdict None files e usage either = tt
words_verdict (Some c) files e usage (inl is) = absurd (let n : Some c ≡ None = usage is in let x : ⊥ = cc in x)
words_verdict (Some c) files e usage (inr is) = on_all c files (λ f. IsVerdict c f e) (λ f. subst (λ x. IsVerdict c f x) (sym is) tt)

unasked_order : (second : SecondFile) (f : Files) (o : Outside) → o.image.stage ≡ Unasked → AsksSecond second f o
unasked_order no_second f o fresh = tt
unasked_order (a_second n ready limited) f o fresh = λ asked. absurd (asked fresh)

pub words_order : (command : Option Command) (files : Option Files) (o : Outside) → o.image.stage ≡ Unasked → IfSome command (λ c. OnFiles c files (λ f. AsksInOrder c f o))
words_order None files o fresh = tt
words_order (Some c) files o fresh = on_all c files (λ f. AsksInOrder c f o) (λ f. unasked_order (meaning_of c).second f o fresh)

-- what holds of both endings holds of an ending that is one of them
either_of : (P : Ending → Type 0) → P ending.Usage → P ending.Memory → (e : Ending) → (e ≡ ending.Usage) ⊎ (e ≡ ending.Memory) → P e
either_of P usage memory e (inl is) = subst P (sym is) usage
either_of P usage memory e (inr is) = subst P (sym is) memory

-- of a command that does nothing this holds, if it holds of what the command means
words_of : (command : Option Command) (files : Option Files) (P : Command → Files → Ending → Type 0) → ((c : Command) (f : Files) → P c f ending.Usage) → ((c : Command) (f : Files) → P c f ending.Memory)
    → (e : Ending) → (e ≡ ending.Usage) ⊎ (e ≡ ending.Memory) → IfSome command (λ c. OnFiles c files (λ f. P c f e))
words_of None files P usage memory e either = tt
words_of (Some c) files P usage memory e either = on_all c files (λ f. P c f e) (λ f. either_of (P c f) (usage c f) (memory c f) e either)

usage_report : (r : Reporting) (f : Files) (stored t : Option (List ℕ)) → ReportsWhere r ending.Usage f stored t t
usage_report silent f stored t = refl
usage_report (reports_text is) f stored t = refl
usage_report (reports_rewriting how p) f stored t = refl
usage_report (reports_fault p) f stored t = refl

memory_report : (r : Reporting) (f : Files) (stored t : Option (List ℕ)) → ReportsWhere r ending.Memory f stored t t
memory_report silent f stored t = refl
memory_report (reports_text is) f stored t = refl
memory_report (reports_rewriting how p) f stored t = refl
memory_report (reports_fault p) f stored t = refl

pub words_report : (command : Option Command) (files : Option Files) (e : Ending) (stored t : Option (List ℕ)) → (e ≡ ending.Usage) ⊎ (e ≡ ending.Memory) → IfSome command (λ c. OnFiles c files (λ f. IsReported e c f stored t t))
words_report command files e stored t either = words_of command files (λ c f x. IsReported x c f stored t t) (λ c f. usage_report (meaning_of c).reports f stored t) (λ c f. memory_report (meaning_of c).reports f stored t) e either

usage_notes : (noting : Noting) (f : Files) (n : Notes) → NotesWhere noting ending.Usage f n n
usage_notes no_clock f n = refl
usage_notes (noted_at_done noted) f n = tt

memory_notes : (noting : Noting) (f : Files) (n : Notes) → NotesWhere noting ending.Memory f n n
memory_notes no_clock f n = refl
memory_notes (noted_at_done noted) f n = tt

pub words_notes : (command : Option Command) (files : Option Files) (e : Ending) (n : Notes) → (e ≡ ending.Usage) ⊎ (e ≡ ending.Memory) → IfSome command (λ c. OnFiles c files (λ f. IsNoted c e f n n))
words_notes command files e n either = words_of command files (λ c f x. IsNoted c x f n n) (λ c f. usage_notes (meaning_of c).notes f n) (λ c f. memory_notes (meaning_of c).notes f n) e either

usage_begun : (creation : Creation) (f : Files) (s : Stage) → CreatesWhere creation ending.Usage f s
usage_begun created_last f s = tt
usage_begun (created_streaming age p i) f s = tt
usage_begun created_before_run f s = tt

memory_begun : (creation : Creation) (f : Files) (s : Stage) → CreatesWhere creation ending.Memory f s
memory_begun created_last f s = tt
memory_begun (created_streaming age p i) f s = tt
memory_begun created_before_run f s = tt

pub words_begun : (command : Option Command) (files : Option Files) (e : Ending) (s : Stage) → (e ≡ ending.Usage) ⊎ (e ≡ ending.Memory) → IfSome command (λ c. OnFiles c files (λ f. CreatesBy c e f s))
words_begun command files e s either = words_of command files (λ c f x. CreatesBy c x f s) (λ c f. usage_begun (meaning_of c).creation f s) (λ c f. memory_begun (meaning_of c).creation f s) e either

usage_reads : (creation : Creation) (f : Files) (i : Input) (s : Stage) → ReadsWhere creation ending.Usage f i s
usage_reads created_last f i s = tt
usage_reads (created_streaming age p n) f i s = tt
usage_reads created_before_run f i s = tt

memory_reads : (creation : Creation) (f : Files) (i : Input) (s : Stage) → ReadsWhere creation ending.Memory f i s
memory_reads created_last f i s = tt
memory_reads (created_streaming age p n) f i s = tt
memory_reads created_before_run f i s = tt

pub words_reads : (command : Option Command) (files : Option Files) (e : Ending) (i : Input) (s : Stage) → (e ≡ ending.Usage) ⊎ (e ≡ ending.Memory) → IfSome command (λ c. OnFiles c files (λ f. ReadsBy c e f i s))
words_reads command files e i s either = words_of command files (λ c f x. ReadsBy c x f i s) (λ c f. usage_reads (meaning_of c).creation f i s) (λ c f. memory_reads (meaning_of c).creation f i s) e either

-- a file that is not too long
usage_both : (limited : Bool) (f : Files) (t n : List ℕ) (i j : Input) → LeavesFiles limited ending.Usage f t n i j
usage_both true f t n i j = (tt, tt)
usage_both false f t n i j = tt

memory_both : (limited : Bool) (f : Files) (t n : List ℕ) (i j : Input) → LeavesFiles limited ending.Memory f t n i j
memory_both true f t n i j = (tt, tt)
memory_both false f t n i j = tt

usage_left : (name : Option (List ℕ)) (second : SecondFile) (f : Files) (i j : Input) → LeavesNamed name second ending.Usage f i j
usage_left None _ f i j = tt
usage_left (Some n) no_second f i j = tt
usage_left (Some n) (a_second m ready limited) f i j = usage_both limited f n m i j

memory_left : (name : Option (List ℕ)) (second : SecondFile) (f : Files) (i j : Input) → LeavesNamed name second ending.Memory f i j
memory_left None _ f i j = tt
memory_left (Some n) no_second f i j = tt
memory_left (Some n) (a_second m ready limited) f i j = memory_both limited f n m i j

pub words_left : (command : Option Command) (files : Option Files) (e : Ending) (i j : Input) → (e ≡ ending.Usage) ⊎ (e ≡ ending.Memory) → IfSome command (λ c. OnFiles c files (λ f. TakesNoMore c e f i j))
words_left command files e i j either = words_of command files (λ c f x. TakesNoMore c x f i j) (λ c f. usage_left (meaning_of c).program (meaning_of c).second f i j) (λ c f. memory_left (meaning_of c).program (meaning_of c).second f i j) e either
