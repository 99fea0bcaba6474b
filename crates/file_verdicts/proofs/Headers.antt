-- Each list of bytes has an answer of a scan, and is judged as a header.
use Rattle.std.proofs.Common.{sym, subst, [], ◌∷◌, ◌++◌, List, ℕ, append_assoc, append-nil, Result, Ok, Err}
use Rattle.pgm_codec.specs.declared.header.Header.{Header}
use Rattle.pgm_codec.specs.declared.header.HeaderFault.{HeaderFault}
use Rattle.pgm_codec.specs.declared.scan.Scan.{Scan}
use Rattle.pgm_codec.specs.declared.scan.Scan.TheVariants.{More, Done, Fault}
use Rattle.pgm_codec.specs.Automaton.{start, step, run, verdict, fault_at}
use Rattle.pgm_codec.specs.Answers.{Judges, Undecided, Answers}
use Rattle.pgm_codec.proofs.Verdicts.{nothing, verdict_answers, ends_here}
use Rattle.pgm_codec.proofs.Stays.{stays}
use Rattle.pgm_codec.proofs.Scanning.{done_not_more, fault_not_more}

abbrev IsAnswered : List ℕ → Type 0
IsAnswered bytes = (scan : Scan) × Answers bytes scan

answered_from : (front rest : List ℕ) → Undecided front → IsAnswered (front ++ rest)
answered_from front [] u = (More, subst (λ x. Undecided x) (sym (append-nil front)) u)
answered_from front (b ∷ rest) u = subst IsAnswered (append_assoc front (b ∷ []) rest) (by (verdict (step (run start front) b)) (verdict_answers front b u) (λ v. answered_from (front ++ b ∷ []) rest v))
  where
    by : (scan : Scan) → Answers (front ++ b ∷ []) scan → (Undecided (front ++ b ∷ []) → IsAnswered ((front ++ b ∷ []) ++ rest)) → IsAnswered ((front ++ b ∷ []) ++ rest)
    by More a go = go a
    by (Done h) a go = (Done h, stays (front ++ b ∷ []) rest (Done h) a (done_not_more h))
    by (Fault f) a go = (Fault f, stays (front ++ b ∷ []) rest (Fault f) a (fault_not_more f))

pub scan_answered : (bytes : List ℕ) → (scan : Scan) × Answers bytes scan
scan_answered bytes = answered_from [] bytes nothing

by_scan : (bytes : List ℕ) (scan : Scan) → Answers bytes scan → (answer : Result Header HeaderFault) × Judges bytes answer
by_scan bytes More u = (Err (fault_at (run start bytes).length), ends_here bytes u)
by_scan bytes (Done h) r = (Ok h, r)
by_scan bytes (Fault f) r = (Err f, r.0)

pub header_judged : (bytes : List ℕ) → (answer : Result Header HeaderFault) × Judges bytes answer
header_judged bytes = let a = scan_answered bytes in by_scan bytes a.0 a.1
