-- A scan, byte after byte.
use Rattle.std.proofs.Common.{◌≡◌, ◌∙◌, sym, ap, subst, [], ◌∷◌, ◌++◌, List, ℕ, ◌<◌, length, take, drop, get_or, drop-cons, suc, append_assoc}
use Rattle.std.proofs.lemmas.List.{take-append-drop}
use Rattle.pgm_codec.specs.declared.reading.Reading.{Reading}
use Rattle.pgm_codec.specs.declared.header.Header.{Header}
use Rattle.pgm_codec.specs.declared.header.HeaderFault.{HeaderFault}
use Rattle.pgm_codec.specs.declared.scan.HeaderScan.{HeaderScan}
use Rattle.pgm_codec.specs.declared.scan.Scan.{Scan}
use Rattle.pgm_codec.specs.declared.scan.Scan.TheVariants.{More, Done, Fault}
use Rattle.pgm_codec.specs.Automaton.{start, step, run, verdict, fault_at}
use Rattle.pgm_codec.specs.Answers.{Answers, Refuses}
use Rattle.pgm_codec.specs.Scans.{IsPlace, Scanned, told}
use Rattle.pgm_codec.proofs.Verdicts.{verdict_answers, ends_here}
use Rattle.pgm_codec.proofs.Begun.{Live}
use Rattle.pgm_codec.proofs.Places.{place_run, place_step, more_live}
use Rattle.pgm_codec.proofs.Stays.{stays}

more_answers : (r : Reading) (bytes : List ℕ) (b : ℕ) → r ≡ run start bytes → Answers bytes More → Answers (bytes ++ b ∷ []) (verdict (step r b))
more_answers r bytes b e a = subst (λ x. Answers (bytes ++ b ∷ []) (verdict (step x b))) (sym e) (verdict_answers bytes b a)

-- a scan that goes on takes one byte more
pub pushed : (old : HeaderScan) (r : Reading) (a : Scan) (bytes : List ℕ) (b : ℕ) → Scanned old bytes → told old ≡ More → r ≡ step old.reading b → a ≡ verdict r → Answers (bytes ++ b ∷ []) a
pushed old r a bytes b s m e f =
    subst (λ x. Answers (bytes ++ b ∷ []) x) (sym (f ∙ ap (λ x. verdict x) e))
    (more_answers old.reading bytes b (place_run bytes old.reading (s.place m)) (subst (λ x. Answers bytes x) m s.answers))

pub pushed_on : (old new : HeaderScan) (bytes : List ℕ) (b : ℕ) → Scanned old bytes → told old ≡ More → new.reading ≡ step old.reading b → told new ≡ verdict new.reading → Scanned new (bytes ++ b ∷ [])
pushed_on old new bytes b s m e f = record {
  answers = pushed old new.reading (told new) bytes b s m e f;
  place = λ g. subst (λ r. IsPlace (bytes ++ b ∷ []) r) (sym e) (place_step bytes old.reading b (s.place m) (subst (λ r. Live r.stage) e (more_live new.reading.stage new.reading (sym f ∙ g))));
}

-- a scan that has answered stays
pub stayed : (old : HeaderScan) (a : Scan) (bytes : List ℕ) (b : ℕ) → Scanned old bytes → told old ≡ a → (a ≡ More → ⊥) → Answers (bytes ++ b ∷ []) a
stayed old a bytes b s e n = stays bytes (b ∷ []) a (subst (λ x. Answers bytes x) e s.answers) n

pub stayed_on : (old : HeaderScan) (a : Scan) (bytes : List ℕ) (b : ℕ) → Scanned old bytes → told old ≡ a → (a ≡ More → ⊥) → Scanned old (bytes ++ b ∷ [])
stayed_on old a bytes b s e n = record {
  answers = subst (λ x. Answers (bytes ++ b ∷ []) x) (sym e) (stayed old a bytes b s e n);
  place = λ g. absurd (n (sym e ∙ g));
}

pub done_not_more : (h : Header) → Done h ≡ More → ⊥
done_not_more h e = cc

pub fault_not_more : (f : HeaderFault) → Fault f ≡ More → ⊥
fault_not_more f e = cc

-- the end of the bytes
pub ended : (scan : HeaderScan) (bytes : List ℕ) → Scanned scan bytes → told scan ≡ More → Refuses bytes (fault_at scan.reading.length)
ended scan bytes s m =
    subst (λ r. Refuses bytes (fault_at r.length)) (sym (place_run bytes scan.reading (s.place m))) (ends_here bytes (subst (λ x. Answers bytes x) m s.answers))

-- what was answered at a byte holds of all the bytes
cut_at : (bytes : List ℕ) (i : ℕ) → i < length bytes → (take i bytes ++ get_or bytes i 0 ∷ []) ++ drop (suc i) bytes ≡ bytes
cut_at bytes i below =
    append_assoc (take i bytes) (get_or bytes i 0 ∷ []) (drop (suc i) bytes)
    ∙ ap (λ x. take i bytes ++ x) (sym (drop-cons bytes i 0 below))
    ∙ take-append-drop i bytes

pub answered : (bytes : List ℕ) (i : ℕ) (a : Scan) → i < length bytes → Answers (take i bytes ++ get_or bytes i 0 ∷ []) a → (a ≡ More → ⊥) → Answers bytes a
answered bytes i a below is n = subst (λ x. Answers x a) (cut_at bytes i below) (stays (take i bytes ++ get_or bytes i 0 ∷ []) (drop (suc i) bytes) a is n)
