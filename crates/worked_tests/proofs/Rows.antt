-- A row of a table of headers, by running the scan.
use Rattle.std.proofs.Common.{◌≡◌, ℕ, List, [], ◌∷◌, ◌++◌, ◌<◌, length, subst}
use Rattle.pgm_codec.specs.declared.header.Header.{Header}
use Rattle.pgm_codec.specs.declared.header.HeaderFault.{HeaderFault}
use Rattle.pgm_codec.specs.declared.scan.Scan.TheVariants.{Done, Fault}
use Rattle.pgm_codec.specs.Answers.{Answers, Reads, Refuses, Undecided}
use Rattle.pgm_codec.specs.Automaton.{start, run, step, verdict, fault_at}
use Rattle.pgm_codec.proofs.Begun.{Live, stage_of, live_inside}
use Rattle.pgm_codec.proofs.Verdicts.{verdict_answers, ends_here}
use Rattle.pgm_codec.proofs.Stays.{reads_more, stays}

undecided : (front : List ℕ) → Live (stage_of front) → length front < 65536 → Undecided front
undecided front live few = record { inside = live_inside front live; limit = few }

pub reads : (front : List ℕ) (b : ℕ) (more : List ℕ) (h : Header) → Live (stage_of front) → length front < 65536 → verdict (step (run start front) b) ≡ Done h → Reads ((front ++ b ∷ []) ++ more) h
reads front b more h live few e = reads_more (front ++ b ∷ []) more h (subst (λ a. Answers (front ++ b ∷ []) a) e (verdict_answers front b (undecided front live few)))

pub refuses : (front : List ℕ) (b : ℕ) (more : List ℕ) (f : HeaderFault) → Live (stage_of front) → length front < 65536 → verdict (step (run start front) b) ≡ Fault f → Refuses ((front ++ b ∷ []) ++ more) f
refuses front b more f live few e =
    (stays (front ++ b ∷ []) more (Fault f) (subst (λ a. Answers (front ++ b ∷ []) a) e (verdict_answers front b (undecided front live few))) (λ d. let x : ⊥ = cc in x)).0

pub ends : (bytes : List ℕ) (f : HeaderFault) → Live (stage_of bytes) → length bytes < 65536 → fault_at (run start bytes).length ≡ f → Refuses bytes f
ends bytes f live few e = subst (λ a. Refuses bytes a) e (ends_here bytes (undecided bytes live few))
