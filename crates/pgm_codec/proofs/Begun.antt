-- What begins a header is what the automaton has not given up.
use Rattle.std.proofs.Common.{◌≡◌, ◌∙◌, sym, ap, refl, subst, [], ◌∷◌, ◌++◌, List, ℕ, ◌+◌, ◌-◌, Bool, true, false, arith, length}
use Rattle.std.specs.Prelude.{nat_eq, if◌then◌else◌}
use Rattle.pgm_codec.specs.declared.reading.Stage.{Stage}
use Rattle.pgm_codec.specs.declared.reading.Stage.TheVariants.{Start, Letter, Gap, Filled, Comment, Digits, Whole, Lost}
use Rattle.pgm_codec.specs.declared.reading.Number.{Number}
use Rattle.pgm_codec.specs.declared.reading.Number.TheVariants.{Width, Height, Maxval}
use Rattle.pgm_codec.specs.declared.reading.Reading.{Reading}
use Rattle.dk_base.specs.Ascii.{is_white, is_digit}
use Rattle.pgm_codec.specs.Headers.{is_line_end}
use Rattle.pgm_codec.specs.Scans.{reading}
use Rattle.pgm_codec.specs.Automaton.{start, step, step_at, run, digit_after, finished}
use Rattle.pgm_codec.specs.Answers.{Whole as IsWhole, Begins, Inside}
use Rattle.pgm_codec.proofs.Forward.{whole, run_append}
use Rattle.pgm_codec.proofs.Backward.{text_of}

-- a byte may still come
abbrev pub Live : Stage → Type 0
Live Start = Unit {0}
Live Letter = Unit {0}
Live Gap = Unit {0}
Live Filled = Unit {0}
Live Comment = Unit {0}
Live Digits = Unit {0}
Live Whole = ⊥
Live Lost = ⊥

abbrev pub NotLost : Stage → Type 0
NotLost Start = Unit {0}
NotLost Letter = Unit {0}
NotLost Gap = Unit {0}
NotLost Filled = Unit {0}
NotLost Comment = Unit {0}
NotLost Digits = Unit {0}
NotLost Whole = Unit {0}
NotLost Lost = ⊥

pub live_not_lost : (s : Stage) → Live s → NotLost s
live_not_lost Start l = tt
live_not_lost Letter l = tt
live_not_lost Gap l = tt
live_not_lost Filled l = tt
live_not_lost Comment l = tt
live_not_lost Digits l = tt
live_not_lost Whole l = tt
live_not_lost Lost l = absurd l

-- what completes a header after a number
abbrev behind : Number → List ℕ
behind Width = 32 ∷ 48 ∷ 32 ∷ 48 ∷ 32 ∷ []
behind Height = 32 ∷ 48 ∷ 32 ∷ []
behind Maxval = 32 ∷ []

abbrev completion : Stage → Number → List ℕ
completion Start k = 80 ∷ 53 ∷ 32 ∷ 48 ∷ behind k
completion Letter k = 53 ∷ 32 ∷ 48 ∷ behind k
completion Gap k = 32 ∷ 48 ∷ behind k
completion Filled k = 48 ∷ behind k
completion Comment k = 10 ∷ 48 ∷ behind k
completion Digits k = behind k
completion Whole k = []
completion Lost k = []

completes : (s : Stage) (k : Number) (w h v p n : ℕ) → Live s → (run (reading s k w h v p n) (completion s k)).stage ≡ Whole
completes Start Width w h v p n l = refl
completes Start Height w h v p n l = refl
completes Start Maxval w h v p n l = refl
completes Letter Width w h v p n l = refl
completes Letter Height w h v p n l = refl
completes Letter Maxval w h v p n l = refl
completes Gap Width w h v p n l = refl
completes Gap Height w h v p n l = refl
completes Gap Maxval w h v p n l = refl
completes Filled Width w h v p n l = refl
completes Filled Height w h v p n l = refl
completes Filled Maxval w h v p n l = refl
completes Comment Width w h v p n l = refl
completes Comment Height w h v p n l = refl
completes Comment Maxval w h v p n l = refl
completes Digits Width w h v p n l = refl
completes Digits Height w h v p n l = refl
completes Digits Maxval w h v p n l = refl
completes Whole k w h v p n l = absurd l
completes Lost k w h v p n l = absurd l

lost_step : (r : Reading) (b : ℕ) → r.stage ≡ Lost → (step r b).stage ≡ Lost
lost_step r b e = subst (λ s. (step_at s r b).stage ≡ Lost) (sym e) refl

whole_step : (r : Reading) (b : ℕ) → r.stage ≡ Whole → (step r b).stage ≡ Lost
whole_step r b e = subst (λ s. (step_at s r b).stage ≡ Lost) (sym e) refl

pub lost_on : (bytes : List ℕ) (r : Reading) → r.stage ≡ Lost → (run r bytes).stage ≡ Lost
lost_on [] r e = e
lost_on (b ∷ bs) r e = lost_on bs (step r b) (lost_step r b e)

-- the stage after bytes
abbrev pub stage_of : List ℕ → Stage
stage_of bytes = (run start bytes).stage

not_both : (s : Stage) → s ≡ Whole → s ≡ Lost → ⊥
not_both s a b = cc

live_not_whole : (s : Stage) → Live s → s ≡ Whole → ⊥
live_not_whole s l e = subst (λ x. Live x) e l

pub whole_stage : (bytes : List ℕ) → IsWhole bytes → stage_of bytes ≡ Whole
whole_stage bytes i = ap (λ r. r.stage) (whole bytes i.0 i.1 i.2 i.3)

pub live_inside : (bytes : List ℕ) → Live (stage_of bytes) → Inside bytes
live_inside bytes l =
    let r = run start bytes in
    let more = completion r.stage r.number in
    record {
      begins = (more, text_of (bytes ++ more) (ap (λ x. x.stage) (run_append bytes more start) ∙ completes r.stage r.number r.width r.height r.value r.first r.length l));
      open_yet = λ i. live_not_whole (stage_of bytes) l (whole_stage bytes i);
    }

pub begins_not_lost : (bytes : List ℕ) → Begins bytes → stage_of bytes ≡ Lost → ⊥
begins_not_lost bytes b e =
    not_both (stage_of (bytes ++ b.0)) (whole_stage (bytes ++ b.0) b.1)
    (ap (λ x. x.stage) (run_append bytes b.0 start) ∙ lost_on b.0 (run start bytes) e)

-- no header begins another
pub whole_then_lost : (bytes : List ℕ) (b : ℕ) (more : List ℕ) → IsWhole bytes → stage_of (bytes ++ b ∷ more) ≡ Lost
whole_then_lost bytes b more i =
    ap (λ x. x.stage) (run_append bytes (b ∷ more) start) ∙ lost_on more (step (run start bytes) b) (whole_step (run start bytes) b (whole_stage bytes i))

inside_at : (s : Stage) (bytes : List ℕ) → stage_of bytes ≡ s → Inside bytes → Live s
inside_at Start bytes e i = tt
inside_at Letter bytes e i = tt
inside_at Gap bytes e i = tt
inside_at Filled bytes e i = tt
inside_at Comment bytes e i = tt
inside_at Digits bytes e i = tt
inside_at Whole bytes e i = i.open_yet (text_of bytes e)
inside_at Lost bytes e i = begins_not_lost bytes i.begins e

pub inside_live : (bytes : List ℕ) → Inside bytes → Live (stage_of bytes)
inside_live bytes i = inside_at (stage_of bytes) bytes refl i

-- a byte is counted unless it continues no header
abbrev Counts : Stage → ℕ → ℕ → Type 0
Counts Start n m = m ≡ n + 1
Counts Letter n m = m ≡ n + 1
Counts Gap n m = m ≡ n + 1
Counts Filled n m = m ≡ n + 1
Counts Comment n m = m ≡ n + 1
Counts Digits n m = m ≡ n + 1
Counts Whole n m = m ≡ n + 1
Counts Lost n m = m ≡ n

abbrev CountsOf : ℕ → Reading → Type 0
CountsOf n r = Counts r.stage n r.length

choose : (n : ℕ) (a : Bool) (x y : Reading) → CountsOf n x → CountsOf n y → CountsOf n (if a then x else y)
choose n true x y c d = c
choose n false x y c d = d

finished_counts : (k : Number) (w h v p n : ℕ) → CountsOf n (finished k (reading Digits k w h v p n))
finished_counts Width w h v p n = refl
finished_counts Height w h v p n = refl
finished_counts Maxval w h v p n = refl

step_counts : (s : Stage) (k : Number) (w h v p n b : ℕ) → CountsOf n (step (reading s k w h v p n) b)
step_counts Start k w h v p n b = choose n (nat_eq b 80) (reading Letter k w h v p (n + 1)) (reading Lost k w h v p n) refl refl
step_counts Letter k w h v p n b = choose n (nat_eq b 53) (reading Gap k w h v p (n + 1)) (reading Lost k w h v p n) refl refl
step_counts Gap k w h v p n b = choose n (is_white b) (reading Filled k w h v p (n + 1)) (reading Lost k w h v p n) refl refl
step_counts Filled k w h v p n b =
    choose n (is_white b) (reading Filled k w h v p (n + 1)) _ refl
    (choose n (nat_eq b 35) (reading Comment k w h v p (n + 1)) _ refl
    (choose n (is_digit b) (reading Digits k w h (b - 48) n (n + 1)) (reading Lost k w h v p n) refl refl))
step_counts Comment k w h v p n b = choose n (is_line_end b) (reading Filled k w h v p (n + 1)) (reading Comment k w h v p (n + 1)) refl refl
step_counts Digits k w h v p n b =
    choose n (is_digit b) (reading Digits k w h (digit_after v b) p (n + 1)) _ refl
    (choose n (is_white b) (finished k (reading Digits k w h v p n)) (reading Lost k w h v p n) (finished_counts k w h v p n) refl)
step_counts Whole k w h v p n b = refl
step_counts Lost k w h v p n b = refl

counted_at : (s : Stage) (n m : ℕ) → NotLost s → Counts s n m → m ≡ n + 1
counted_at Start n m l c = c
counted_at Letter n m l c = c
counted_at Gap n m l c = c
counted_at Filled n m l c = c
counted_at Comment n m l c = c
counted_at Digits n m l c = c
counted_at Whole n m l c = c
counted_at Lost n m l c = absurd l

not_lost_before : (bs : List ℕ) (s : Stage) (r : Reading) → r.stage ≡ s → NotLost (run r bs).stage → NotLost s
not_lost_before bs Start r e l = tt
not_lost_before bs Letter r e l = tt
not_lost_before bs Gap r e l = tt
not_lost_before bs Filled r e l = tt
not_lost_before bs Comment r e l = tt
not_lost_before bs Digits r e l = tt
not_lost_before bs Whole r e l = tt
not_lost_before bs Lost r e l = subst (λ x. NotLost x) (lost_on bs r e) l

run_counts : (bytes : List ℕ) (r : Reading) → NotLost (run r bytes).stage → (run r bytes).length ≡ r.length + length bytes
run_counts [] r l = omega arith
run_counts (b ∷ bs) r l =
    let one = counted_at (step r b).stage r.length (step r b).length (not_lost_before bs (step r b).stage (step r b) refl l) (step_counts r.stage r.number r.width r.height r.value r.first r.length b) in
    let rest = run_counts bs (step r b) l in
    omega (arith, one, rest)

pub counts : (bytes : List ℕ) → NotLost (stage_of bytes) → (run start bytes).length ≡ length bytes
counts bytes l = omega (arith, run_counts bytes start l)

-- where a byte continues no header the bytes before it were counted
pub lost_counts : (bytes : List ℕ) (b : ℕ) → Live (stage_of bytes) → stage_of (bytes ++ b ∷ []) ≡ Lost → (run start (bytes ++ b ∷ [])).length ≡ length bytes
lost_counts bytes b l e =
    let r = run start bytes in
    let same = run_append bytes (b ∷ []) start in
    let c = step_counts r.stage r.number r.width r.height r.value r.first r.length b in
    let d = subst (λ s. Counts s r.length (step r b).length) (sym (ap (λ x. x.stage) same) ∙ e) c in
    ap (λ x. x.length) same ∙ d ∙ counts bytes (live_not_lost (stage_of bytes) l)
