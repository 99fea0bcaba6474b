-- The text of a header is read whole.
use Rattle.std.proofs.Common.{◌≡◌, ◌∙◌, sym, ap, refl, [], ◌∷◌, ◌++◌, List, ℕ, suc, ◌+◌, ◌-◌, ◌*◌, true, arith, length, append_assoc, length-append}
use Rattle.pgm_codec.specs.declared.reading.Stage.{Stage}
use Rattle.pgm_codec.specs.declared.reading.Stage.TheVariants.{Gap, Filled, Comment, Digits, Whole}
use Rattle.pgm_codec.specs.declared.reading.Number.{Number}
use Rattle.pgm_codec.specs.declared.reading.Number.TheVariants.{Width, Height, Maxval}
use Rattle.pgm_codec.specs.declared.reading.Reading.{Reading}
use Rattle.dk_base.specs.Ascii.{is_white, value_after, value_of}
use Rattle.pgm_codec.specs.Headers.{IsInLine, Filling, none, white, comment, IsGap, AreDigits, IsNumeral, Field, Fields, last, field, HeaderText, capped}
use Rattle.pgm_codec.specs.Scans.{reading}
use Rattle.pgm_codec.specs.Automaton.{start, step, run, digit_after}
use Rattle.pgm_codec.proofs.ByteTests.{capped_digit, digit_capped}
use Rattle.pgm_codec.proofs.Steps.{in_line, line_ends, still_filled, gap_begins, number_begins, digit_more, number_ends}

pub run_append : (xs ys : List ℕ) (r : Reading) → run r (xs ++ ys) ≡ run (run r xs) ys
run_append [] ys r = refl
run_append (x ∷ xs) ys r = run_append xs ys (step r x)

-- the same, this many bytes on
at_count : (s : Stage) (k : Number) (w h v p a b : ℕ) (more : List ℕ) → a ≡ b → run (reading s k w h v p a) more ≡ run (reading s k w h v p b) more
at_count s k w h v p a b more e = ap (λ x. run (reading s k w h v p x) more) e

one_more : (n a : ℕ) → n + 1 + a ≡ n + suc a
one_more n a = omega arith

pub through_comment : (line more : List ℕ) (k : Number) (w h v p n : ℕ) → IsInLine line
    → run (reading Comment k w h v p n) (line ++ more) ≡ run (reading Comment k w h v p (n + length line)) more
through_comment [] more k w h v p n i = at_count Comment k w h v p n (n + 0) more (omega arith)
through_comment (b ∷ bs) more k w h v p n i =
    ap (λ r. run r (bs ++ more)) (in_line k w h v p n b i.0)
    ∙ through_comment bs more k w h v p (n + 1) i.1
    ∙ at_count Comment k w h v p (n + 1 + length bs) (n + suc (length bs)) more (one_more n (length bs))

comment_count : (n e : ℕ) (bytes line rest : List ℕ) → bytes ≡ line ++ e ∷ rest → n + 1 + length line + 1 + length rest ≡ n + suc (length bytes)
comment_count n e bytes line rest parts = omega (arith, ap length parts, length-append line (e ∷ rest))

pub through_filling : {filling : List ℕ} → Filling filling → (more : List ℕ) (k : Number) (w h v p n : ℕ)
    → run (reading Filled k w h v p n) (filling ++ more) ≡ run (reading Filled k w h v p (n + length filling)) more
through_filling none more k w h v p n = at_count Filled k w h v p n (n + 0) more (omega arith)
through_filling (white {b = b} {more = rest} is f) more k w h v p n =
    ap (λ r. run r (rest ++ more)) (still_filled k w h v p n b is)
    ∙ through_filling f more k w h v p (n + 1)
    ∙ at_count Filled k w h v p (n + 1 + length rest) (n + suc (length rest)) more (one_more n (length rest))
through_filling (comment e line {more = rest} {bytes = bytes} i is f parts) more k w h v p n =
    ap (λ x. run (reading Comment k w h v p (n + 1)) (x ++ more)) parts
    ∙ ap (λ x. run (reading Comment k w h v p (n + 1)) x) (append_assoc line (e ∷ rest) more)
    ∙ through_comment line (e ∷ (rest ++ more)) k w h v p (n + 1) i
    ∙ ap (λ r. run r (rest ++ more)) (line_ends k w h v p (n + 1 + length line) e is)
    ∙ through_filling f more k w h v p (n + 1 + length line + 1)
    ∙ at_count Filled k w h v p (n + 1 + length line + 1 + length rest) (n + suc (length bytes)) more (comment_count n e bytes line rest parts)

-- the automaton's number of digits
abbrev pub digits_on : ℕ → List ℕ → ℕ
digits_on v [] = v
digits_on v (d ∷ ds) = digits_on (digit_after v d) ds

pub capped_on : (v x : ℕ) (ds : List ℕ) → v ≡ capped x → digits_on v ds ≡ capped (value_after x ds)
capped_on v x [] e = e
capped_on v x (d ∷ ds) e = capped_on (digit_after v d) (10 * x + (d - 48)) ds (capped_digit v x d e)

pub through_digits : (ds more : List ℕ) (k : Number) (w h v p n : ℕ) → AreDigits ds
    → run (reading Digits k w h v p n) (ds ++ more) ≡ run (reading Digits k w h (digits_on v ds) p (n + length ds)) more
through_digits [] more k w h v p n i = at_count Digits k w h v p n (n + 0) more (omega arith)
through_digits (b ∷ bs) more k w h v p n i =
    ap (λ r. run r (bs ++ more)) (digit_more k w h v p n b i.0)
    ∙ through_digits bs more k w h (digit_after v b) p (n + 1) i.1
    ∙ at_count Digits k w h (digits_on (digit_after v b) bs) p (n + 1 + length bs) (n + suc (length bs)) more (one_more n (length bs))

-- a numeral after the gap before it
through_numeral : (digits more : List ℕ) (k : Number) (w h v p n : ℕ) → IsNumeral digits
    → run (reading Filled k w h v p n) (digits ++ more) ≡ run (reading Digits k w h (capped (value_of digits)) n (n + length digits)) more
through_numeral [] more k w h v p n i = absurd i
through_numeral (d ∷ ds) more k w h v p n i =
    ap (λ r. run r (ds ++ more)) (number_begins k w h v p n d i.0)
    ∙ through_digits ds more k w h (d - 48) n (n + 1) i.1
    ∙ ap (λ x. run (reading Digits k w h x n (n + 1 + length ds)) more) (capped_on (d - 48) (10 * 0 + (d - 48)) ds (digit_capped d i.0))
    ∙ at_count Digits k w h (capped (value_of (d ∷ ds))) n (n + 1 + length ds) (n + suc (length ds)) more (one_more n (length ds))

-- a gap from its second byte on, and a numeral
through_rest : (filling digits rest : List ℕ) (k : Number) (w h v p n : ℕ) → Filling filling → IsNumeral digits
    → run (reading Filled k w h v p n) (filling ++ (digits ++ rest)) ≡ run (reading Digits k w h (capped (value_of digits)) (n + length filling) (n + length filling + length digits)) rest
through_rest filling digits rest k w h v p n f i =
    through_filling f (digits ++ rest) k w h v p n ∙ through_numeral digits rest k w h v p (n + length filling) i

same_digits : (k : Number) (w h a b p q m n : ℕ) (more : List ℕ) → a ≡ b → p ≡ q → m ≡ n → run (reading Digits k w h a p m) more ≡ run (reading Digits k w h b q n) more
same_digits k w h a b p q m n more e f g =
    ap (λ x. run (reading Digits k w h x p m) more) e ∙ ap (λ x. run (reading Digits k w h b x m) more) f ∙ ap (λ x. run (reading Digits k w h b q x) more) g

-- the next number, from its gap on
pub from_gap : (gap digits rest bytes : List ℕ) (k : Number) (w h v p n next : ℕ) (number : Field) → IsGap gap → IsNumeral digits
    → number.value ≡ value_of digits → number.place ≡ n + length gap → next ≡ n + length gap + length digits → bytes ≡ gap ++ (digits ++ rest)
    → run (reading Gap k w h v p n) bytes ≡ run (reading Digits k w h (capped number.value) number.place next) rest
from_gap [] digits rest bytes k w h v p n next number g i value place on parts = absurd g
from_gap (b ∷ bs) digits rest bytes k w h v p n next number g i value place on parts =
    ap (λ x. run (reading Gap k w h v p n) x) parts
    ∙ ap (λ r. run r (bs ++ (digits ++ rest))) (gap_begins k w h v p n b g.0)
    ∙ through_rest bs digits rest k w h v p (n + 1) g.1 i
    ∙ same_digits k w h (capped (value_of digits)) (capped number.value) (n + 1 + length bs) number.place (n + 1 + length bs + length digits) next rest
    (ap (λ x. capped x) (sym value)) (omega arith) (omega arith)

-- what begins with a gap begins with a white space byte
pub opened : (gap tail bytes : List ℕ) → IsGap gap → bytes ≡ gap ++ tail → (b : ℕ) × (rest : List ℕ) × (is_white b ≡ true) × (bytes ≡ b ∷ rest)
opened [] tail bytes g parts = absurd g
opened (b ∷ bs) tail bytes g parts = (b, bs ++ tail, g.0, parts)

-- after the width and after the height a gap begins
pub behind_width : (bytes rest : List ℕ) (w h v p n b : ℕ) → is_white b ≡ true → bytes ≡ b ∷ rest
    → run (reading Digits Width w h v p n) bytes ≡ run (reading Gap Height v h v p n) bytes
behind_width bytes rest w h v p n b is parts =
    ap (λ x. run (reading Digits Width w h v p n) x) parts
    ∙ ap (λ r. run r rest) (number_ends Width w h v p n b is ∙ sym (gap_begins Height v h v p n b is))
    ∙ ap (λ x. run (reading Gap Height v h v p n) x) (sym parts)

pub behind_height : (bytes rest : List ℕ) (w h v p n b : ℕ) → is_white b ≡ true → bytes ≡ b ∷ rest
    → run (reading Digits Height w h v p n) bytes ≡ run (reading Gap Maxval w v v p n) bytes
behind_height bytes rest w h v p n b is parts =
    ap (λ x. run (reading Digits Height w h v p n) x) parts
    ∙ ap (λ r. run r rest) (number_ends Height w h v p n b is ∙ sym (gap_begins Maxval w v v p n b is))
    ∙ ap (λ x. run (reading Gap Maxval w v v p n) x) (sym parts)

counted : (n next : ℕ) (gap digits rest bytes : List ℕ) → next ≡ n + length gap + length digits → bytes ≡ gap ++ (digits ++ rest) → next + length rest ≡ n + length bytes
counted n next gap digits rest bytes on parts = omega (arith, ap length parts, length-append gap (digits ++ rest), length-append digits rest)

-- what comes after a number, up to the end
from_maxval : (bytes : List ℕ) (w h v p n : ℕ) → Fields n bytes [] → run (reading Digits Maxval w h v p n) bytes ≡ reading Whole Maxval w h v p (n + length bytes)
from_maxval bytes w h v p n (last {b = b} is) = number_ends Maxval w h v p n b is

from_height : (bytes : List ℕ) (m : Field) (w h v p n : ℕ) → Fields n bytes (m ∷ [])
    → run (reading Digits Height w h v p n) bytes ≡ reading Whole Maxval w v (capped m.value) m.place (n + length bytes)
from_height bytes m w h v p n (field {next = next} gap digits {rest = rest} g i value place on more parts) =
    let o = opened gap (digits ++ rest) bytes g parts in
    behind_height bytes o.1 w h v p n o.0 o.2 o.3
    ∙ from_gap gap digits rest bytes Maxval w v v p n next m g i value place on parts
    ∙ from_maxval rest w v (capped m.value) m.place next more
    ∙ ap (λ x. reading Whole Maxval w v (capped m.value) m.place x) (counted n next gap digits rest bytes on parts)

from_width : (bytes : List ℕ) (g' m : Field) (w h v p n : ℕ) → Fields n bytes (g' ∷ m ∷ [])
    → run (reading Digits Width w h v p n) bytes ≡ reading Whole Maxval v (capped g'.value) (capped m.value) m.place (n + length bytes)
from_width bytes g' m w h v p n (field {next = next} gap digits {rest = rest} g i value place on more parts) =
    let o = opened gap (digits ++ rest) bytes g parts in
    behind_width bytes o.1 w h v p n o.0 o.2 o.3
    ∙ from_gap gap digits rest bytes Height v h v p n next g' g i value place on parts
    ∙ from_height rest m v h (capped g'.value) g'.place next more
    ∙ ap (λ x. reading Whole Maxval v (capped g'.value) (capped m.value) m.place x) (counted n next gap digits rest bytes on parts)

from_start : (bytes : List ℕ) (w h m : Field) → Fields 2 bytes (w ∷ h ∷ m ∷ [])
    → run (reading Gap Width 0 0 0 0 2) bytes ≡ reading Whole Maxval (capped w.value) (capped h.value) (capped m.value) m.place (2 + length bytes)
from_start bytes w h m (field {next = next} gap digits {rest = rest} g i value place on more parts) =
    from_gap gap digits rest bytes Width 0 0 0 0 2 next w g i value place on parts
    ∙ from_width rest h m 0 0 (capped w.value) w.place next more
    ∙ ap (λ x. reading Whole Maxval (capped w.value) (capped h.value) (capped m.value) m.place x) (counted 2 next gap digits rest bytes on parts)

-- the text of a header is read whole
pub whole : (bytes : List ℕ) (w h m : Field) → HeaderText bytes w h m → run start bytes ≡ reading Whole Maxval (capped w.value) (capped h.value) (capped m.value) m.place (length bytes)
whole bytes w h m text =
    ap (λ x. run start x) text.magic
    ∙ from_start text.rest w h m text.numbers
    ∙ ap (λ x. reading Whole Maxval (capped w.value) (capped h.value) (capped m.value) m.place x) (omega (arith, ap length text.magic))
