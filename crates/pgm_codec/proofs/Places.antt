-- Where in a header bytes end is where the automaton is after them.
use Rattle.std.proofs.Common.{◌≡◌, ◌∙◌, sym, ap, refl, subst, [], ◌∷◌, ◌++◌, List, ℕ, suc, ◌+◌, ◌*◌, ◌-◌, ◌<◌, Bool, true, false, arith, length, append_assoc, length-append, append-nil}
use Rattle.std.specs.Prelude.{nat_eq, nat_lt, ◌||◌, if◌then◌else◌}
use Rattle.dk_base.specs.declared.TheConstants.{MAX_MAXVAL}
use Rattle.pgm_codec.specs.declared.reading.Stage.{Stage}
use Rattle.pgm_codec.specs.declared.reading.Stage.TheVariants.{Start, Letter, Gap, Filled, Comment, Digits, Whole, Lost}
use Rattle.pgm_codec.specs.declared.reading.Number.{Number}
use Rattle.pgm_codec.specs.declared.reading.Number.TheVariants.{Width, Height, Maxval}
use Rattle.pgm_codec.specs.declared.reading.Reading.{Reading}
use Rattle.pgm_codec.specs.declared.header.Header.{Header}
use Rattle.pgm_codec.specs.declared.header.HeaderFault.TheVariants.{Range}
use Rattle.pgm_codec.specs.declared.scan.Scan.TheVariants.{More, Done, Fault}
use Rattle.dk_base.specs.Ascii.{is_white, is_digit, value_after, value_of}
use Rattle.pgm_codec.specs.Headers.{is_line_end, IsInLine, Filling, none, white, comment, IsGap, AreDigits, IsNumeral, Field, capped}
use Rattle.pgm_codec.specs.Scans.{IsFront, reading, after_numbers, in_number, IsPlace, nothing, letter, magic, in_gap, in_comment, in_digits}
use Rattle.pgm_codec.specs.Automaton.{start, step, run, finished, digit_after, verdict_at}
use Rattle.pgm_codec.proofs.ByteTests.{capped_digit, digit_capped, is_hash, is_letter, is_five}
use Rattle.pgm_codec.proofs.Steps.{gap_begins}
use Rattle.pgm_codec.proofs.Forward.{run_append, through_comment, through_filling, from_gap, opened, behind_width, behind_height}
use Rattle.pgm_codec.proofs.Begun.{Live}

-- ---- the automaton after a front

-- after the last digit of these numbers, or after `P5`
abbrev state : List Field → ℕ → Reading
state [] n = after_numbers Gap [] n
state (number ∷ before) n = in_number (number ∷ before) n

-- a white space byte ends a number and begins a gap
opens : (numbers : List Field) (b : ℕ) (rest bytes : List ℕ) (n : ℕ) → length numbers < 3 → is_white b ≡ true → bytes ≡ b ∷ rest → run (state numbers n) bytes ≡ run (after_numbers Gap numbers n) bytes
opens [] b rest bytes n few is parts = refl
opens (w ∷ []) b rest bytes n few is parts = behind_width bytes rest 0 0 (capped w.value) w.place n b is parts
opens (h ∷ w ∷ []) b rest bytes n few is parts = behind_height bytes rest (capped w.value) 0 (capped h.value) h.place n b is parts
opens (m ∷ h ∷ w ∷ more) b rest bytes n few is parts = absurd (omega (arith, few))

-- the next number
reads : (number : Field) (before : List Field) (gap digits : List ℕ) (n next : ℕ) → length before < 3 → IsGap gap → IsNumeral digits → number.value ≡ value_of digits → number.place ≡ n + length gap → next ≡ n + length gap + length digits
    → run (after_numbers Gap before n) (gap ++ digits) ≡ in_number (number ∷ before) next
reads number [] gap digits n next few g i value place on = from_gap gap digits [] (gap ++ digits) Width 0 0 0 0 n next number g i value place on (ap (λ z. gap ++ z) (sym (append-nil digits)))
reads number (w ∷ []) gap digits n next few g i value place on =
    from_gap gap digits [] (gap ++ digits) Height (capped w.value) 0 (capped w.value) w.place n next number g i value place on (ap (λ z. gap ++ z) (sym (append-nil digits)))
reads number (h ∷ w ∷ []) gap digits n next few g i value place on =
    from_gap gap digits [] (gap ++ digits) Maxval (capped w.value) (capped h.value) (capped h.value) h.place n next number g i value place on (ap (λ z. gap ++ z) (sym (append-nil digits)))
reads number (m ∷ h ∷ w ∷ more) gap digits n next few g i value place on = absurd (omega (arith, few))

front_length : (front gap digits bytes : List ℕ) → bytes ≡ front ++ (gap ++ digits) → length bytes ≡ length front + length gap + length digits
front_length front gap digits bytes e = omega (arith, ap length e, length-append front (gap ++ digits), length-append gap digits)

fewer : (number : Field) (before : List Field) (n : ℕ) → length (number ∷ before) < suc n → length before < n
fewer number before n h = omega (arith, h)

front_run : (numbers : List Field) (bytes : List ℕ) → length numbers < 4 → IsFront numbers bytes → run start bytes ≡ state numbers (length bytes)
front_run [] bytes few f = subst (λ z. run start z ≡ after_numbers Gap [] (length z)) (sym f) refl
front_run (number ∷ before) bytes few (front, gap, digits, f, g, i, value, place, parts) =
    let less = fewer number before 3 few in
    let o = opened gap digits (gap ++ digits) g refl in
    ap (λ z. run start z) parts ∙ run_append front (gap ++ digits) start
    ∙ ap (λ z. run z (gap ++ digits)) (front_run before front (let k : length before < 4 = omega (arith, less) in k) f)
    ∙ opens before o.0 o.1 (gap ++ digits) (length front) less o.2 o.3
    ∙ reads number before gap digits (length front) (length bytes) less g i value place (front_length front gap digits bytes parts)

-- a gap, and a comment in it
gap_run : (k : Number) (w h v p n : ℕ) (gap : List ℕ) → IsGap gap → run (reading Gap k w h v p n) gap ≡ reading Filled k w h v p (n + length gap)
gap_run k w h v p n [] g = absurd g
gap_run k w h v p n (b ∷ filling) g =
    ap (λ r. run r filling) (gap_begins k w h v p n b g.0)
    ∙ ap (λ z. run (reading Filled k w h v p (n + 1)) z) (sym (append-nil filling))
    ∙ through_filling g.1 [] k w h v p (n + 1)
    ∙ ap (λ z. reading Filled k w h v p z) (one (length filling))
  where
    one : (m : ℕ) → n + 1 + m ≡ n + suc m
    one m = omega arith

comment_run : (k : Number) (w h v p n : ℕ) (line : List ℕ) → IsInLine line → run (reading Filled k w h v p n) (35 ∷ line) ≡ reading Comment k w h v p (n + suc (length line))
comment_run k w h v p n line i =
    ap (λ z. run (reading Comment k w h v p (n + 1)) z) (sym (append-nil line)) ∙ through_comment line [] k w h v p (n + 1) i ∙ ap (λ z. reading Comment k w h v p z) (one (length line))
  where
    one : (m : ℕ) → n + 1 + m ≡ n + suc m
    one m = omega arith

-- what a reading is after numbers
record Held (numbers : List Field) : Type 0 where
  k : Number
  w : ℕ
  h : ℕ
  v : ℕ
  p : ℕ
  is : (s : Stage) (n : ℕ) → after_numbers s numbers n ≡ reading s k w h v p n

held : (numbers : List Field) → Held numbers
held [] = record { k = Width; w = 0; h = 0; v = 0; p = 0; is = λ s n. refl }
held (w ∷ []) = record { k = Height; w = capped w.value; h = 0; v = capped w.value; p = w.place; is = λ s n. refl }
held (h ∷ w ∷ more) = record { k = Maxval; w = capped w.value; h = capped h.value; v = capped h.value; p = h.place; is = λ s n. refl }

open_run : (numbers : List Field) (front gap rest : List ℕ) → length numbers < 3 → IsFront numbers front → IsGap gap → run start (front ++ (gap ++ rest)) ≡ run (after_numbers Filled numbers (length (front ++ gap))) rest
open_run numbers front gap rest few f g =
    let o = opened gap rest (gap ++ rest) g refl in
    let t = held numbers in
    run_append front (gap ++ rest) start
    ∙ ap (λ z. run z (gap ++ rest)) (front_run numbers front (let l : length numbers < 4 = omega (arith, few) in l) f)
    ∙ opens numbers o.0 o.1 (gap ++ rest) (length front) few o.2 o.3
    ∙ ap (λ z. run z (gap ++ rest)) (t.is Gap (length front))
    ∙ run_append gap rest (reading Gap t.k t.w t.h t.v t.p (length front))
    ∙ ap (λ z. run z rest) (gap_run t.k t.w t.h t.v t.p (length front) gap g ∙ ap (λ z. reading Filled t.k t.w t.h t.v t.p z) (sym (length-append front gap)) ∙ sym (t.is Filled (length (front ++ gap))))

commented : (numbers : List Field) (front gap line bytes : List ℕ) → IsInLine line → bytes ≡ front ++ (gap ++ 35 ∷ line) → run (after_numbers Filled numbers (length (front ++ gap))) (35 ∷ line) ≡ after_numbers Comment numbers (length bytes)
commented numbers front gap line bytes i parts =
    let t = held numbers in
    ap (λ z. run z (35 ∷ line)) (t.is Filled (length (front ++ gap)))
    ∙ comment_run t.k t.w t.h t.v t.p (length (front ++ gap)) line i
    ∙ ap (λ z. reading Comment t.k t.w t.h t.v t.p z) long
    ∙ sym (t.is Comment (length bytes))
  where
    long : length (front ++ gap) + suc (length line) ≡ length bytes
    long = omega (arith, ap length parts, length-append front gap, length-append front (gap ++ 35 ∷ line), length-append gap (35 ∷ line))

pub place_run : (bytes : List ℕ) (r : Reading) → IsPlace bytes r → r ≡ run start bytes
place_run bytes r (nothing e is) = is ∙ sym (ap (λ z. run start z) e)
place_run bytes r (letter e is) = is ∙ sym (ap (λ z. run start z) e)
place_run bytes r (magic e is) = is ∙ sym (ap (λ z. run start z) e)
place_run bytes r (in_gap numbers front gap few f g parts is) =
    is ∙ sym (ap (λ z. run start z) (parts ∙ ap (λ z. front ++ z) (sym (append-nil gap))) ∙ open_run numbers front gap [] few f g ∙ ap (λ z. after_numbers Filled numbers (length z)) (sym parts))
place_run bytes r (in_comment numbers front gap line few f g i parts is) =
    is ∙ sym (ap (λ z. run start z) parts ∙ open_run numbers front gap (35 ∷ line) few f g ∙ commented numbers front gap line bytes i parts)
place_run bytes r (in_digits number before few f is) = is ∙ sym (front_run (number ∷ before) bytes (let l : suc (length before) < 4 = omega (arith, few) in l) f)

-- ---- one byte more

one_more : (bytes : List ℕ) (b : ℕ) → length (bytes ++ b ∷ []) ≡ length bytes + 1
one_more bytes b = length-append bytes (b ∷ [])

in_line_more : (line : List ℕ) (b : ℕ) → IsInLine line → is_line_end b ≡ false → IsInLine (line ++ b ∷ [])
in_line_more [] b i is = (is, tt)
in_line_more (x ∷ line) b i is = (i.0, in_line_more line b i.1 is)

filling_more : {filling : List ℕ} → Filling filling → (more : List ℕ) → Filling more → Filling (filling ++ more)
filling_more none more m = m
filling_more (white is f) more m = white is (filling_more f more m)
filling_more (comment e line {more = rest} i is f parts) more m =
    comment e line i is (filling_more f more m) (ap (λ z. z ++ more) parts ∙ append_assoc line (e ∷ rest) more)

gap_more : (gap more : List ℕ) → IsGap gap → Filling more → IsGap (gap ++ more)
gap_more [] more g m = absurd g
gap_more (b ∷ filling) more g m = (g.0, filling_more g.1 more m)

digits_more : (digits : List ℕ) (b : ℕ) → AreDigits digits → is_digit b ≡ true → AreDigits (digits ++ b ∷ [])
digits_more [] b i is = (is, tt)
digits_more (x ∷ digits) b i is = (i.0, digits_more digits b i.1 is)

numeral_more : (digits : List ℕ) (b : ℕ) → IsNumeral digits → is_digit b ≡ true → IsNumeral (digits ++ b ∷ [])
numeral_more [] b i is = absurd i
numeral_more (x ∷ digits) b i is = (i.0, digits_more digits b i.1 is)

value_more : (v : ℕ) (digits : List ℕ) (b : ℕ) → value_after v (digits ++ b ∷ []) ≡ 10 * value_after v digits + (b - 48)
value_more v [] b = refl
value_more v (d ∷ digits) b = value_more (10 * v + (d - 48)) digits b

-- a gap goes on
gap_place : (numbers : List Field) (bytes front gap more : List ℕ) (b : ℕ) (r : Reading) → length numbers < 3 → IsFront numbers front → IsGap gap → Filling more → bytes ++ b ∷ [] ≡ front ++ (gap ++ more)
    → r ≡ after_numbers Filled numbers (length bytes + 1) → IsPlace (bytes ++ b ∷ []) r
gap_place numbers bytes front gap more b r few f g m parts is =
    in_gap numbers front (gap ++ more) few f (gap_more gap more g m) parts (is ∙ ap (λ z. after_numbers Filled numbers z) (sym (one_more bytes b)))

snoc : (bytes front gap : List ℕ) (b : ℕ) → bytes ≡ front ++ gap → bytes ++ b ∷ [] ≡ front ++ (gap ++ b ∷ [])
snoc bytes front gap b e = ap (λ z. z ++ b ∷ []) e ∙ append_assoc front gap (b ∷ [])

first_digit : (numbers : List Field) (b n : ℕ) → length numbers < 3 → is_digit b ≡ true → (let t = held numbers in reading Digits t.k t.w t.h (b - 48) n (n + 1)) ≡ in_number (record { value = value_of (b ∷ []); place = n } ∷ numbers) (n + 1)
unfolding held
first_digit [] b n few is = ap (λ z. reading Digits Width 0 0 z n (n + 1)) (digit_capped b is)
first_digit (w ∷ []) b n few is = ap (λ z. reading Digits Height (capped w.value) 0 z n (n + 1)) (digit_capped b is)
first_digit (h ∷ w ∷ []) b n few is = ap (λ z. reading Digits Maxval (capped w.value) (capped h.value) z n (n + 1)) (digit_capped b is)
first_digit (m ∷ h ∷ w ∷ more) b n few is = absurd (omega (arith, few))

filled_by : (x y z : Bool) (numbers : List Field) (bytes front gap : List ℕ) (b : ℕ) → length numbers < 3 → IsFront numbers front → IsGap gap → bytes ≡ front ++ gap → is_white b ≡ x → nat_eq b 35 ≡ y → is_digit b ≡ z
    → (let t = held numbers in let n = length bytes in let r = (if x then reading Filled t.k t.w t.h t.v t.p (n + 1) else (if y then reading Comment t.k t.w t.h t.v t.p (n + 1) else (if z then reading Digits t.k t.w t.h (b - 48) n (n + 1) else reading Lost t.k t.w t.h t.v t.p n))) in Live r.stage → IsPlace (bytes ++ b ∷ []) r)
filled_by true y z numbers bytes front gap b few f g parts is hash digit live =
    gap_place numbers bytes front gap (b ∷ []) b _ few f g (white is none) (snoc bytes front gap b parts) (sym ((held numbers).is Filled (length bytes + 1)))
filled_by false true z numbers bytes front gap b few f g parts is hash digit live =
    in_comment numbers front gap [] few f g tt (snoc bytes front gap b parts ∙ ap (λ c. front ++ (gap ++ c ∷ [])) (is_hash b hash))
    (sym ((held numbers).is Comment (length bytes + 1)) ∙ ap (λ c. after_numbers Comment numbers c) (sym (one_more bytes b)))
filled_by false false true numbers bytes front gap b few f g parts is hash digit live =
    in_digits (record { value = value_of (b ∷ []); place = length bytes }) numbers few
    (front, gap, b ∷ [], f, g, (digit, tt), refl, ap length parts ∙ length-append front gap, snoc bytes front gap b parts)
    (first_digit numbers b (length bytes) few digit ∙ ap (λ c. in_number (record { value = value_of (b ∷ []); place = length bytes } ∷ numbers) c) (sym (one_more bytes b)))
filled_by false false false numbers bytes front gap b few f g parts is hash digit live = absurd live

comment_by : (x : Bool) (numbers : List Field) (bytes front gap line : List ℕ) (b : ℕ) → length numbers < 3 → IsFront numbers front → IsGap gap → IsInLine line → bytes ≡ front ++ (gap ++ 35 ∷ line) → is_line_end b ≡ x
    → (let t = held numbers in let n = length bytes in IsPlace (bytes ++ b ∷ []) (if x then reading Filled t.k t.w t.h t.v t.p (n + 1) else reading Comment t.k t.w t.h t.v t.p (n + 1)))
comment_by true numbers bytes front gap line b few f g i parts is =
    gap_place numbers bytes front gap (35 ∷ (line ++ b ∷ [])) b _ few f g (comment b line i is none refl) (snoc bytes front (gap ++ 35 ∷ line) b parts ∙ ap (λ z. front ++ z) (append_assoc gap (35 ∷ line) (b ∷ [])))
    (sym ((held numbers).is Filled (length bytes + 1)))
comment_by false numbers bytes front gap line b few f g i parts is =
    in_comment numbers front gap (line ++ b ∷ []) few f g (in_line_more line b i is) (snoc bytes front (gap ++ 35 ∷ line) b parts ∙ ap (λ z. front ++ z) (append_assoc gap (35 ∷ line) (b ∷ [])))
    (sym ((held numbers).is Comment (length bytes + 1)) ∙ ap (λ c. after_numbers Comment numbers c) (sym (one_more bytes b)))

-- a digit more
front_more : (number : Field) (before : List Field) (bytes : List ℕ) (b : ℕ) → IsFront (number ∷ before) bytes → is_digit b ≡ true → IsFront (record { value = 10 * number.value + (b - 48); place = number.place } ∷ before) (bytes ++ b ∷ [])
front_more number before bytes b (front, gap, digits, f, g, i, value, place, parts) is = (
  front,
  gap,
  digits ++ b ∷ [],
  f,
  g,
  numeral_more digits b i is,
  ap (λ v. 10 * v + (b - 48)) value ∙ sym (value_more 0 digits b),
  place,
  snoc bytes front (gap ++ digits) b parts ∙ ap (λ z. front ++ z) (append_assoc gap digits (b ∷ [])),
)

digits_place : (number : Field) (before : List Field) (bytes : List ℕ) (b : ℕ) (r : Reading) → length before < 3 → IsFront (number ∷ before) bytes → is_digit b ≡ true
    → r ≡ in_number (record { value = 10 * number.value + (b - 48); place = number.place } ∷ before) (length bytes + 1) → IsPlace (bytes ++ b ∷ []) r
digits_place number before bytes b r few f is e =
    in_digits (record { value = 10 * number.value + (b - 48); place = number.place }) before few (front_more number before bytes b f is)
    (e ∙ ap (λ c. in_number (record { value = 10 * number.value + (b - 48); place = number.place } ∷ before) c) (sym (one_more bytes b)))

ends_place : (number : Field) (before : List Field) (bytes : List ℕ) (b : ℕ) (r : Reading) → length (number ∷ before) < 3 → IsFront (number ∷ before) bytes → is_white b ≡ true → r ≡ after_numbers Filled (number ∷ before) (length bytes + 1) → IsPlace (bytes ++ b ∷ []) r
ends_place number before bytes b r few f is e =
    in_gap (number ∷ before) bytes (b ∷ []) few f (is, none) refl (e ∙ ap (λ c. after_numbers Filled (number ∷ before) c) (sym (one_more bytes b)))

number_by : (x y : Bool) (k : Number) (w h v p : ℕ) (number : Field) (before : List Field) (bytes : List ℕ) (b : ℕ) → length before < 3 → IsFront (number ∷ before) bytes → is_digit b ≡ x → is_white b ≡ y
    → (is_digit b ≡ true → reading Digits k w h (digit_after v b) p (length bytes + 1) ≡ in_number (record { value = 10 * number.value + (b - 48); place = number.place } ∷ before) (length bytes + 1))
    → (let r = finished k (reading Digits k w h v p (length bytes)) in is_white b ≡ true → Live r.stage → IsPlace (bytes ++ b ∷ []) r)
    → (let r = (if x then reading Digits k w h (digit_after v b) p (length bytes + 1) else (if y then finished k (reading Digits k w h v p (length bytes)) else reading Lost k w h v p (length bytes))) in Live r.stage → IsPlace (bytes ++ b ∷ []) r)
number_by true y k w h v p number before bytes b few f e s same ends live = digits_place number before bytes b _ few f e (same e)
number_by false true k w h v p number before bytes b few f e s same ends live = ends s live
number_by false false k w h v p number before bytes b few f e s same ends live = absurd live

more_digits : (number : Field) (b : ℕ) → digit_after (capped number.value) b ≡ capped (10 * number.value + (b - 48))
more_digits number b = capped_digit (capped number.value) number.value b refl

number_step : (number : Field) (before : List Field) (bytes : List ℕ) (b : ℕ) → length before < 3 → IsFront (number ∷ before) bytes → (let r = step (in_number (number ∷ before) (length bytes)) b in Live r.stage → IsPlace (bytes ++ b ∷ []) r)
number_step w [] bytes b few f live =
    number_by (is_digit b) (is_white b) Width 0 0 (capped w.value) w.place w [] bytes b few f refl refl (λ is. ap (λ z. reading Digits Width 0 0 z w.place (length bytes + 1)) (more_digits w b))
    (λ is l. ends_place w [] bytes b _ (omega arith) f is refl) live
number_step h (w ∷ []) bytes b few f live =
    number_by (is_digit b) (is_white b) Height (capped w.value) 0 (capped h.value) h.place h (w ∷ []) bytes b few f refl refl (λ is. ap (λ z. reading Digits Height (capped w.value) 0 z h.place (length bytes + 1)) (more_digits h b))
    (λ is l. ends_place h (w ∷ []) bytes b _ (omega arith) f is refl) live
number_step m (h ∷ w ∷ []) bytes b few f live =
    number_by (is_digit b) (is_white b) Maxval (capped w.value) (capped h.value) (capped m.value) m.place m (h ∷ w ∷ []) bytes b few f refl refl
    (λ is. ap (λ z. reading Digits Maxval (capped w.value) (capped h.value) z m.place (length bytes + 1)) (more_digits m b)) (λ is l. absurd l) live
number_step n (m ∷ h ∷ w ∷ more) bytes b few f live = absurd (omega (arith, few))

start_by : (x : Bool) (b : ℕ) → nat_eq b 80 ≡ x → (let r = (if x then reading Letter Width 0 0 0 0 1 else reading Lost Width 0 0 0 0 0) in Live r.stage → IsPlace (b ∷ []) r)
start_by true b e live = letter (ap (λ z. z ∷ []) (is_letter b e)) refl
start_by false b e live = absurd live

letter_by : (x : Bool) (b : ℕ) → nat_eq b 53 ≡ x → (let r = (if x then reading Gap Width 0 0 0 0 2 else reading Lost Width 0 0 0 0 1) in Live r.stage → IsPlace (80 ∷ b ∷ []) r)
letter_by true b e live = magic (ap (λ z. 80 ∷ z ∷ []) (is_five b e)) refl
letter_by false b e live = absurd live

magic_by : (x : Bool) (b : ℕ) → is_white b ≡ x → (let r = (if x then reading Filled Width 0 0 0 0 3 else reading Lost Width 0 0 0 0 2) in Live r.stage → IsPlace (80 ∷ 53 ∷ b ∷ []) r)
magic_by true b e live = in_gap [] (80 ∷ 53 ∷ []) (b ∷ []) (omega arith) refl (e, none) refl refl
magic_by false b e live = absurd live

steps : (bytes : List ℕ) (r : Reading) (b : ℕ) → IsPlace bytes r → Live (step r b).stage → IsPlace (bytes ++ b ∷ []) (step r b)
steps bytes r b (nothing e is) live =
    subst (λ z. IsPlace (z ++ b ∷ []) (step r b)) (sym e) (subst (λ z. IsPlace (b ∷ []) (step z b)) (sym is) (start_by (nat_eq b 80) b refl (subst (λ z. Live (step z b).stage) is live)))
steps bytes r b (letter e is) live =
    subst (λ z. IsPlace (z ++ b ∷ []) (step r b)) (sym e) (subst (λ z. IsPlace (80 ∷ b ∷ []) (step z b)) (sym is) (letter_by (nat_eq b 53) b refl (subst (λ z. Live (step z b).stage) is live)))
steps bytes r b (magic e is) live =
    subst (λ z. IsPlace (z ++ b ∷ []) (step r b)) (sym e) (subst (λ z. IsPlace (80 ∷ 53 ∷ b ∷ []) (step z b)) (sym is) (magic_by (is_white b) b refl (subst (λ z. Live (step z b).stage) is live)))
steps bytes r b (in_gap numbers front gap few f g parts is) live =
    let t = held numbers in
    let e = is ∙ t.is Filled (length bytes) in
    subst (λ z. IsPlace (bytes ++ b ∷ []) (step z b)) (sym e) (filled_by (is_white b) (nat_eq b 35) (is_digit b) numbers bytes front gap b few f g parts refl refl refl (subst (λ z. Live (step z b).stage) e live))
steps bytes r b (in_comment numbers front gap line few f g i parts is) live =
    let t = held numbers in
    let e = is ∙ t.is Comment (length bytes) in
    subst (λ z. IsPlace (bytes ++ b ∷ []) (step z b)) (sym e) (comment_by (is_line_end b) numbers bytes front gap line b few f g i parts refl)
steps bytes r b (in_digits number before few f is) live =
    subst (λ z. IsPlace (bytes ++ b ∷ []) (step z b)) (sym is) (number_step number before bytes b few f (subst (λ z. Live (step z b).stage) is live))

pub place_step : (bytes : List ℕ) (r : Reading) (b : ℕ) → IsPlace bytes r → Live (step r b).stage → IsPlace (bytes ++ b ∷ []) (step r b)
place_step bytes r b p live = steps bytes r b p live

-- a byte may still come after the answer More
not_more : (a : Bool) (offset : ℕ) (header : Header) → (if a then Fault (Range offset) else Done header) ≡ More → ⊥
not_more true offset header e = cc
not_more false offset header e = cc

pub more_live : (s : Stage) (r : Reading) → verdict_at s r ≡ More → Live s
more_live Start r e = tt
more_live Letter r e = tt
more_live Gap r e = tt
more_live Filled r e = tt
more_live Comment r e = tt
more_live Digits r e = tt
more_live Whole r e = not_more (nat_eq r.value 0 || nat_lt MAX_MAXVAL r.value) r.first (record { width = r.width; height = r.height; maxval = r.value; length = r.length }) e
more_live Lost r e = cc
