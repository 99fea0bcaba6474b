-- What is read whole is the text of a header.
use Rattle.std.proofs.Common.{◌≡◌, ◌∙◌, sym, ap, refl, subst, [], ◌∷◌, ◌++◌, List, ℕ, suc, ◌+◌, ◌-◌, Bool, true, false, arith, length, append_assoc, length-append}
use Rattle.std.specs.Prelude.{nat_eq, if◌then◌else◌}
use Rattle.pgm_codec.specs.declared.reading.Stage.{Stage}
use Rattle.pgm_codec.specs.declared.reading.Stage.TheVariants.{Start, Letter, Gap, Filled, Comment, Digits, Whole, Lost}
use Rattle.pgm_codec.specs.declared.reading.Number.{Number}
use Rattle.pgm_codec.specs.declared.reading.Number.TheVariants.{Width, Height, Maxval}
use Rattle.pgm_codec.specs.declared.reading.Reading.{Reading}
use Rattle.dk_base.specs.Ascii.{is_white, is_digit, value_of}
use Rattle.pgm_codec.specs.Headers.{is_line_end, IsInLine, Filling, none, white, comment, AreDigits, IsNumeral, Field, Fields, last, field, HeaderText}
use Rattle.pgm_codec.specs.Scans.{reading}
use Rattle.pgm_codec.specs.Automaton.{start, step, run, digit_after, finished}
use Rattle.pgm_codec.proofs.ByteTests.{is_hash, is_letter, is_five}

-- the numbers after this one
abbrev pub left : Number → ℕ
left Width = 2
left Height = 1
left Maxval = 0

-- From the offset n on the bytes complete a header, by where they begin.
pub record GapRest (k : Number) (n : ℕ) (bytes : List ℕ) : Type 0 where
  pub fields : List Field
  pub numbers : Fields n bytes fields
  pub count : length fields ≡ suc (left k)

pub record FilledRest (k : Number) (n : ℕ) (bytes : List ℕ) : Type 0 where
  pub filling : List ℕ
  pub digits : List ℕ
  pub rest : List ℕ
  pub next : ℕ
  pub fields : List Field
  pub parts : bytes ≡ filling ++ (digits ++ rest)
  pub fills : Filling filling
  pub numeral : IsNumeral digits
  pub on : next ≡ n + length filling + length digits
  pub numbers : Fields next rest fields
  pub count : length fields ≡ left k

pub record CommentRest (k : Number) (n : ℕ) (bytes : List ℕ) : Type 0 where
  pub line : List ℕ
  pub line_end : ℕ
  pub more : List ℕ
  pub next : ℕ
  pub parts : bytes ≡ line ++ line_end ∷ more
  pub in_line : IsInLine line
  pub ends : is_line_end line_end ≡ true
  pub on : next ≡ n + length line + 1
  pub filled : FilledRest k next more

pub record DigitsRest (k : Number) (n : ℕ) (bytes : List ℕ) : Type 0 where
  pub digits : List ℕ
  pub rest : List ℕ
  pub next : ℕ
  pub fields : List Field
  pub parts : bytes ≡ digits ++ rest
  pub are : AreDigits digits
  pub on : next ≡ n + length digits
  pub numbers : Fields next rest fields
  pub count : length fields ≡ left k

abbrev pub Rest : Stage → Number → ℕ → List ℕ → Type 0
Rest Start k n bytes = (rest : List ℕ) × (bytes ≡ 80 ∷ 53 ∷ rest) × GapRest k (n + 1 + 1) rest
Rest Letter k n bytes = (rest : List ℕ) × (bytes ≡ 53 ∷ rest) × GapRest k (n + 1) rest
Rest Gap k n bytes = GapRest k n bytes
Rest Filled k n bytes = FilledRest k n bytes
Rest Comment k n bytes = CommentRest k n bytes
Rest Digits k n bytes = DigitsRest k n bytes
Rest Whole k n bytes = bytes ≡ []
Rest Lost k n bytes = ⊥

abbrev pub RestOf : Reading → List ℕ → Type 0
RestOf r bytes = Rest r.stage r.number r.length bytes

-- a gap byte before the rest of a gap
gap_from : (k : Number) (n b : ℕ) (bs : List ℕ) → is_white b ≡ true → FilledRest k (n + 1) bs → GapRest k n (b ∷ bs)
gap_from k n b bs is f = record {
  fields = record { value = value_of f.digits; place = n + length (b ∷ f.filling) } ∷ f.fields;
  numbers = field (b ∷ f.filling) f.digits (is, f.fills) f.numeral refl refl (omega (arith, f.on)) f.numbers (ap (λ x. b ∷ x) f.parts);
  count = ap (λ c. suc c) f.count;
}

filled_from_white : (k : Number) (n b : ℕ) (bs : List ℕ) → is_white b ≡ true → FilledRest k (n + 1) bs → FilledRest k n (b ∷ bs)
filled_from_white k n b bs is f = record {
  filling = b ∷ f.filling;
  digits = f.digits;
  rest = f.rest;
  next = f.next;
  fields = f.fields;
  parts = ap (λ x. b ∷ x) f.parts;
  fills = white is f.fills;
  numeral = f.numeral;
  on = omega (arith, f.on);
  numbers = f.numbers;
  count = f.count;
}

hashed : (b : ℕ) (filling : List ℕ) → b ≡ 35 → Filling (35 ∷ filling) → Filling (b ∷ filling)
hashed b filling e f = subst (λ x. Filling (x ∷ filling)) (sym e) f

filled_from_comment : (k : Number) (n b : ℕ) (bs : List ℕ) → nat_eq b 35 ≡ true → CommentRest k (n + 1) bs → FilledRest k n (b ∷ bs)
filled_from_comment k n b bs is c =
    let f = c.filled in
    record {
      filling = b ∷ (c.line ++ c.line_end ∷ f.filling);
      digits = f.digits;
      rest = f.rest;
      next = f.next;
      fields = f.fields;
      parts = ap (λ x. b ∷ x) (c.parts ∙ ap (λ x. c.line ++ c.line_end ∷ x) f.parts ∙ sym (append_assoc c.line (c.line_end ∷ f.filling) (f.digits ++ f.rest)));
      fills = hashed b (c.line ++ c.line_end ∷ f.filling) (is_hash b is) (comment c.line_end c.line c.in_line c.ends f.fills refl);
      numeral = f.numeral;
      on = omega (arith, c.on, f.on, length-append c.line (c.line_end ∷ f.filling));
      numbers = f.numbers;
      count = f.count;
    }

filled_from_digits : (k : Number) (n b : ℕ) (bs : List ℕ) → is_digit b ≡ true → DigitsRest k (n + 1) bs → FilledRest k n (b ∷ bs)
filled_from_digits k n b bs is d = record {
  filling = [];
  digits = b ∷ d.digits;
  rest = d.rest;
  next = d.next;
  fields = d.fields;
  parts = ap (λ x. b ∷ x) d.parts;
  fills = none;
  numeral = (is, d.are);
  on = omega (arith, d.on);
  numbers = d.numbers;
  count = d.count;
}

comment_from_end : (k : Number) (n b : ℕ) (bs : List ℕ) → is_line_end b ≡ true → FilledRest k (n + 1) bs → CommentRest k n (b ∷ bs)
comment_from_end k n b bs is f = record {
  line = [];
  line_end = b;
  more = bs;
  next = n + 1;
  parts = refl;
  in_line = tt;
  ends = is;
  on = omega arith;
  filled = f;
}

comment_from_line : (k : Number) (n b : ℕ) (bs : List ℕ) → is_line_end b ≡ false → CommentRest k (n + 1) bs → CommentRest k n (b ∷ bs)
comment_from_line k n b bs is c = record {
  line = b ∷ c.line;
  line_end = c.line_end;
  more = c.more;
  next = c.next;
  parts = ap (λ x. b ∷ x) c.parts;
  in_line = (is, c.in_line);
  ends = c.ends;
  on = omega (arith, c.on);
  filled = c.filled;
}

digits_from_digit : (k : Number) (n b : ℕ) (bs : List ℕ) → is_digit b ≡ true → DigitsRest k (n + 1) bs → DigitsRest k n (b ∷ bs)
digits_from_digit k n b bs is d = record {
  digits = b ∷ d.digits;
  rest = d.rest;
  next = d.next;
  fields = d.fields;
  parts = ap (λ x. b ∷ x) d.parts;
  are = (is, d.are);
  on = omega (arith, d.on);
  numbers = d.numbers;
  count = d.count;
}

digits_end : (k : Number) (n : ℕ) (bytes : List ℕ) (fields : List Field) → Fields n bytes fields → length fields ≡ left k → DigitsRest k n bytes
digits_end k n bytes fields f c = record {
  digits = [];
  rest = bytes;
  next = n;
  fields = fields;
  parts = refl;
  are = tt;
  on = omega arith;
  numbers = f;
  count = c;
}

nothing_left : (n b : ℕ) (bs : List ℕ) → is_white b ≡ true → bs ≡ [] → Fields n (b ∷ bs) []
nothing_left n b bs is e = subst (λ x. Fields n (b ∷ x) []) (sym e) (last is)

-- after a number
digits_from_white : (k : Number) (w h v p n b : ℕ) (bs : List ℕ) → is_white b ≡ true → RestOf (finished k (reading Digits k w h v p n)) bs → DigitsRest k n (b ∷ bs)
digits_from_white Width w h v p n b bs is f = let g = gap_from Height n b bs is f in digits_end Width n (b ∷ bs) g.fields g.numbers g.count
digits_from_white Height w h v p n b bs is f = let g = gap_from Maxval n b bs is f in digits_end Height n (b ∷ bs) g.fields g.numbers g.count
digits_from_white Maxval w h v p n b bs is f = digits_end Maxval n (b ∷ bs) [] (nothing_left n b bs is f) refl

-- the step back at each stage, by what the byte is
back_filled : (a c d : Bool) (k : Number) (w h v p n b : ℕ) (bs : List ℕ) → is_white b ≡ a → nat_eq b 35 ≡ c → is_digit b ≡ d
    → RestOf (if a then reading Filled k w h v p (n + 1) else (if c then reading Comment k w h v p (n + 1) else (if d then reading Digits k w h (b - 48) n (n + 1) else reading Lost k w h v p n))) bs
    → FilledRest k n (b ∷ bs)
back_filled true c d k w h v p n b bs e f g r = filled_from_white k n b bs e r
back_filled false true d k w h v p n b bs e f g r = filled_from_comment k n b bs f r
back_filled false false true k w h v p n b bs e f g r = filled_from_digits k n b bs g r
back_filled false false false k w h v p n b bs e f g r = absurd r

back_comment : (a : Bool) (k : Number) (w h v p n b : ℕ) (bs : List ℕ) → is_line_end b ≡ a
    → RestOf (if a then reading Filled k w h v p (n + 1) else reading Comment k w h v p (n + 1)) bs → CommentRest k n (b ∷ bs)
back_comment true k w h v p n b bs e r = comment_from_end k n b bs e r
back_comment false k w h v p n b bs e r = comment_from_line k n b bs e r

back_digits : (a c : Bool) (k : Number) (w h v p n b : ℕ) (bs : List ℕ) → is_digit b ≡ a → is_white b ≡ c
    → RestOf (if a then reading Digits k w h (digit_after v b) p (n + 1) else (if c then finished k (reading Digits k w h v p n) else reading Lost k w h v p n)) bs → DigitsRest k n (b ∷ bs)
back_digits true c k w h v p n b bs e f r = digits_from_digit k n b bs e r
back_digits false true k w h v p n b bs e f r = digits_from_white k w h v p n b bs f r
back_digits false false k w h v p n b bs e f r = absurd r

back_gap : (a : Bool) (k : Number) (w h v p n b : ℕ) (bs : List ℕ) → is_white b ≡ a
    → RestOf (if a then reading Filled k w h v p (n + 1) else reading Lost k w h v p n) bs → GapRest k n (b ∷ bs)
back_gap true k w h v p n b bs e r = gap_from k n b bs e r
back_gap false k w h v p n b bs e r = absurd r

back_letter : (a : Bool) (k : Number) (w h v p n b : ℕ) (bs : List ℕ) → nat_eq b 53 ≡ a
    → RestOf (if a then reading Gap k w h v p (n + 1) else reading Lost k w h v p n) bs → Rest Letter k n (b ∷ bs)
back_letter true k w h v p n b bs e r = (bs, ap (λ x. x ∷ bs) (is_five b e), r)
back_letter false k w h v p n b bs e r = absurd r

back_start : (a : Bool) (k : Number) (w h v p n b : ℕ) (bs : List ℕ) → nat_eq b 80 ≡ a
    → RestOf (if a then reading Letter k w h v p (n + 1) else reading Lost k w h v p n) bs → Rest Start k n (b ∷ bs)
back_start true k w h v p n b bs e r = (r.0, ap (λ x. x ∷ bs) (is_letter b e) ∙ ap (λ x. 80 ∷ x) r.1, r.2)
back_start false k w h v p n b bs e r = absurd r

back : (s : Stage) (k : Number) (w h v p n b : ℕ) (bs : List ℕ) → RestOf (step (reading s k w h v p n) b) bs → Rest s k n (b ∷ bs)
back Start k w h v p n b bs r = back_start (nat_eq b 80) k w h v p n b bs refl r
back Letter k w h v p n b bs r = back_letter (nat_eq b 53) k w h v p n b bs refl r
back Gap k w h v p n b bs r = back_gap (is_white b) k w h v p n b bs refl r
back Filled k w h v p n b bs r = back_filled (is_white b) (nat_eq b 35) (is_digit b) k w h v p n b bs refl refl refl r
back Comment k w h v p n b bs r = back_comment (is_line_end b) k w h v p n b bs refl r
back Digits k w h v p n b bs r = back_digits (is_digit b) (is_white b) k w h v p n b bs refl refl r
back Whole k w h v p n b bs r = absurd r
back Lost k w h v p n b bs r = absurd r

rest_of : (bytes : List ℕ) (r : Reading) → (run r bytes).stage ≡ Whole → RestOf r bytes
rest_of [] r e = subst (λ s. Rest s r.number r.length []) (sym e) refl
rest_of (b ∷ bs) r e = back r.stage r.number r.width r.height r.value r.first r.length b bs (rest_of bs (step r b) e)

three : (bytes rest : List ℕ) (fields : List Field) → bytes ≡ 80 ∷ 53 ∷ rest → Fields 2 rest fields → length fields ≡ 3 → (w : Field) × (h : Field) × (m : Field) × HeaderText bytes w h m
three bytes rest [] e f c = absurd (omega arith)
three bytes rest (w ∷ []) e f c = absurd (omega arith)
three bytes rest (w ∷ h ∷ []) e f c = absurd (omega arith)
three bytes rest (w ∷ h ∷ m ∷ []) e f c = (w, h, m, record { rest = rest; magic = e; numbers = f })
three bytes rest (w ∷ h ∷ m ∷ o ∷ fs) e f c = absurd (omega arith)

-- what is read whole is the text of a header
pub text_of : (bytes : List ℕ) → (run start bytes).stage ≡ Whole → (w : Field) × (h : Field) × (m : Field) × HeaderText bytes w h m
text_of bytes e =
    let r = rest_of bytes start e in
    three bytes r.0 r.2.fields r.1 r.2.numbers r.2.count
