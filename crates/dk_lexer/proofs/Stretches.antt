-- The stretches of a text between its tokens.
use Rattle.std.proofs.Common.{◌≡◌, ◌≢◌, ◌+◌, ◌++◌, List, [], ◌∷◌, ℕ, suc, drop, arith, refl, sym, subst, ap, ◌∙◌, append_assoc, true, false, Bool}
use Rattle.std.specs.List.{All, prefix_len}
use Rattle.std.proofs.lemmas.List.Elements.{All-cons, All-nil}
use Rattle.dk_base.specs.Ascii.{is_white}
use Rattle.dk_lexer.specs.Bytes.{is_in_line}
use Rattle.dk_lexer.specs.Lexis.{Gap, none, white, comment}
use Rattle.dk_lexer.specs.Faithful.{Blank, nothing, white as blank_white, comment as blank_comment}

-- a line's bytes, and then nothing or LF
pub record Line (text : List ℕ) : Type 0 where
  pub line : List ℕ
  pub rest : List ℕ
  pub whole : text ≡ line ++ rest
  pub left : drop (prefix_len is_in_line text) text ≡ rest
  pub inside : All (λ b. b ≢ 10) line
  pub stop : (b : ℕ) (bs : List ℕ) → rest ≡ b ∷ bs → b ≡ 10

in_line : (b : ℕ) → is_in_line b ≡ true → b ≢ 10
in_line b h e = grind arith

line_end : (b : ℕ) → is_in_line b ≡ false → b ≡ 10
line_end b h = grind arith

drop_more : (n b : ℕ) (text : List ℕ) → drop (1 + n) (b ∷ text) ≡ drop n text
drop_more n b text = let e : 1 + n ≡ suc n = omega arith in rw e refl

line_step : (b : ℕ) (text : List ℕ) (inside : Bool) → is_in_line b ≡ inside → Line text → Line (b ∷ text)
line_step b text true e l = record {
  line = b ∷ l.line;
  rest = l.rest;
  whole = ap (λ x. b ∷ x) l.whole;
  left = rw e (drop_more _ b text ∙ l.left);
  inside = All-cons (λ x. x ≢ 10) b l.line (in_line b e) l.inside;
  stop = l.stop;
}
line_step b text false e l = record {
  line = [];
  rest = b ∷ text;
  whole = refl;
  left = rw e refl;
  inside = All-nil (λ x. x ≢ 10);
  stop = λ c cs h. let same : c ≡ b = cc in same ∙ line_end b e;
}

pub line_of : (text : List ℕ) → Line text
line_of [] = record { line = []; rest = []; whole = refl; left = refl; inside = All-nil (λ x. x ≢ 10); stop = λ b bs h. absurd (cc) }
line_of (b ∷ text) = line_step b text (is_in_line b) refl (line_of text)

-- a gap before a rest is a front of the text
pub record Front (text rest : List ℕ) : Type 0 where
  pub front : List ℕ
  pub whole : text ≡ front ++ rest
  pub blank : Blank front

not_line_end : (a : ℕ) → a ≡ 10 → is_white a ≡ false → ⊥
not_line_end a e s = let h : is_white 10 ≡ false = subst (λ x. is_white x ≡ false) e s in cc

commented : (line : List ℕ) (rest : List ℕ) (a : ℕ) (bs : List ℕ) → rest ≡ a ∷ bs → is_white a ≡ false → (l : Line line) (front : List ℕ) → l.rest ≡ front ++ rest → Blank front
    → Front (45 ∷ 45 ∷ line) rest
commented line rest a bs e s l [] h b =
    let ten : a ≡ 10 = l.stop a bs (h ∙ e) in
    absurd (not_line_end a ten s)
commented line rest a bs e s l (c ∷ front) h b =
    let ten : c ≡ 10 = l.stop c (front ++ rest) h in
    record {
      front = 45 ∷ 45 ∷ (l.line ++ 10 ∷ front);
      whole = ap (λ x. 45 ∷ 45 ∷ x) (l.whole ∙ ap (λ x. l.line ++ x) h ∙ ap (λ x. l.line ++ (x ∷ (front ++ rest))) ten ∙ sym (append_assoc l.line (10 ∷ front) rest));
      blank = blank_comment l.line l.inside (subst (λ x. Blank (x ∷ front)) ten b);
    }

behind_comment : (line : List ℕ) (rest : List ℕ) (a : ℕ) (bs : List ℕ) → rest ≡ a ∷ bs → is_white a ≡ false → Line line → Front (drop (prefix_len is_in_line line) line) rest
    → Front (45 ∷ 45 ∷ line) rest
behind_comment line rest a bs e s l f = commented line rest a bs e s l f.front (sym l.left ∙ f.whole) f.blank

pub front_of : {text rest : List ℕ} → Gap text rest → (a : ℕ) (bs : List ℕ) → rest ≡ a ∷ bs → is_white a ≡ false → Front text rest
front_of (none {rest = r}) a bs e s = record { front = []; whole = refl; blank = nothing }
front_of (white {b = b} {text = x} {rest = r} w g) a bs e s =
    let f = front_of g a bs e s in
    record { front = b ∷ f.front; whole = ap (λ y. b ∷ y) f.whole; blank = blank_white w f.blank }
front_of (comment {line = line} {rest = r} g) a bs e s = behind_comment line r a bs e s (line_of line) (front_of g a bs e s)

append_nil : (xs : List ℕ) → xs ++ [] ≡ xs
append_nil [] = refl
append_nil (x ∷ xs) = ap (λ y. x ∷ y) (append_nil xs)

-- the last gap, whose last line the end of the text ends
last_comment : (line : List ℕ) (l : Line line) (rest : List ℕ) → l.rest ≡ rest → Blank (rest ++ 10 ∷ []) → Blank (45 ∷ 45 ∷ (line ++ 10 ∷ []))
last_comment line l [] h b =
    let whole : line ≡ l.line ++ [] = l.whole ∙ ap (λ x. l.line ++ x) h in
    rw (whole ∙ append_nil l.line) (blank_comment l.line l.inside b)
last_comment line l (c ∷ rest) h b =
    let ten : c ≡ 10 = l.stop c rest h in
    let whole : line ++ 10 ∷ [] ≡ l.line ++ 10 ∷ (rest ++ 10 ∷ []) =
    ap (λ x. x ++ 10 ∷ []) (l.whole ∙ ap (λ x. l.line ++ x) h ∙ ap (λ x. l.line ++ x ∷ rest) ten) ∙ append_assoc l.line (10 ∷ rest) (10 ∷ []) in
    rw whole (blank_comment l.line l.inside (subst (λ x. Blank (x ∷ rest ++ 10 ∷ [])) ten b))

pub last_gap : {text rest : List ℕ} → Gap text rest → rest ≡ [] → Blank (text ++ 10 ∷ [])
last_gap (none {rest = r}) e = rw e (blank_white refl nothing)
last_gap (white w g) e = blank_white w (last_gap g e)
last_gap (comment {line = line} g) e =
    let l = line_of line in
    last_comment line l l.rest refl (subst (λ x. Blank (x ++ 10 ∷ [])) l.left (last_gap g e))
