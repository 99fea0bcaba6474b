-- Every text has tokens, or a first fault.
use Rattle.std.proofs.Common.{◌≡◌, ◌⊎◌, ◌≤◌, List, [], ◌∷◌, ℕ, zero, suc, length, drop, arith, refl, true, false, Bool, Ok, Err, inl, inr, length-drop, nat_eq}
use Rattle.std.specs.List.{prefix_len}
use Rattle.dk_lexer.specs.declared.token.Token.{Token}
use Rattle.dk_lexer.specs.declared.token.TokenKind.{TokenKind}
use Rattle.dk_lexer.specs.declared.token.TokenKind.TheVariants.{End}
use Rattle.dk_lexer.specs.declared.fault.LexFault.{LexFault}
use Rattle.dk_base.specs.Ascii.{is_white}
use Rattle.dk_lexer.specs.Bytes.{is_in_line}
use Rattle.dk_lexer.specs.Lexis.{Gap, none, white, comment, Solid, Lexes, finish, next, Refused, here, later, lexeme, Lexeme, span_at, HasTokens, HasFault}
use Rattle.dk_lexer.proofs.Written.{found}

-- a text's first gap
pub record Gapped (text : List ℕ) : Type 0 where
  pub rest : List ℕ
  pub gap : Gap text rest
  pub solid : Solid rest
  pub fewer : length rest ≤ length text

stays : (text : List ℕ) → Solid text → Gapped text
stays text s = record { rest = text; gap = none; solid = s; fewer = omega arith }

over_white : (a : ℕ) (text : List ℕ) → is_white a ≡ true → Gapped text → Gapped (a ∷ text)
over_white a text w g = record { rest = g.rest; gap = white w g.gap; solid = g.solid; fewer = omega (arith, g.fewer) }

over_comment : (line : List ℕ) → Gapped (drop (prefix_len is_in_line line) line) → Gapped (45 ∷ 45 ∷ line)
over_comment line g = record { rest = g.rest; gap = comment g.gap; solid = g.solid; fewer = omega (arith, g.fewer, length-drop (prefix_len is_in_line line) line) }

not_a_minus : (a b : ℕ) → nat_eq a 45 ≡ false → a ≡ 45 → b ≡ 45 → ⊥
not_a_minus a b h e f = grind arith

not_b_minus : (a b : ℕ) → nat_eq b 45 ≡ false → a ≡ 45 → b ≡ 45 → ⊥
not_b_minus a b h e f = grind arith

minus_is : (a : ℕ) → nat_eq a 45 ≡ true → a ≡ 45
minus_is a h = grind arith

gap_minus : (n a b : ℕ) (text : List ℕ) → ((left : List ℕ) → length left ≤ n → Gapped left) → length (b ∷ text) ≤ n → is_white a ≡ false
    → (first : Bool) → nat_eq a 45 ≡ first → (second : Bool) → nat_eq b 45 ≡ second → Gapped (a ∷ b ∷ text)
gap_minus n a b text more h w false e second f = stays (a ∷ b ∷ text) (w, not_a_minus a b e)
gap_minus n a b text more h w true e false f = stays (a ∷ b ∷ text) (w, not_b_minus a b f)
gap_minus n a b text more h w true e true f =
    let first : a ≡ 45 = minus_is a e in
    let second : b ≡ 45 = minus_is b f in
    rw (first, second) (over_comment text (more _ (omega (arith, h, length-drop (prefix_len is_in_line text) text))))

gap_at : (n a : ℕ) (text : List ℕ) → ((left : List ℕ) → length left ≤ n → Gapped left) → length text ≤ n → (w : Bool) → is_white a ≡ w → Gapped (a ∷ text)
gap_at n a text more h true w = over_white a text w (more text h)
gap_at n a [] more h false w = stays (a ∷ []) w
gap_at n a (b ∷ text) more h false w = gap_minus n a b text more h w (nat_eq a 45) refl (nat_eq b 45) refl

gap_within : (n : ℕ) (text : List ℕ) → length text ≤ n → Gapped text
gap_within n [] h = stays [] tt
gap_within zero (a ∷ text) h = absurd (omega (arith, h))
gap_within (suc n) (a ∷ text) h = gap_at n a text (λ left less. gap_within n left less) (omega (arith, h)) (is_white a) refl

-- the tokens of what is left of a text, or its first fault
pub record Tokens (total : ℕ) (text : List ℕ) : Type 0 where
  pub tokens : List Token
  pub lexes : Lexes total text tokens

pub record Fault (total : ℕ) (text : List ℕ) : Type 0 where
  pub fault : LexFault
  pub refused : Refused total text fault

abbrev Judged : ℕ → List ℕ → Type 0
Judged total text = Tokens total text ⊎ Fault total text

judged_behind : (total : ℕ) (text bs : List ℕ) (a n : ℕ) (kind : TokenKind) → Gap text (a ∷ bs) → Solid (a ∷ bs) → lexeme a bs ≡ Ok (kind, n) → Judged total (drop n (a ∷ bs)) → Judged total text
judged_behind total text bs a n kind g s k (inl t) = inl (record { tokens = record { span = span_at total (a ∷ bs) n; kind = kind } ∷ t.tokens; lexes = next g s k t.lexes })
judged_behind total text bs a n kind g s k (inr f) = inr (record { fault = f.fault; refused = later g s k f.refused })

judged_lexeme : (total m : ℕ) (text bs : List ℕ) (a : ℕ) → ((left : List ℕ) → length left ≤ m → Judged total left) → length bs ≤ m → Gap text (a ∷ bs) → Solid (a ∷ bs)
    → (l : Lexeme) → lexeme a bs ≡ l → Judged total text
judged_lexeme total m text bs a more h g s (Ok (kind, n)) e =
    let f = found a bs (kind, n) e in
    judged_behind total text bs a n kind g s e (more (drop n (a ∷ bs)) (omega (arith, h, f.some, length-drop n (a ∷ bs))))
judged_lexeme total m text bs a more h g s (Err (kind, n)) e = inr (record { fault = record { span = span_at total (a ∷ bs) n; kind = kind }; refused = here g s e })

judged_rest : (total m : ℕ) (text rest : List ℕ) → ((left : List ℕ) → length left ≤ m → Judged total left) → length rest ≤ suc m → Gap text rest → Solid rest → Judged total text
judged_rest total m text [] more h g s = inl (record { tokens = record { span = record { start = total; stop = total }; kind = End } ∷ []; lexes = finish g })
judged_rest total m text (a ∷ bs) more h g s = judged_lexeme total m text bs a more (omega (arith, h)) g s (lexeme a bs) refl

judged_within : (total m : ℕ) (text : List ℕ) → length text ≤ m → Judged total text
judged_within total zero [] h = inl (record { tokens = record { span = record { start = total; stop = total }; kind = End } ∷ []; lexes = finish none })
judged_within total zero (a ∷ text) h = absurd (omega (arith, h))
judged_within total (suc m) text h =
    let g = gap_within (length text) text (omega arith) in
    judged_rest total m text g.rest (λ left less. judged_within total m left less) (omega (arith, h, g.fewer)) g.gap g.solid

reading_of : (text : List ℕ) → Judged (length text) text → ((tokens : List Token) × HasTokens text tokens) ⊎ ((fault : LexFault) × HasFault text fault)
reading_of text (inl t) = inl (t.tokens, t.lexes)
reading_of text (inr f) = inr (f.fault, f.refused)

-- every text has tokens or a fault
pub reading : (text : List ℕ) → ((tokens : List Token) × HasTokens text tokens) ⊎ ((fault : LexFault) × HasFault text fault)
reading text = reading_of text (judged_within (length text) (length text) text (omega arith))
