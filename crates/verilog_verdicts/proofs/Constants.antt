-- The constants of a text fit their sizes.
use Rattle.std.proofs.Common.{◌≡◌, ℕ, ◌≤◌, ◌<◌, ◌^◌, List, [], ◌∷◌, take, drop, Option, Some, None, Ok, Err, nat_lt, nat_le, nat_eq, refl, sym, subst, inl, inr, arith, codes, if◌then◌else◌}
use Rattle.std.specs.List.{prefix_len, find, starts_with}
use Rattle.std.proofs.lemmas.Bool.{cases_Bool}
use Rattle.std.specs.Str.{bytes_eq}
use Rattle.net_names.specs.Words.{is_letter, is_digit, is_word_byte, is_refused_word}
use Rattle.wiring.specs.Sizes.{SizedNumber, IsConstant}
use Rattle.verilog_text.specs.declared.token.Token.{Token}
use Rattle.verilog_text.specs.declared.token.Keyword.{Keyword}
use Rattle.verilog_text.specs.declared.token.Symbol.{Symbol}
use Rattle.verilog_text.specs.declared.token.TokenKind.{TokenKind}
use Rattle.verilog_text.specs.declared.token.TokenKind.TheVariants as kind
use Rattle.verilog_text.specs.Bytes.{is_in_number, is_in_constant, value_of, is_numeral, base_of, fitting, in_base, of_size, constant_of, symbols, keywords, keyword_or, refused_or_name}
use Rattle.verilog_text.specs.Lexis.{Lexes, finish, next, Lexeme, lexeme, word_at, plain_of, sized_of, number_at, number_here, word_here, is_tick_first, symbol_of, symbol_here}

-- a constant that is accepted fits its size
abbrev FitsSize : Option SizedNumber → Type 0
FitsSize None = Unit {0}
FitsSize (Some c) = IsConstant c

fitting_fits : (size value : ℕ) → FitsSize (fitting size value)
fitting_fits size value = elim (cases_Bool (nat_le 1 size)) as (λ _. FitsSize (fitting size value)) [
  | inr f ↦ rw f tt
  | inl a ↦ elim (cases_Bool (nat_le size 64)) as (λ _. FitsSize (fitting size value)) [
    | inr f ↦ rw (a, f) tt
    | inl b ↦ elim (cases_Bool (nat_lt value (2 ^ size))) as (λ _. FitsSize (fitting size value)) [
      | inr f ↦ rw (a, b, f) tt
      | inl c ↦
          let least : 1 ≤ size = grind arith in
          let most : size ≤ 64 = grind arith in
          let below : value < 2 ^ size = grind arith in
          rw (a, b, c) (record { width = (least, most); fits = below })
    ]
  ]
]

base_fits : (size : ℕ) (base : Option ℕ) (digits : List ℕ) → FitsSize (in_base size base digits)
base_fits size None digits = tt
base_fits size (Some base) digits = elim (cases_Bool (is_numeral base digits)) as (λ _. FitsSize (in_base size (Some base) digits)) [
  | inl t ↦ rw t (fitting_fits size (value_of base digits))
  | inr f ↦ rw f tt
]

size_fits : (size : ℕ) (bytes : List ℕ) → FitsSize (of_size size bytes)
size_fits size [] = tt
size_fits size (tick ∷ []) = tt
size_fits size (tick ∷ base ∷ digits) = base_fits size (base_of base) digits

-- a token fits its size if it is a constant
abbrev pub IsSound : TokenKind → Type 0
IsSound k = (c : SizedNumber) → k ≡ kind.Sized c → IsConstant c

abbrev IsSoundLexeme : Lexeme → Type 0
IsSoundLexeme (Ok x) = IsSound x.0
IsSoundLexeme (Err e) = Unit {0}

clock_sound : (bytes : List ℕ) → IsSound (if bytes_eq bytes (codes "clk") then kind.Clock else kind.Name)
clock_sound bytes = elim (cases_Bool (bytes_eq bytes (codes "clk"))) as (λ _. IsSound (if bytes_eq bytes (codes "clk") then kind.Clock else kind.Name)) [
  | inl t ↦ rw t (λ c e. absurd (cc))
  | inr f ↦ rw f (λ c e. absurd (cc))
]

name_sound : (bytes : List ℕ) → IsSound (refused_or_name bytes)
name_sound bytes = elim (cases_Bool (is_refused_word bytes)) as (λ _. IsSound (refused_or_name bytes)) [
  | inl t ↦ rw t (λ c e. absurd (cc))
  | inr f ↦ rw f (clock_sound bytes)
]

keyword_sound : (bytes : List ℕ) (ws : List (List ℕ × Keyword)) (other : TokenKind) → IsSound other → IsSound (keyword_or bytes ws other)
keyword_sound bytes [] other h = h
keyword_sound bytes (w ∷ ws) other h = elim (cases_Bool (bytes_eq bytes w.0)) as (λ _. IsSound (keyword_or bytes (w ∷ ws) other)) [
  | inl t ↦ rw t (λ c e. absurd (cc))
  | inr f ↦ rw f (keyword_sound bytes ws other h)
]

word_sound : (bytes : List ℕ) (n : ℕ) → IsSoundLexeme (word_at bytes n)
word_sound bytes n = elim (cases_Bool (nat_lt 64 n)) as (λ _. IsSoundLexeme (word_at bytes n)) [
  | inl t ↦ rw t tt
  | inr f ↦ rw f (keyword_sound (take n bytes) keywords (refused_or_name (take n bytes)) (name_sound (take n bytes)))
]

plain_sound : (v n : ℕ) → IsSoundLexeme (plain_of v n)
plain_sound v n = elim (cases_Bool (nat_lt v (2 ^ 64))) as (λ _. IsSoundLexeme (plain_of v n)) [
  | inl t ↦ rw t (λ c e. absurd (cc))
  | inr f ↦ rw f tt
]

sized_sound : (o : Option SizedNumber) (n : ℕ) → FitsSize o → IsSoundLexeme (sized_of o n)
sized_sound None n h = tt
sized_sound (Some c) n h = λ d e. subst IsConstant (let same : kind.Sized c ≡ kind.Sized d = e in cc) h

number_sound : (bytes : List ℕ) (n m : ℕ) → IsSoundLexeme (number_at bytes n m)
number_sound bytes n m = elim (cases_Bool (is_tick_first (drop n bytes))) as (λ _. IsSoundLexeme (number_at bytes n m)) [
  | inl t ↦
      let run = take m bytes in
      rw t (sized_sound (constant_of run) m (size_fits (value_of 10 (take (prefix_len is_in_number run) run)) (drop (prefix_len is_in_number run) run)))
  | inr f ↦ rw f (plain_sound (value_of 10 (take n bytes)) n)
]

row_sound : (row : Option (List ℕ × Symbol)) → IsSoundLexeme (symbol_of row)
row_sound None = tt
row_sound (Some row) = λ c e. absurd (cc)

symbol_sound : (bytes : List ℕ) → IsSoundLexeme (symbol_here bytes)
symbol_sound bytes = elim (cases_Bool (starts_with nat_eq bytes (codes "/*"))) as (λ _. IsSoundLexeme (symbol_here bytes)) [
  | inl t ↦ rw t tt
  | inr f ↦ rw f (row_sound (find (λ row. starts_with nat_eq bytes row.0) symbols))
]

lexeme_sound : (a : ℕ) (bs : List ℕ) → IsSoundLexeme (lexeme a bs)
unfolding lexeme
lexeme_sound a bs = elim (cases_Bool (is_letter a)) as (λ _. IsSoundLexeme (lexeme a bs)) [
  | inl t ↦
      let e : lexeme a bs ≡ word_here (a ∷ bs) = rw t refl in
      subst IsSoundLexeme (sym e) (word_sound (a ∷ bs) (prefix_len is_word_byte (a ∷ bs)))
  | inr f ↦ elim (cases_Bool (is_digit a)) as (λ _. IsSoundLexeme (lexeme a bs)) [
    | inl t ↦
        let e : lexeme a bs ≡ number_here (a ∷ bs) = rw (f, t) refl in
        subst IsSoundLexeme (sym e) (number_sound (a ∷ bs) (prefix_len is_in_number (a ∷ bs)) (prefix_len is_in_constant (a ∷ bs)))
    | inr g ↦
        let e : lexeme a bs ≡ symbol_here (a ∷ bs) = rw (f, g) refl in
        subst IsSoundLexeme (sym e) (symbol_sound (a ∷ bs))
  ]
]

abbrev pub AllSound : List Token → Type 0
AllSound [] = Unit {0}
AllSound (t ∷ ts) = IsSound t.kind × AllSound ts

pub tokens_sound : {total : ℕ} {text : List ℕ} {ts : List Token} → Lexes total text ts → AllSound ts
tokens_sound (finish g) = (λ c e. absurd (cc), tt)
tokens_sound (next {bs = bs} {a = a} g s l ls) = (subst IsSoundLexeme l (lexeme_sound a bs), tokens_sound ls)
