-- No lexeme is the end of the text.
use Rattle.std.proofs.Common.{◌≡◌, ◌≢◌, ℕ, ◌^◌, List, [], ◌∷◌, take, drop, Option, Some, None, Ok, Err, nat_lt, nat_eq, refl, sym, subst, inl, inr, if◌then◌else◌}
use Rattle.std.specs.List.{prefix_len, find, starts_with}
use Rattle.std.proofs.lemmas.Bool.{cases_Bool}
use Rattle.net_names.specs.Words.{is_letter, is_digit, is_word_byte, is_refused_word}
use Rattle.std.specs.Str.{bytes_eq}
use Rattle.wiring.specs.Sizes.{SizedNumber}
use Rattle.verilog_text.specs.declared.token.Keyword.{Keyword}
use Rattle.verilog_text.specs.declared.token.Symbol.{Symbol}
use Rattle.verilog_text.specs.declared.token.TokenKind.{TokenKind}
use Rattle.verilog_text.specs.declared.token.TokenKind.TheVariants as kind
use Rattle.verilog_text.specs.Bytes.{is_in_number, is_in_constant, value_of, constant_of, symbols, keywords, keyword_or, refused_or_name}
use Rattle.verilog_text.specs.Lexis.{Lexeme, lexeme, word_at, plain_of, sized_of, number_at, number_here, word_here, is_tick_first, symbol_of, symbol_here}
use Rattle.std.proofs.Common.{codes}

-- a fault is none
abbrev IsNoEnd : Lexeme → Type 0
IsNoEnd (Ok x) = x.0 ≢ kind.End
IsNoEnd (Err e) = Unit {0}

clock_is : (bytes : List ℕ) → (if bytes_eq bytes (codes "clk") then kind.Clock else kind.Name) ≢ kind.End
clock_is bytes = elim (cases_Bool (bytes_eq bytes (codes "clk"))) as (λ _. (if bytes_eq bytes (codes "clk") then kind.Clock else kind.Name) ≢ kind.End) [
  | inl t ↦ rw t (λ e. cc)
  | inr f ↦ rw f (λ e. cc)
]

name_is : (bytes : List ℕ) → refused_or_name bytes ≢ kind.End
name_is bytes = elim (cases_Bool (is_refused_word bytes)) as (λ _. refused_or_name bytes ≢ kind.End) [
  | inl t ↦ rw t (λ e. cc)
  | inr f ↦ rw f (clock_is bytes)
]

keyword_is : (bytes : List ℕ) (ws : List (List ℕ × Keyword)) (other : TokenKind) → other ≢ kind.End → keyword_or bytes ws other ≢ kind.End
keyword_is bytes [] other h = h
keyword_is bytes (w ∷ ws) other h = elim (cases_Bool (bytes_eq bytes w.0)) as (λ _. keyword_or bytes (w ∷ ws) other ≢ kind.End) [
  | inl t ↦ rw t (λ e. cc)
  | inr f ↦ rw f (keyword_is bytes ws other h)
]

word_is : (bytes : List ℕ) (n : ℕ) → IsNoEnd (word_at bytes n)
word_is bytes n = elim (cases_Bool (nat_lt 64 n)) as (λ _. IsNoEnd (word_at bytes n)) [
  | inl t ↦ rw t tt
  | inr f ↦ rw f (keyword_is (take n bytes) keywords (refused_or_name (take n bytes)) (name_is (take n bytes)))
]

plain_is : (v n : ℕ) → IsNoEnd (plain_of v n)
plain_is v n = elim (cases_Bool (nat_lt v (2 ^ 64))) as (λ _. IsNoEnd (plain_of v n)) [
  | inl t ↦ rw t (λ e. cc)
  | inr f ↦ rw f tt
]

sized_is : (o : Option SizedNumber) (n : ℕ) → IsNoEnd (sized_of o n)
sized_is None n = tt
sized_is (Some c) n = λ e. cc

number_is : (bytes : List ℕ) (n m : ℕ) → IsNoEnd (number_at bytes n m)
number_is bytes n m = elim (cases_Bool (is_tick_first (drop n bytes))) as (λ _. IsNoEnd (number_at bytes n m)) [
  | inl t ↦ rw t (sized_is (constant_of (take m bytes)) m)
  | inr f ↦ rw f (plain_is (value_of 10 (take n bytes)) n)
]

row_is : (row : Option (List ℕ × Symbol)) → IsNoEnd (symbol_of row)
row_is None = tt
row_is (Some row) = λ e. cc

symbol_is : (bytes : List ℕ) → IsNoEnd (symbol_here bytes)
symbol_is bytes = elim (cases_Bool (starts_with nat_eq bytes (codes "/*"))) as (λ _. IsNoEnd (symbol_here bytes)) [
  | inl t ↦ rw t tt
  | inr f ↦ rw f (row_is (find (λ row. starts_with nat_eq bytes row.0) symbols))
]

lexeme_is : (a : ℕ) (bs : List ℕ) → IsNoEnd (lexeme a bs)
unfolding lexeme
lexeme_is a bs = elim (cases_Bool (is_letter a)) as (λ _. IsNoEnd (lexeme a bs)) [
  | inl t ↦
      let e : lexeme a bs ≡ word_here (a ∷ bs) = rw t refl in
      subst IsNoEnd (sym e) (word_is (a ∷ bs) (prefix_len is_word_byte (a ∷ bs)))
  | inr f ↦ elim (cases_Bool (is_digit a)) as (λ _. IsNoEnd (lexeme a bs)) [
    | inl t ↦
        let e : lexeme a bs ≡ number_here (a ∷ bs) = rw (f, t) refl in
        subst IsNoEnd (sym e) (number_is (a ∷ bs) (prefix_len is_in_number (a ∷ bs)) (prefix_len is_in_constant (a ∷ bs)))
    | inr g ↦
        let e : lexeme a bs ≡ symbol_here (a ∷ bs) = rw (f, g) refl in
        subst IsNoEnd (sym e) (symbol_is (a ∷ bs))
  ]
]

pub no_end : (a n : ℕ) (bs : List ℕ) (k : TokenKind) → lexeme a bs ≡ Ok (k, n) → k ≢ kind.End
no_end a n bs k e = subst IsNoEnd e (lexeme_is a bs)
