-- A token has a byte, so a text has at most one token more than bytes.
use Rattle.std.proofs.Common.{◌≡◌, ℕ, suc, ◌≤◌, ◌<◌, ◌^◌, List, [], ◌∷◌, length, take, drop, Option, Some, None, Ok, Err, nat_lt, nat_eq, ◌&&◌, Bool, true, false, codes, refl, sym, subst, arith, length-drop, inl, inr}
use Rattle.std.specs.List.{prefix_len, find, list_all, starts_with}
use Rattle.std.proofs.lemmas.Bool.{cases_Bool}
use Rattle.wiring.specs.Sizes.{SizedNumber}
use Rattle.verilog_text.specs.declared.token.Symbol.{Symbol}
use Rattle.verilog_text.specs.declared.token.Token.{Token}
use Rattle.verilog_text.specs.Bytes.{is_in_number, is_in_constant, value_of, constant_of, symbols}
use Rattle.net_names.specs.Words.{is_letter, is_digit, is_word_byte}
use Rattle.verilog_text.specs.Lexis.{Lexes, finish, next, Lexeme, lexeme, word_at, plain_of, sized_of, number_at, number_here, word_here, is_tick_first, symbol_of, symbol_here}
use Rattle.verilog_lexer.proofs.Gaps.{gap_fewer}
use Rattle.verilog_lexer.proofs.Runs.{word_run, number_run, constant_run}

-- the bytes of a lexeme; a fault is not asked
abbrev pub bytes_of : Lexeme → ℕ
bytes_of (Ok x) = x.1
bytes_of (Err e) = 1

word_has : (bytes : List ℕ) (n : ℕ) → 0 < n → 0 < bytes_of (word_at bytes n)
word_has bytes n h = elim (cases_Bool (nat_lt 64 n)) as (λ _. 0 < bytes_of (word_at bytes n)) [
  | inl t ↦ rw t (omega arith)
  | inr f ↦ rw f h
]

plain_has : (v n : ℕ) → 0 < n → 0 < bytes_of (plain_of v n)
plain_has v n h = elim (cases_Bool (nat_lt v (2 ^ 64))) as (λ _. 0 < bytes_of (plain_of v n)) [
  | inl t ↦ rw t h
  | inr f ↦ rw f (omega arith)
]

sized_has : (o : Option SizedNumber) (n : ℕ) → 0 < n → 0 < bytes_of (sized_of o n)
sized_has None n h = omega arith
sized_has (Some c) n h = h

number_has : (bytes : List ℕ) (n m : ℕ) → 0 < n → 0 < m → 0 < bytes_of (number_at bytes n m)
number_has bytes n m h k = elim (cases_Bool (is_tick_first (drop n bytes))) as (λ _. 0 < bytes_of (number_at bytes n m)) [
  | inl t ↦ rw t (sized_has (constant_of (take m bytes)) m k)
  | inr f ↦ rw f (plain_has (value_of 10 (take n bytes)) n h)
]

-- each spelling has a byte
and_parts : (a b : Bool) → (a && b) ≡ true → (a ≡ true) × (b ≡ true)
and_parts true b h = (refl, h)
and_parts false b h = absurd (cc)

some_bytes : (n : ℕ) → nat_lt 0 n ≡ true → 0 < n
some_bytes n h = grind arith

row_has : (rows : List (List ℕ × Symbol)) (p : (List ℕ × Symbol) → Bool) → list_all (λ row. nat_lt 0 (length row.0)) rows ≡ true → 0 < bytes_of (symbol_of (find p rows))
row_has [] p h = omega arith
row_has (row ∷ rows) p h =
    let parts = and_parts (nat_lt 0 (length row.0)) (list_all (λ r. nat_lt 0 (length r.0)) rows) h in
    elim (cases_Bool (p row)) as (λ _. 0 < bytes_of (symbol_of (find p (row ∷ rows)))) [
      | inl t ↦ rw t (some_bytes (length row.0) parts.0)
      | inr f ↦ rw f (row_has rows p parts.1)
    ]

symbol_has : (bytes : List ℕ) → 0 < bytes_of (symbol_here bytes)
symbol_has bytes = elim (cases_Bool (starts_with nat_eq bytes (codes "/*"))) as (λ _. 0 < bytes_of (symbol_here bytes)) [
  | inl t ↦ rw t (omega arith)
  | inr f ↦ rw f (row_has symbols (λ row. starts_with nat_eq bytes row.0) refl)
]

pub lexeme_has : (a : ℕ) (bs : List ℕ) → 0 < bytes_of (lexeme a bs)
unfolding lexeme
lexeme_has a bs = elim (cases_Bool (is_letter a)) as (λ _. 0 < bytes_of (lexeme a bs)) [
  | inl t ↦
      let e : lexeme a bs ≡ word_here (a ∷ bs) = rw t refl in
      subst (λ x. 0 < bytes_of x) (sym e) (word_has (a ∷ bs) (prefix_len is_word_byte (a ∷ bs)) (word_run a bs t))
  | inr f ↦ elim (cases_Bool (is_digit a)) as (λ _. 0 < bytes_of (lexeme a bs)) [
    | inl t ↦
        let e : lexeme a bs ≡ number_here (a ∷ bs) = rw (f, t) refl in
        subst (λ x. 0 < bytes_of x) (sym e) (number_has (a ∷ bs) (prefix_len is_in_number (a ∷ bs)) (prefix_len is_in_constant (a ∷ bs)) (number_run a bs t) (constant_run a bs t))
    | inr g ↦
        let e : lexeme a bs ≡ symbol_here (a ∷ bs) = rw (f, g) refl in
        subst (λ x. 0 < bytes_of x) (sym e) (symbol_has (a ∷ bs))
  ]
]

pub few_tokens : {total : ℕ} {text : List ℕ} {ts : List Token} → Lexes total text ts → length ts ≤ suc (length text)
few_tokens (finish g) = omega arith
few_tokens (next {bs = bs} {a = a} {n = n} g s k l) =
    let p : 0 < n = subst (λ x. 0 < bytes_of x) k (lexeme_has a bs) in
    let f = gap_fewer g in
    let h = few_tokens l in
    omega (arith, f, h, p, length-drop n (a ∷ bs))
