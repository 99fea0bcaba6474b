-- The first row of the table that a text begins with, as look-ups: of two bytes, else of one.
use Rattle.std.proofs.Common.{◌≡◌, ℕ, List, [], ◌∷◌, take, drop, Option, Some, None, Ok, Err, Bool, true, false, nat_eq, ◌&&◌, codes, arith, refl, sym, ap, ◌∙◌, if◌then◌else◌}
use Rattle.std.specs.List.{starts_with}
use Rattle.std.specs.Map.{lookup}
use Rattle.std.specs.Str.{bytes_eq}
use Rattle.dk_grammar.proofs.Spellings.{met, one_met, two_met, at_two, at_last}
use Rattle.verilog_text.specs.declared.token.Symbol.{Symbol}
use Rattle.verilog_text.specs.declared.token.TokenKind.TheVariants.{Symbol as Sym}
use Rattle.verilog_text.specs.declared.token.LexKind.TheVariants.{BadByte}
use Rattle.verilog_text.specs.Bytes.{symbols}
use Rattle.verilog_text.specs.Lexis.{Lexeme, symbol_of, symbol_here}

-- the lexeme of what a text begins with
abbrev lexeme_of : Option (Symbol × ℕ) → Lexeme
lexeme_of None = Err (BadByte, 1)
lexeme_of (Some x) = Ok (Sym x.0, x.1)

abbrev pub one_lexeme : Option Symbol → Lexeme
one_lexeme None = Err (BadByte, 1)
one_lexeme (Some s) = Ok (Sym s, 1)

as_met : (row : Option (List ℕ × Symbol)) → symbol_of row ≡ lexeme_of (met row)
as_met None = refl
as_met (Some row) = refl

as_one : (o : Option Symbol) → lexeme_of (one_met o) ≡ one_lexeme o
as_one None = refl
as_one (Some s) = refl

-- what two look-ups give at two bytes
abbrev look_up : (a b : ℕ) → Option Symbol → Lexeme
look_up a b two = lexeme_of (two_met two (lookup (bytes_eq (a ∷ [])) symbols))

no_open : (a b : ℕ) (bs : List ℕ) → (nat_eq a 47 && nat_eq b 42) ≡ false → starts_with nat_eq (a ∷ b ∷ bs) (codes "/*") ≡ false
no_open a b bs h = let e : (nat_eq 47 a && (nat_eq 42 b && true)) ≡ false = grind arith in e

not_open : (o : Bool) (x y : Lexeme) → o ≡ false → (if o then x else y) ≡ y
not_open true x y e = absurd (cc)
not_open false x y e = refl

before : (a b : ℕ) (bs : List ℕ) → (nat_eq a 47 && nat_eq b 42) ≡ false → symbol_here (a ∷ b ∷ bs) ≡ look_up a b (lookup (bytes_eq (a ∷ b ∷ [])) symbols)
before a b bs n = not_open _ _ _ (no_open a b bs n) ∙ as_met _ ∙ ap lexeme_of (at_two a b bs (take 2 symbols) (drop 2 symbols) refl refl)

-- a comment without its end
pub is_open : (a b : ℕ) (after rest : List ℕ) → after ≡ b ∷ rest → true ≡ (nat_eq a 47 && nat_eq b 42) → symbol_here (a ∷ after) ≡ Err (BadByte, 1)
is_open a b after rest e h =
    let first : a ≡ 47 = grind arith in
    let second : b ≡ 42 = grind arith in
    rw (e, first, second) refl

-- two bytes that are a spelling
pub is_two : (a b : ℕ) (after rest : List ℕ) (s : Symbol) → after ≡ b ∷ rest → false ≡ (nat_eq a 47 && nat_eq b 42) → lookup (bytes_eq (a ∷ b ∷ [])) symbols ≡ Some s
    → symbol_here (a ∷ after) ≡ Ok (Sym s, 2)
is_two a b after rest s e n h = rw e (before a b rest (sym n) ∙ ap (look_up a b) h)

-- no two bytes that are one
pub is_one_before : (a b : ℕ) (after rest : List ℕ) → after ≡ b ∷ rest → false ≡ (nat_eq a 47 && nat_eq b 42) → lookup (bytes_eq (a ∷ b ∷ [])) symbols ≡ None
    → symbol_here (a ∷ after) ≡ one_lexeme (lookup (bytes_eq (a ∷ [])) symbols)
is_one_before a b after rest e n h = rw e (before a b rest (sym n) ∙ ap (look_up a b) h ∙ as_one _)

last_open : (a : ℕ) (o : Bool) → nat_eq 47 a ≡ o → starts_with nat_eq (a ∷ []) (codes "/*") ≡ false
last_open a true e = rw e refl
last_open a false e = rw e refl

pub is_one_last : (a : ℕ) (after : List ℕ) → after ≡ [] → symbol_here (a ∷ after) ≡ one_lexeme (lookup (bytes_eq (a ∷ [])) symbols)
is_one_last a after e = rw e (not_open _ _ _ (last_open a _ refl) ∙ as_met _ ∙ ap lexeme_of (at_last a (take 2 symbols) (drop 2 symbols) refl refl) ∙ as_one _)
