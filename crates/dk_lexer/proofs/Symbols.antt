-- The first row of the table that a text begins with, as look-ups: of two bytes, else of one.
use Rattle.std.proofs.Common.{◌≡◌, ℕ, List, [], ◌∷◌, take, drop, Option, Some, None, Ok, Err, refl, ap, ◌∙◌}
use Rattle.std.specs.Map.{lookup}
use Rattle.std.specs.Str.{bytes_eq}
use Rattle.dk_grammar.proofs.Spellings.{met, one_met, two_met, at_two, at_last}
use Rattle.dk_lexer.specs.declared.token.Symbol.{Symbol}
use Rattle.dk_lexer.specs.declared.token.TokenKind.TheVariants.{Symbol as Sym}
use Rattle.dk_lexer.specs.declared.fault.LexKind.TheVariants.{BadByte}
use Rattle.dk_lexer.specs.Bytes.{symbols}
use Rattle.dk_lexer.specs.Lexis.{Lexeme, symbol_of, symbol_here}

-- the lexeme of what a text begins with
abbrev lexeme_of : Option (Symbol × ℕ) → Lexeme
lexeme_of None = Err (BadByte, 1)
lexeme_of (Some x) = Ok (Sym x.0, x.1)

abbrev pub one_lexeme : Option Symbol → Lexeme
one_lexeme None = Err (BadByte, 1)
one_lexeme (Some s) = Ok (Sym s, 1)

as_met : (row : Option (List ℕ × Symbol)) → symbol_of row ≡ lexeme_of (met row)
as_met None = refl
as_met (Some row) = refl

as_one : (o : Option Symbol) → lexeme_of (one_met o) ≡ one_lexeme o
as_one None = refl
as_one (Some s) = refl

-- what two look-ups give at two bytes
abbrev look_up : (a b : ℕ) → Option Symbol → Lexeme
look_up a b two = lexeme_of (two_met two (lookup (bytes_eq (a ∷ [])) symbols))

before : (a b : ℕ) (bs : List ℕ) → symbol_here (a ∷ b ∷ bs) ≡ look_up a b (lookup (bytes_eq (a ∷ b ∷ [])) symbols)
before a b bs = as_met _ ∙ ap lexeme_of (at_two a b bs (take 6 symbols) (drop 6 symbols) refl refl)

-- two bytes that are a spelling
pub is_two : (a b : ℕ) (after rest : List ℕ) (s : Symbol) → after ≡ b ∷ rest → lookup (bytes_eq (a ∷ b ∷ [])) symbols ≡ Some s → symbol_here (a ∷ after) ≡ Ok (Sym s, 2)
is_two a b after rest s e h = rw e (before a b rest ∙ ap (look_up a b) h)

-- no two bytes that are one
pub is_one_before : (a b : ℕ) (after rest : List ℕ) → after ≡ b ∷ rest → lookup (bytes_eq (a ∷ b ∷ [])) symbols ≡ None → symbol_here (a ∷ after) ≡ one_lexeme (lookup (bytes_eq (a ∷ [])) symbols)
is_one_before a b after rest e h = rw e (before a b rest ∙ ap (look_up a b) h ∙ as_one _)

pub is_one_last : (a : ℕ) (after : List ℕ) → after ≡ [] → symbol_here (a ∷ after) ≡ one_lexeme (lookup (bytes_eq (a ∷ [])) symbols)
is_one_last a after e = rw e (as_met _ ∙ ap lexeme_of (at_last a (take 6 symbols) (drop 6 symbols) refl refl) ∙ as_one _)
