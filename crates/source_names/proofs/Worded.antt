-- The names of a program's tree are names of the source language.
use Rattle.std.proofs.Common.{◌≡◌, ℕ, ◌≤◌, Bool, true, false, List, length, Option, Some, None, refl, sym, ap, subst, arith}
use Rattle.std.specs.Prelude.{◌&&◌, nat_le, is_none}
use Rattle.std.proofs.lemmas.Bool.Decides.{nat_tests}
use Rattle.dk_base.specs.declared.span.Span.{Span}
use Rattle.dk_base.specs.declared.ty.Ty.{Ty}
use Rattle.dk_lexer.specs.declared.token.Token.{Token}
use Rattle.dk_lexer.specs.declared.token.TokenKind.{TokenKind}
use Rattle.dk_lexer.specs.declared.token.TokenKind.TheVariants.{Word, Number, Symbol, End}
use Rattle.source_words.specs.declared.word.Keyword.{Keyword}
use Rattle.source_words.specs.Words.{is_word, keyword_of, type_of_word, is_name}
use Rattle.dk_parser.specs.declared.terminal.Terminal.{Terminal}
use Rattle.dk_parser.specs.declared.terminal.Terminal.TheVariants.{Keyword as Keyword', TypeWord as Type', Name as Name', Number as Number', Symbol as Sym, EndOfText}
use Rattle.dk_parser.specs.declared.tree.Name.{Name}
use Rattle.dk_parser.specs.Terminals.{word_terminal, terminal_of_word, terminal_of}
use Rattle.dk_parser.specs.Words.{name_at, spelling, name}
use Rattle.source_names.proofs.Spelled.{IsSpelled}

-- a word that is a name is neither a reserved word nor a type word
neither : (k : Option Keyword) (t : Option Ty) → word_terminal k t ≡ Name' → (is_none k && is_none t) ≡ true
neither (Some k) t e = absurd (let x : ⊥ = cc in x)
neither None (Some t) e = absurd (let x : ⊥ = cc in x)
neither None None e = refl

short : (n : ℕ) → n ≤ 64 → nat_le n 64 ≡ true
short n le = grind (arith, nat_tests)

word_named : (t : List ℕ) → is_word t ≡ true → length t ≤ 64 → terminal_of_word t ≡ Name' → is_name t ≡ true
word_named t word most h = and_four (is_word t) (nat_le (length t) 64) (is_none (keyword_of t)) (is_none (type_of_word t)) word (short (length t) most) (neither (keyword_of t) (type_of_word t) h)
  where
    and_four : (a b c d : Bool) → a ≡ true → b ≡ true → (c && d) ≡ true → (a && b && c && d) ≡ true
    and_four true true true true p q r = refl
    and_four false b c d p q r = absurd (let x : ⊥ = cc in x)
    and_four true false c d p q r = absurd (let x : ⊥ = cc in x)
    and_four true true false d p q r = absurd (let x : ⊥ = cc in x)
    and_four true true true false p q r = absurd (let x : ⊥ = cc in x)

word_at_name : (t : List ℕ) (s : Span) (n : Name) (x : Terminal) → terminal_of_word t ≡ x → name_at x s t ≡ Some n → (x ≡ Name') × (n.text ≡ t)
word_at_name t s n Name' e h = (refl, (let same : (let m : Name = record { span = s; text = t } in m) ≡ n = cc in ap (λ (m : Name). m.text) (sym same)))
word_at_name t s n (Keyword' k) e h = absurd (let x : ⊥ = cc in x)
word_at_name t s n (Type' u) e h = absurd (let x : ⊥ = cc in x)
word_at_name t s n (Number' v) e h = absurd (let x : ⊥ = cc in x)
word_at_name t s n (Sym u) e h = absurd (let x : ⊥ = cc in x)
word_at_name t s n EndOfText e h = absurd (let x : ⊥ = cc in x)

kind_named : (kind : TokenKind) (s : Span) (n : Name) → IsSpelled kind → name_at (terminal_of kind) s (spelling kind) ≡ Some n → is_name n.text ≡ true
unfolding terminal_of
kind_named (Word t) s n is h =
    let here = word_at_name t s n (terminal_of_word t) refl h in
    subst (λ b. is_name b ≡ true) (sym here.1) (word_named t is.0 is.1 here.0)
kind_named (Number v) s n is h = absurd (let x : ⊥ = cc in x)
kind_named (Symbol u) s n is h = absurd (let x : ⊥ = cc in x)
kind_named End s n is h = absurd (let x : ⊥ = cc in x)

-- the name of a token is one of the source language
pub token_named : (tok : Token) (n : Name) → IsSpelled tok.kind → name tok ≡ Some n → is_name n.text ≡ true
token_named tok n is h = kind_named tok.kind tok.span n is h
