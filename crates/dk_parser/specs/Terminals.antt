-- What the grammar sees of a token.
use Rattle.std.specs.Prelude.{ℕ, List, Option, Some, None, slice_get}
use Rattle.dk_base.specs.declared.ty.Ty.{Ty}
use Rattle.source_words.specs.declared.word.Keyword.{Keyword}
use Rattle.source_words.specs.Words.{keyword_of, type_of_word}
use Rattle.dk_lexer.specs.declared.token.Token.{Token}
use Rattle.dk_lexer.specs.declared.token.TokenKind.{TokenKind}
use Rattle.dk_lexer.specs.declared.token.TokenKind.TheVariants.{Word, Number, Symbol, End}
use Rattle.dk_parser.specs.declared.terminal.Terminal.{Terminal}
use Rattle.dk_parser.specs.declared.terminal.Terminal.TheVariants.{Keyword as Keyword', TypeWord as Type', Name as Name', Number as Number', Symbol as Sym, EndOfText}

-- a reserved word, or else a type word, or else a name
abbrev pub word_terminal : Option Keyword → Option Ty → Terminal
word_terminal (Some k) ty = Keyword' k
word_terminal None (Some t) = Type' t
word_terminal None None = Name'

abbrev pub terminal_of_word : List ℕ → Terminal
terminal_of_word bytes = word_terminal (keyword_of bytes) (type_of_word bytes)

unfoldable pub terminal_of : TokenKind → Terminal
terminal_of (Word t) = terminal_of_word t
terminal_of (Number v) = Number' v
terminal_of (Symbol s) = Sym s
terminal_of End = EndOfText

abbrev pub terminal : Token → Terminal
terminal tok = terminal_of tok.kind

-- what the grammar sees of the token at a place: the end of the text if there is none
abbrev pub terminal_of_found : Option Token → Terminal
terminal_of_found None = EndOfText
terminal_of_found (Some tok) = terminal tok

abbrev pub terminal_at : List Token → ℕ → Terminal
terminal_at tokens place = terminal_of_found (slice_get tokens place)
