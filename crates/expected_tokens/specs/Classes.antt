-- Classes of tokens, and a token of each.
use Rattle.std.specs.Prelude.{List, [], ◌∷◌, ◌++◌, map, codes}
use Rattle.dk_base.specs.declared.span.Span.{Span}
use Rattle.dk_lexer.specs.declared.token.Symbol.TheVariants as sign
use Rattle.dk_lexer.specs.declared.token.Token.{Token}
use Rattle.dk_lexer.specs.declared.token.TokenKind.{TokenKind}
use Rattle.dk_lexer.specs.declared.token.TokenKind.TheVariants as kind
use Rattle.source_words.specs.Words.{spelling_of, keywords}
use Rattle.dk_parser.specs.declared.terminal.Terminal.{Terminal}
use Rattle.dk_parser.specs.declared.terminal.Terminal.TheVariants as terminal
use Rattle.expected_tokens.specs.declared.class.TokenClass.{TokenClass}
use Rattle.expected_tokens.specs.declared.class.TokenClass.TheVariants as class

-- the class of a token that the grammar sees so
abbrev pub class_of : Terminal → TokenClass
class_of (terminal.Keyword k) = class.Keyword k
class_of (terminal.TypeWord t) = class.Type
class_of terminal.Name = class.Name
class_of (terminal.Number v) = class.Number
class_of (terminal.Symbol s) = class.Symbol s
class_of terminal.EndOfText = class.EndOfText

-- the keyword itself, the type `u8`, the name `a`, the number 1, the symbol itself, the end
abbrev pub sample_kind : TokenClass → TokenKind
sample_kind (class.Keyword k) = kind.Word (spelling_of k)
sample_kind class.Type = kind.Word (codes "u8")
sample_kind class.Name = kind.Word (codes "a")
sample_kind class.Number = kind.Number 1
sample_kind (class.Symbol s) = kind.Symbol s
sample_kind class.EndOfText = kind.End

-- Spans that no token of a text has: of the token that is tried, and of the end after it.
abbrev pub tried_span : Span
tried_span = record { start = 1; stop = 0 }

abbrev pub behind_span : Span
behind_span = record { start = 2; stop = 0 }

-- the token with which a class is tried
abbrev pub sample : TokenClass → Token
sample c = record { span = tried_span; kind = sample_kind c }

-- the end after it, if it is not the end itself
abbrev pub behind : TokenClass → List Token
behind class.EndOfText = []
behind _ = record { span = behind_span; kind = kind.End } ∷ []

-- the classes that are no keywords: a type, a name, a number, symbols, the end of the text
abbrev pub others : List TokenClass
others =
    class.Type ∷ class.Name ∷ class.Number ∷ class.Symbol sign.Open
    ∷ class.Symbol sign.Close ∷ class.Symbol sign.Comma ∷ class.Symbol sign.Colon ∷ class.Symbol sign.Equal ∷ class.Symbol sign.Plus ∷ class.Symbol sign.Minus ∷ class.Symbol sign.Star
    ∷ class.Symbol sign.Slash ∷ class.Symbol sign.ShiftLeft ∷ class.Symbol sign.ShiftRight ∷ class.Symbol sign.Less ∷ class.Symbol sign.LessEqual ∷ class.Symbol sign.Greater ∷ class.Symbol sign.GreaterEqual
    ∷ class.Symbol sign.EqualEqual ∷ class.Symbol sign.NotEqual ∷ class.Symbol sign.Ampersand ∷ class.Symbol sign.Caret ∷ class.Symbol sign.Bar ∷ class.Symbol sign.Bang ∷ class.EndOfText ∷ []

-- all classes: keywords, and then the others
abbrev pub classes : List TokenClass
classes = map class.Keyword keywords ++ others
