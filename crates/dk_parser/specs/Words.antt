-- Single tokens of the grammar.
use Rattle.std.specs.Prelude.{◌≡◌, ℕ, List, [], Option, Some, None, Bool, true, false}
use Rattle.dk_base.specs.declared.span.Span.{Span}
use Rattle.dk_lexer.specs.declared.token.Token.{Token}
use Rattle.dk_lexer.specs.declared.token.TokenKind.{TokenKind}
use Rattle.dk_lexer.specs.declared.token.TokenKind.TheVariants.{Word}
use Rattle.dk_lexer.specs.declared.token.Symbol.TheVariants.{Plus, Minus}
use Rattle.dk_grammar.specs.Reading.{Phrases, One}
use Rattle.dk_parser.specs.declared.terminal.Terminal.{Terminal}
use Rattle.dk_parser.specs.declared.terminal.Terminal.TheVariants.{TypeWord as Type', Name as Name', Number as Number', Symbol as Sym}
use Rattle.dk_parser.specs.declared.terminal.Mark.{Mark}
use Rattle.dk_parser.specs.declared.tree.Literal.{Literal}
use Rattle.dk_parser.specs.declared.tree.Name.{Name}
use Rattle.dk_parser.specs.declared.tree.TypeWord.{TypeWord}
use Rattle.dk_parser.specs.Marks.{mark_terminal}
use Rattle.dk_parser.specs.Terminals.{terminal}

-- from the start of one span to the end of another
abbrev pub over : Span → Span → Span
over a b = record { start = a.start; stop = b.stop }

-- the bytes of a word
abbrev pub spelling : TokenKind → List ℕ
spelling (Word t) = t
spelling _ = []

abbrev pub name_at : Terminal → Span → List ℕ → Option Name
name_at Name' s t = Some (record { span = s; text = t })
name_at _ s t = None

abbrev pub literal_at : Terminal → Span → Option Literal
literal_at (Number' v) s = Some (record { span = s; value = v })
literal_at _ s = None

abbrev pub type_at : Terminal → Span → Option TypeWord
type_at (Type' t) s = Some (record { span = s; ty = t })
type_at _ s = None

abbrev pub name : Token → Option Name
name t = name_at (terminal t) t.span (spelling t.kind)

abbrev pub literal : Token → Option Literal
literal t = literal_at (terminal t) t.span

abbrev pub type_word : Token → Option TypeWord
type_word t = type_at (terminal t) t.span

-- a token for which the function has a value
abbrev pub Gives : {V : Type 0} → (Token → Option V) → Token → V → Type 0
Gives f t v = f t ≡ Some v

-- a token of one spelling, and its span
abbrev pub IsMark : Mark → Token → Span → Type 0
IsMark m t s = (terminal t ≡ mark_terminal m) × (t.span ≡ s)

abbrev pub Sign : Mark → Phrases Token Span
Sign m = One (IsMark m)

abbrev pub AName : Phrases Token Name
AName = One (Gives name)

abbrev pub ALiteral : Phrases Token Literal
ALiteral = One (Gives literal)

abbrev pub AType : Phrases Token TypeWord
AType = One (Gives type_word)

-- whether a sign is a minus
abbrev pub sign_of : Terminal → Option Bool
sign_of (Sym Plus) = Some false
sign_of (Sym Minus) = Some true
sign_of _ = None
