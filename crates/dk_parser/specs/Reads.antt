-- Reads of images.
use Rattle.std.specs.Prelude.{◌≡◌, List, ◌∷◌, Option, Some, None, true, false}
use Rattle.dk_base.specs.declared.span.Span.{Span}
use Rattle.dk_lexer.specs.declared.token.Token.{Token}
use Rattle.dk_lexer.specs.declared.token.Symbol.TheVariants.{Open, Close, Comma}
use Rattle.dk_grammar.specs.Reading.{Phrases, One, Then, Done}
use Rattle.source_words.specs.declared.word.Keyword.TheVariants.{X, Y, Edge, Clamp}
use Rattle.dk_parser.specs.declared.terminal.Terminal.TheVariants.{Keyword}
use Rattle.dk_parser.specs.declared.terminal.Mark.{Mark}
use Rattle.dk_parser.specs.declared.terminal.Mark.TheVariants as mark
use Rattle.dk_parser.specs.declared.single.Turn.{Turn}
use Rattle.dk_parser.specs.declared.single.Turn.TheVariants as turn
use Rattle.dk_parser.specs.declared.tree.ImageRead.{ImageRead}
use Rattle.dk_parser.specs.declared.tree.Name.{Name}
use Rattle.dk_parser.specs.declared.tree.Offset.{Offset}
use Rattle.dk_parser.specs.Marks.{mark_terminal}
use Rattle.dk_parser.specs.Terminals.{terminal}
use Rattle.dk_parser.specs.Tree.{Tree, read}
use Rattle.dk_parser.specs.Words.{over, Sign, AName, ALiteral, sign_of}

-- a token that is the mark, or the sign of a number before it
abbrev pub Turns : Mark → Token → Turn → Type 0
Turns m t (turn.Mark s) = (terminal t ≡ mark_terminal m) × (t.span ≡ s)
Turns m t (turn.Signed b) = sign_of (terminal t) ≡ Some b

abbrev pub AfterTurn : Mark → Turn → Phrases Token (Option Offset × Span)
AfterTurn m (turn.Mark s) = Done (None, s)
AfterTurn m (turn.Signed b) = Then ALiteral (λ n. Then (Sign m) (λ s. Done (Some (record { negative = b; amount = n }), s)))

-- [("+" | "-") NUMBER] mark
abbrev pub Moved : Mark → Phrases Token (Option Offset × Span)
Moved m = Then (One (Turns m)) (λ t. AfterTurn m t)

-- "(" "x" [("+" | "-") NUMBER] "," "y" [("+" | "-") NUMBER] ")"
abbrev pub Point : Name → Phrases Token (Span × ImageRead)
Point n =
    Then (Sign (mark.Sign Open)) (λ _. Then (Sign (mark.Reserved X)) (λ _. Then (Moved (mark.Sign Comma)) (λ x.
    Then (Sign (mark.Reserved Y)) (λ _. Then (Moved (mark.Sign Close)) (λ y.
    Done (over n.span y.1, record { name = n; x = x.0; y = y.0; clamped = false }))))))

-- NAME, and the point that is read
abbrev pub Unclamped : Phrases Token (Span × ImageRead)
Unclamped = Then AName (λ n. Point n)

-- the read of the nearest point of the frame
abbrev pub clamped_of : ImageRead → ImageRead
clamped_of r = record { name = r.name; x = r.x; y = r.y; clamped = true }

-- a read, with `edge clamp` after it or with none
pub data Reads : List Token → Tree → List Token → Type 0 where
  plain : {ts rest : List Token} {r : Span × ImageRead} → Unclamped ts r rest → Reads ts (read r.0 r.1) rest
  clamped : {ts rest : List Token} {r : Span × ImageRead} {edge clamp : Token}
      → Unclamped ts r (edge ∷ clamp ∷ rest) → terminal edge ≡ Keyword Edge → terminal clamp ≡ Keyword Clamp
      → Reads ts (read (over r.0 clamp.span) (clamped_of r.1)) rest
