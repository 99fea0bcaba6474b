-- For the private functions: the grammar as it is read, with one token ahead.
use Rattle.std.specs.Prelude.{◌≡◌, List, Option, Some, None, Bool, true, false, Result, MatchResult}
use Rattle.wiring.specs.declared.right.Atom.{Atom}
use Rattle.wiring.specs.declared.right.Atom.TheVariants as atom
use Rattle.wiring.specs.declared.right.Operator.TheVariants as operator
use Rattle.dk_grammar.specs.Reading.{Phrases, One, Then, Done, Stuck}
use Rattle.dk_base.specs.declared.span.Span.{Span}
use Rattle.verilog_text.specs.declared.token.Token.{Token}
use Rattle.verilog_text.specs.declared.token.Symbol.{Symbol}
use Rattle.verilog_text.specs.declared.token.Symbol.TheVariants as symbol
use Rattle.verilog_text.specs.declared.token.Keyword.{Keyword}
use Rattle.verilog_text.specs.declared.token.TokenKind.{TokenKind}
use Rattle.verilog_text.specs.declared.token.TokenKind.TheVariants as kind
use Rattle.verilog_text.specs.declared.written.Count.{Count}
use Rattle.verilog_text.specs.declared.written.WrittenRight.{WrittenRight}
use Rattle.verilog_text.specs.declared.written.WrittenRight.TheVariants as right
use Rattle.verilog_text.specs.declared.written.WrittenAssign.{WrittenAssign}
use Rattle.verilog_text.specs.Grammar.{named, atomic, counted}
use Rattle.verilog_parse.specs.declared.kind.RightStart.{RightStart}
use Rattle.verilog_parse.specs.declared.kind.RightStart.TheVariants as start
use Rattle.verilog_parse.specs.declared.kind.Item.{Item}
use Rattle.verilog_parse.specs.declared.kind.Item.TheVariants as items
use Rattle.verilog_parse.specs.declared.kind.Follow.{Follow}
use Rattle.verilog_parse.specs.declared.kind.Follow.TheVariants as follow
use Rattle.verilog_parse.specs.declared.halt.Halt.{Halt}
use Rattle.verilog_parse.specs.declared.halt.Halt.TheVariants.{Faulty, OutOfMemory}

-- where the cursor is at a fault
abbrev pub Halts : {V : Type 0} → Phrases Token V → List Token → List Token → Halt → Type 0
Halts P ts at Faulty = Stuck P ts at
Halts P ts at OutOfMemory = Unit {0}

-- A reader of this phrase: the cursor is after the phrase with its value, or at the faulty token.
abbrev pub Reads : {V : Type 0} → Phrases Token V → (old new : List Token) → Result V Halt → Type 0
Reads P old new result = MatchResult result (λ v. P old v new) (λ e. Halts P old new e)

-- a token of this kind
abbrev pub Is : TokenKind → Token → Unit {0} → Type 0
Is k t u = t.kind ≡ k

-- a token for which the function has a value
abbrev pub Gives : {V : Type 0} → (TokenKind → Span → Option V) → Token → V → Type 0
Gives f t v = f t.kind t.span ≡ Some v

abbrev pub opening : Symbol → Option RightStart
opening symbol.Tilde = Some start.Tilde
opening symbol.OpenBrace = Some start.Brace
opening _ = None

abbrev pub starting : TokenKind → Span → Option RightStart
starting (kind.Symbol x) s = opening x
starting kind.Name s = Some (start.Atom (atom.Net s))
starting kind.Clock s = Some (start.Atom (atom.Net s))
starting (kind.Sized c) s = Some (start.Atom (atom.Constant c))
starting _ s = None

abbrev pub item : TokenKind → Span → Option Item
item (kind.Plain v) s = Some (items.Count (record { value = v; span = s }))
item kind.Name s = Some (items.Atom (atom.Net s))
item kind.Clock s = Some (items.Atom (atom.Net s))
item (kind.Sized c) s = Some (items.Atom (atom.Constant c))
item _ s = None

-- square brackets follow a name
abbrev pub square : Atom Span → Option Follow
square (atom.Net n) = Some (follow.Square n)
square (atom.Constant c) = None

abbrev pub following : Atom Span → TokenKind → Option Follow
following a (kind.Symbol symbol.Semicolon) = Some follow.End
following a (kind.Symbol symbol.Question) = Some follow.Question
following a (kind.Symbol symbol.Plus) = Some (follow.Operator operator.Add)
following a (kind.Symbol symbol.Minus) = Some (follow.Operator operator.Subtract)
following a (kind.Symbol symbol.Star) = Some (follow.Operator operator.Multiply)
following a (kind.Symbol symbol.Slash) = Some (follow.Operator operator.Divide)
following a (kind.Symbol symbol.Less) = Some (follow.Operator operator.Less)
following a (kind.Symbol symbol.EqualEqual) = Some (follow.Operator operator.Equal)
following a (kind.Symbol symbol.Ampersand) = Some (follow.Operator operator.And)
following a (kind.Symbol symbol.Bar) = Some (follow.Operator operator.Or)
following a (kind.Symbol symbol.Caret) = Some (follow.Operator operator.Xor)
following a (kind.Symbol symbol.OpenSquare) = square a
following a _ = None

abbrev pub colon_or_close : TokenKind → Option Bool
colon_or_close (kind.Symbol symbol.Colon) = Some true
colon_or_close (kind.Symbol symbol.CloseSquare) = Some false
colon_or_close _ = None

abbrev pub Sign : Symbol → Phrases Token (Unit {0})
Sign s = One (Is (kind.Symbol s))

abbrev pub Word : Keyword → Phrases Token (Unit {0})
Word w = One (Is (kind.Keyword w))

abbrev pub AName : Phrases Token Span
AName = One (Gives named)

abbrev pub ACount : Phrases Token Count
ACount = One (Gives counted)

abbrev pub AnAtom : Phrases Token (Atom Span)
AnAtom = One (Gives atomic)

-- an atom and the symbol after it
abbrev pub Closed : Symbol → Phrases Token (Atom Span)
Closed s = Then AnAtom (λ a. Then (Sign s) (λ _. Done a))

-- a symbol and `;`, which end what was read
abbrev pub Ended : Symbol → Phrases Token (Unit {0})
Ended s = Then (Sign s) (λ _. Sign symbol.Semicolon)

abbrev pub AfterFirst : Span → Count → Bool → Phrases Token WrittenRight
AfterFirst n k true = Then (ACount) (λ l. Then (Ended symbol.CloseSquare) (λ _. Done (right.Slice n k.value l.value)))
AfterFirst n k false = Then (Sign symbol.Semicolon) (λ _. Done (right.Bit n k.value))

abbrev pub AfterItem : Span → Item → Phrases Token WrittenRight
AfterItem n (items.Count k) = Then (One (Gives (λ x s. colon_or_close x))) (λ b. AfterFirst n k b)
AfterItem n (items.Atom i) = Then (Ended symbol.CloseSquare) (λ _. Done (right.Word n i))

abbrev pub AfterAtom : Atom Span → Follow → Phrases Token WrittenRight
AfterAtom a follow.End = Done (right.Copy a)
AfterAtom a (follow.Operator o) = Then (Closed symbol.Semicolon) (λ b. Done (right.Binary o a b))
AfterAtom a follow.Question = Then (Closed symbol.Colon) (λ b. Then (Closed symbol.Semicolon) (λ c. Done (right.Choose a b c)))
AfterAtom a (follow.Square n) = Then (One (Gives item)) (λ i. AfterItem n i)

abbrev pub AfterBrace : Item → Phrases Token WrittenRight
AfterBrace (items.Count n) = Then (Sign symbol.OpenBrace) (λ _. Then (Closed symbol.CloseBrace) (λ a. Then (Ended symbol.CloseBrace) (λ _. Done (right.Repeat n a))))
AfterBrace (items.Atom a) = Then (Sign symbol.Comma) (λ _. Then AnAtom (λ b. Then (Ended symbol.CloseBrace) (λ _. Done (right.Join a b))))

abbrev pub AfterStart : RightStart → Phrases Token WrittenRight
AfterStart start.Tilde = Then (Closed symbol.Semicolon) (λ a. Done (right.Not a))
AfterStart start.Brace = Then (One (Gives item)) (λ i. AfterBrace i)
AfterStart (start.Atom a) = Then (One (Gives (λ k s. following a k))) (λ f. AfterAtom a f)

-- a right side and its `;`
abbrev pub ARight : Phrases Token WrittenRight
ARight = Then (One (Gives starting)) (λ s. AfterStart s)

-- what follows "assign"
abbrev pub AnAssign : Phrases Token WrittenAssign
AnAssign = Then AName (λ n. Then (Sign symbol.Equal) (λ _. Then ARight (λ r. Done (record { target = n; right = r }))))
