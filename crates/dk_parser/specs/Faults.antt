-- Used by private functions only.
-- What is read, and where it is stuck.
use Rattle.std.specs.Prelude.{◌≡◌, ◌<◌, ◌≤◌, ◌∷◌, length, Some}
use Rattle.dk_base.specs.declared.span.Span.{Span}
use Rattle.dk_base.specs.declared.operator.Unary.{Unary}
use Rattle.dk_lexer.specs.declared.token.Token.{Token}
use Rattle.dk_lexer.specs.declared.token.Symbol.TheVariants.{Open, Close, Comma}
use Rattle.dk_grammar.specs.Reading.{Phrases, Then, Done, Stuck}
use Rattle.dk_parser.specs.declared.halt.Halt.{Halt}
use Rattle.dk_parser.specs.declared.halt.Halt.TheVariants.{Faulty, OutOfMemory}
use Rattle.dk_parser.specs.declared.terminal.Mark.TheVariants as mark
use Rattle.dk_parser.specs.declared.tree.Step.{Step}
use Rattle.dk_parser.specs.declared.tree.Start.{Start}
use Rattle.dk_parser.specs.declared.tree.Start.TheVariants.{Constant, Bracket, Pair, Absolute, Saturate, Choice}
use Rattle.dk_parser.specs.Tree.{Tree, number, unary, binary, sat, select, at_span}
use Rattle.dk_parser.specs.Words.{over, Sign, AType}
use Rattle.dk_parser.specs.Grammar.{Tokens, Nonterminal, Phrase, Closed, suffix}
use Rattle.dk_parser.specs.Front.{rank, bound}

abbrev pub Halts : {V : Type 0} → Phrases Token V → Tokens → Halt → Type 0
Halts P ts (Faulty at) = Stuck P ts at.now
Halts P ts OutOfMemory = Unit {0}

-- a phrase of the form that what follows does not continue
abbrev pub Ends : Nonterminal → Phrases Token Tree
Ends f ts e rest = Phrase f ts e rest × (bound f < rank rest)

pub record Parsed (f : Nonterminal) (ts : Tokens) (e : Tree) (rest : Tokens) : Type 0 where
  pub phrase : Phrase f ts e rest
  pub ends : bound f < rank rest
  pub fewer : length rest ≤ length ts

-- one token after an operator that expects a number or a type
abbrev pub Suffix : Tree → Step → Phrases Token Tree
Suffix l s ts m rest = (tok : Token) × (ts ≡ tok ∷ rest) × (suffix l s tok ≡ Some m)

-- what follows the first token of an enclosed expression
abbrev pub Inside : Start → Span → Phrases Token Tree
Inside (Constant v) s = Done (number s v)
Inside Bracket s = Then (Closed (mark.Sign Close)) (λ a. Done (at_span (over s a.1) a.0))
Inside (Pair o) s = Then (Sign (mark.Sign Open)) (λ _. Then (Closed (mark.Sign Comma)) (λ a. Then (Closed (mark.Sign Close)) (λ b. Done (binary (over s b.1) o a.0 b.0))))
Inside Absolute s = Then (Sign (mark.Sign Open)) (λ _. Then (Closed (mark.Sign Close)) (λ a. Done (unary (over s a.1) Unary.Abs a.0)))
Inside Saturate s = Then (Sign (mark.Sign Open)) (λ _. Then (Closed (mark.Sign Comma)) (λ a. Then AType (λ t. Then (Sign (mark.Sign Close)) (λ z. Done (sat (over s z) a.0 t)))))
Inside Choice s =
    Then (Sign (mark.Sign Open)) (λ _. Then (Closed (mark.Sign Comma)) (λ c. Then (Closed (mark.Sign Comma)) (λ a. Then (Closed (mark.Sign Close)) (λ b.
    Done (select (over s b.1) c.0 a.0 b.0)))))
Inside _ s = λ ts e rest. ⊥

-- what begins an enclosed expression
abbrev pub Opens : Start → Type 0
Opens (Constant v) = Unit {0}
Opens Bracket = Unit {0}
Opens (Pair o) = Unit {0}
Opens Absolute = Unit {0}
Opens Saturate = Unit {0}
Opens Choice = Unit {0}
Opens _ = ⊥
