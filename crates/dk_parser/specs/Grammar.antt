-- The grammar of expressions, as a relation between tokens, a tree and the tokens after it.
use Rattle.std.specs.Prelude.{◌≡◌, ℕ, suc, List, ◌∷◌, Option, Some, None}
use Rattle.dk_base.specs.declared.span.Span.{Span}
use Rattle.dk_base.specs.declared.operator.Unary.{Unary}
use Rattle.dk_base.specs.declared.operator.Binary.{Binary}
use Rattle.dk_base.specs.declared.operator.Scaling.{Scaling}
use Rattle.dk_lexer.specs.declared.token.Token.{Token}
use Rattle.dk_lexer.specs.declared.token.Symbol.TheVariants.{Bang, Bar, Caret, Ampersand, Plus, Minus, Star, Slash, Open, Close, Comma, ShiftLeft as Shl, ShiftRight as Shr, Less as Lt, LessEqual as Le, Greater as Gt, GreaterEqual as Ge, EqualEqual as Eq, NotEqual as Ne}
use Rattle.dk_grammar.specs.Reading.{Phrases}
use Rattle.source_words.specs.declared.word.Keyword.TheVariants.{As, Edge, Select, Min, Max, Abs, Sat}
use Rattle.dk_parser.specs.declared.terminal.Terminal.{Terminal}
use Rattle.dk_parser.specs.declared.terminal.Terminal.TheVariants.{Keyword, TypeWord as Type', Name as Name', Number as Number', Symbol as Sym}
use Rattle.dk_parser.specs.declared.terminal.Mark.{Mark}
use Rattle.dk_parser.specs.declared.tree.Step.{Step}
use Rattle.dk_parser.specs.declared.tree.Start.{Start}
use Rattle.dk_parser.specs.declared.tree.Start.TheVariants.{Prefix, Constant, Image, Bracket, Pair, Absolute, Saturate, Choice, Nothing}
use Rattle.dk_parser.specs.declared.tree.Binding.{Binding}
use Rattle.dk_parser.specs.declared.tree.Binding.TheVariants.{Operator, Clamps, Stops}
use Rattle.dk_parser.specs.Tree.{Tree, number, unary, binary, scale, cast, sat, select, span_of, at_span}
use Rattle.dk_parser.specs.Terminals.{terminal}
use Rattle.dk_parser.specs.Marks.{mark_terminal}
use Rattle.dk_parser.specs.declared.tree.TypeWord.{TypeWord}
use Rattle.dk_parser.specs.Words.{over, type_word}
use Rattle.dk_parser.specs.Reads.{Reads}

abbrev pub Tokens : Type 0
Tokens = List Token

-- How a token goes on with an expression before it: the level of precedence of an operator, of which 1 binds most tightly, and what follows it.
abbrev pub binding : Terminal → Binding
binding (Keyword As) = Operator 1 Step.Type
binding (Keyword Edge) = Clamps
binding (Sym Star) = Operator 2 (Step.Operand Binary.Multiply)
binding (Sym Slash) = Operator 2 (Step.Number Scaling.Divide)
binding (Sym Plus) = Operator 3 (Step.Operand Binary.Add)
binding (Sym Minus) = Operator 3 (Step.Operand Binary.Subtract)
binding (Sym Shl) = Operator 4 (Step.Number Scaling.ShiftLeft)
binding (Sym Shr) = Operator 4 (Step.Number Scaling.ShiftRight)
binding (Sym Ampersand) = Operator 5 (Step.Operand Binary.And)
binding (Sym Caret) = Operator 6 (Step.Operand Binary.Xor)
binding (Sym Bar) = Operator 7 (Step.Operand Binary.Or)
binding (Sym Lt) = Operator 8 (Step.Operand Binary.Less)
binding (Sym Le) = Operator 8 (Step.Operand Binary.LessOrEqual)
binding (Sym Gt) = Operator 8 (Step.Operand Binary.Greater)
binding (Sym Ge) = Operator 8 (Step.Operand Binary.GreaterOrEqual)
binding (Sym Eq) = Operator 8 (Step.Operand Binary.Equal)
binding (Sym Ne) = Operator 8 (Step.Operand Binary.NotEqual)
binding _ = Stops

abbrev pub start : Terminal → Start
start (Sym Minus) = Prefix Unary.Negate
start (Sym Bang) = Prefix Unary.Not
start (Number' v) = Constant v
start Name' = Image
start (Sym Open) = Bracket
start (Keyword Min) = Pair Binary.Min
start (Keyword Max) = Pair Binary.Max
start (Keyword Abs) = Absolute
start (Keyword Sat) = Saturate
start (Keyword Select) = Choice
start _ = Nothing

-- a tree with a number or a type after its operator
abbrev pub scaled : Tree → Scaling → Span → Terminal → Option Tree
scaled l o at (Number' v) = Some (scale (over (span_of l) at) o l (record { span = at; value = v }))
scaled l o at _ = None

abbrev pub converted : Tree → Span → Terminal → Option Tree
converted l at (Type' t) = Some (cast (over (span_of l) at) l (record { span = at; ty = t }))
converted l at _ = None

abbrev pub suffix : Tree → Step → Token → Option Tree
suffix l (Step.Operand o) word = None
suffix l (Step.Number o) word = scaled l o word.span (terminal word)
suffix l Step.Type word = converted l word.span (terminal word)

pub data Nonterminal : Type 0 where
  comparison : Nonterminal
  level : ℕ → Nonterminal
  steps : ℕ → Tree → Nonterminal
  primary : Nonterminal
  enclosed : Nonterminal

-- Phrase f ts e rest: the tokens ts begin with a phrase of the nonterminal f, its tree is e, and rest comes after it.
-- Level 0 has the unary operators, level n the operators of precedence n. Steps are what follows a first operand.
-- Enclosed is a primary expression that is no read.
pub data Phrase : Nonterminal → Tokens → Tree → Tokens → Type 0 where
  single : {ts rest : Tokens} {e : Tree} → Phrase (level 7) ts e rest → Phrase comparison ts e rest
  compared : {ts mid rest : Tokens} {l r : Tree} {tok : Token} {o : Binary}
      → Phrase (level 7) ts l (tok ∷ mid) → binding (terminal tok) ≡ Operator 8 (Step.Operand o) → Phrase (level 7) mid r rest
      → Phrase comparison ts (binary (over (span_of l) (span_of r)) o l r) rest
  prefixed : {ts rest : Tokens} {e : Tree} {tok : Token} {o : Unary}
      → start (terminal tok) ≡ Prefix o → Phrase primary ts e rest
      → Phrase (level 0) (tok ∷ ts) (unary (over tok.span (span_of e)) o e) rest
  plain : {ts rest : Tokens} {e : Tree} → Phrase primary ts e rest → Phrase (level 0) ts e rest
  chain : {n : ℕ} {ts mid rest : Tokens} {l e : Tree}
      → Phrase (level n) ts l mid → Phrase (steps n l) mid e rest → Phrase (level (suc n)) ts e rest
  done : {n : ℕ} {rest : Tokens} {e : Tree} → Phrase (steps n e) rest e rest
  operand : {n : ℕ} {ts mid rest : Tokens} {l r e : Tree} {tok : Token} {o : Binary}
      → binding (terminal tok) ≡ Operator (suc n) (Step.Operand o) → Phrase (level n) ts r mid
      → Phrase (steps n (binary (over (span_of l) (span_of r)) o l r)) mid e rest
      → Phrase (steps n l) (tok ∷ ts) e rest
  suffixed : {n : ℕ} {rest mid : Tokens} {l m e : Tree} {tok word : Token} {s : Step}
      → binding (terminal tok) ≡ Operator (suc n) s → suffix l s word ≡ Some m
      → Phrase (steps n m) mid e rest
      → Phrase (steps n l) (tok ∷ word ∷ mid) e rest
  closed : {ts rest : Tokens} {e : Tree} → Phrase enclosed ts e rest → Phrase primary ts e rest
  reading : {ts rest : Tokens} {e : Tree} → Reads ts e rest → Phrase primary ts e rest
  constant : {v : ℕ} {rest : Tokens} {tok : Token} → start (terminal tok) ≡ Constant v → Phrase enclosed (tok ∷ rest) (number tok.span v) rest
  bracket : {ts rest : Tokens} {e : Tree} {opening close : Token}
      → start (terminal opening) ≡ Bracket → Phrase comparison ts e (close ∷ rest) → terminal close ≡ Sym Close
      → Phrase enclosed (opening ∷ ts) (at_span (over opening.span close.span) e) rest
  pair : {ts mid rest : Tokens} {a b : Tree} {tok opening comma close : Token} {o : Binary}
      → start (terminal tok) ≡ Pair o → terminal opening ≡ Sym Open
      → Phrase comparison ts a (comma ∷ mid) → terminal comma ≡ Sym Comma
      → Phrase comparison mid b (close ∷ rest) → terminal close ≡ Sym Close
      → Phrase enclosed (tok ∷ opening ∷ ts) (binary (over tok.span close.span) o a b) rest
  absolute : {ts rest : Tokens} {e : Tree} {tok opening close : Token}
      → start (terminal tok) ≡ Absolute → terminal opening ≡ Sym Open
      → Phrase comparison ts e (close ∷ rest) → terminal close ≡ Sym Close
      → Phrase enclosed (tok ∷ opening ∷ ts) (unary (over tok.span close.span) Unary.Abs e) rest
  saturate : {ts rest : Tokens} {e : Tree} {t : TypeWord} {tok opening comma word close : Token}
      → start (terminal tok) ≡ Saturate → terminal opening ≡ Sym Open
      → Phrase comparison ts e (comma ∷ word ∷ close ∷ rest) → terminal comma ≡ Sym Comma
      → type_word word ≡ Some t → terminal close ≡ Sym Close
      → Phrase enclosed (tok ∷ opening ∷ ts) (sat (over tok.span close.span) e t) rest
  choice : {ts mid behind rest : Tokens} {c a b : Tree} {tok opening comma second close : Token}
      → start (terminal tok) ≡ Choice → terminal opening ≡ Sym Open
      → Phrase comparison ts c (comma ∷ mid) → terminal comma ≡ Sym Comma
      → Phrase comparison mid a (second ∷ behind) → terminal second ≡ Sym Comma
      → Phrase comparison behind b (close ∷ rest) → terminal close ≡ Sym Close
      → Phrase enclosed (tok ∷ opening ∷ ts) (select (over tok.span close.span) c a b) rest

-- an expression and the mark after it, with the mark's span
abbrev pub Closed : Mark → Phrases Token (Tree × Span)
Closed m ts x rest = (tok : Token) × Phrase comparison ts x.0 (tok ∷ rest) × (terminal tok ≡ mark_terminal m) × (tok.span ≡ x.1)
