-- Used by private functions only.
-- What goes on with an expression.
use Rattle.std.specs.Prelude.{◌≡◌, ◌≢◌, ℕ, suc, ◌<◌, ◌∷◌, length}
use Rattle.dk_base.specs.declared.operator.Binary.{Binary}
use Rattle.dk_lexer.specs.declared.token.Token.{Token}
use Rattle.dk_parser.specs.declared.classes.Ahead.{Ahead}
use Rattle.dk_parser.specs.declared.classes.Ahead.TheVariants.{Operand, Suffix, Tighter, End}
use Rattle.dk_parser.specs.declared.tree.Step.{Step}
use Rattle.dk_parser.specs.declared.tree.Binding.TheVariants.{Operator}
use Rattle.dk_parser.specs.Terminals.{terminal}
use Rattle.dk_parser.specs.Grammar.{Tokens, binding}
use Rattle.dk_parser.specs.Front.{rank}

-- the tokens begin with this operator
pub record Operates (n : ℕ) (ts : Tokens) (s : Step) (after : Tokens) : Type 0 where
  pub tok : Token
  pub whole : ts ≡ tok ∷ after
  pub binds : binding (terminal tok) ≡ Operator n s
  pub fewer : length after < length ts

pub record Suffixes (n : ℕ) (ts : Tokens) (s : Step) (after : Tokens) : Type 0 where
  pub operates : Operates n ts s after
  pub other : (o : Binary) → s ≢ Step.Operand o

abbrev pub IsAhead : ℕ → Tokens → Ahead → Type 0
IsAhead n ts (Operand o after) = Operates n ts (Step.Operand o) after.now
IsAhead n ts (Suffix s after) = Suffixes n ts s after.now
IsAhead n ts Tighter = rank ts < suc n
IsAhead n ts End = suc n < rank ts
