-- Used by private functions only.
-- The first token, and how it continues what is before it.
use Rattle.std.specs.Prelude.{◌≡◌, ℕ, suc, ◌<◌, [], ◌∷◌, length}
use Rattle.dk_lexer.specs.declared.token.Token.{Token}
use Rattle.source_words.specs.declared.word.Keyword.TheVariants.{Edge}
use Rattle.dk_parser.specs.declared.terminal.Terminal.{Terminal}
use Rattle.dk_parser.specs.declared.tree.Start.{Start}
use Rattle.dk_parser.specs.declared.terminal.Terminal.TheVariants.{Keyword}
use Rattle.dk_parser.specs.declared.tree.Binding.{Binding}
use Rattle.dk_parser.specs.declared.tree.Binding.TheVariants.{Operator, Clamps, Stops}
use Rattle.dk_parser.specs.Terminals.{terminal}
use Rattle.dk_parser.specs.Grammar.{Tokens, Nonterminal, comparison, level, steps, primary, enclosed, binding, start}

pub record IsFront (ts : Tokens) (tok : Token) (kind : Terminal) (after : Tokens) : Type 0 where
  pub whole : ts ≡ tok ∷ after
  pub kind_is : terminal tok ≡ kind
  pub fewer : length after < length ts

-- the level of precedence of the next token, of which 1 binds most tightly: `edge` 1, an operator 1 more than its strength, what is none 10
abbrev pub precedence : Binding → ℕ
precedence Clamps = 1
precedence (Operator n s) = suc n
precedence Stops = 10

abbrev pub rank : Tokens → ℕ
rank [] = 10
rank (t ∷ ts) = precedence (binding (terminal t))

-- the tokens that continue a phrase of a form are of this level at most
abbrev pub bound : Nonterminal → ℕ
bound comparison = 9
bound (level n) = suc n
bound (steps n l) = suc (suc n)
bound primary = 1
bound enclosed = 0

-- the tokens begin with `edge`
pub record IsEdge (ts after : Tokens) : Type 0 where
  pub tok : Token
  pub whole : ts ≡ tok ∷ after
  pub is_edge : terminal tok ≡ Keyword Edge
  pub fewer : length after < length ts

-- the tokens begin with what this begins
pub record Begins (k : Start) (ts : Tokens) : Type 0 where
  pub tok : Token
  pub after : Tokens
  pub whole : ts ≡ tok ∷ after
  pub starts : start (terminal tok) ≡ k
