-- Used by private functions only.
-- What was read, and what is kept of its tree.
use Rattle.std.specs.Prelude.{◌≡◌, suc, ◌≤◌, ◌<◌, length, Some, Result, MatchResult, IfOk}
use Rattle.std.specs.Borrow.{Bor}
use Rattle.dk_base.specs.declared.TheConstants.{MAX_SOURCE_DEPTH}
use Rattle.dk_base.specs.declared.span.Span.{Span}
use Rattle.dk_lexer.specs.declared.token.Token.{Token}
use Rattle.dk_grammar.specs.Reading.{Phrases}
use Rattle.dk_parser.specs.declared.built.Built.{Built}
use Rattle.dk_parser.specs.declared.built.Built.TheVariants.{Whole, Deep}
use Rattle.dk_parser.specs.declared.halt.Halt.{Halt}
use Rattle.dk_parser.specs.declared.terminal.Mark.{Mark}
use Rattle.dk_parser.specs.Tree.{Tree, tree_of}
use Rattle.dk_parser.specs.Grammar.{Tokens, Nonterminal, Closed}
use Rattle.dk_parser.specs.Depth.{depth, below}
use Rattle.dk_parser.specs.Faults.{Halts, Parsed}

-- What is kept of a tree: all of it while it is deeper than the limit by one at most, or else only where it first got too deep.
abbrev pub Stands : Built → Tree → Type 0
Stands (Whole x d) e = (tree_of x ≡ e) × (depth e ≡ d) × (d ≤ suc MAX_SOURCE_DEPTH)
Stands (Deep s) e = below e ≡ Some s

pub record Grown (f : Nonterminal) (ts : Tokens) (built : Built) (rest : Tokens) : Type 0 where
  pub tree : Tree
  pub parsed : Parsed f ts tree rest
  pub stands : Stands built tree

pub record GrownOf (P : Phrases Token Tree) (ts : Tokens) (built : Built) (rest : Tokens) : Type 0 where
  pub tree : Tree
  pub phrase : P ts tree rest
  pub fewer : length rest ≤ length ts
  pub stands : Stands built tree

-- A reader gives a value and the tokens that are left, as `gives` states, or it halts where the phrase is stuck.
abbrev pub ReadsAs : {A V : Type 0} → (gives : Tokens → A → Tokens → Type 0) → Phrases Token V → Tokens → Result (A × Bor Tokens) Halt → Type 0
ReadsAs gives phrase ts result = MatchResult result (λ x. gives ts x.0 x.1.now) (λ e. Halts phrase ts e)

-- it gives the value of the phrase
abbrev pub ReadsPhrase : {V : Type 0} → Phrases Token V → Tokens → Result (V × Bor Tokens) Halt → Type 0
ReadsPhrase phrase ts result = ReadsAs phrase phrase ts result

-- it gives a phrase of two values
abbrev pub ReadsPair : {A B : Type 0} → Phrases Token (A × B) → Tokens → Result (A × B × Bor Tokens) Halt → Type 0
ReadsPair phrase ts result = MatchResult result (λ x. phrase ts (x.0, x.1) x.2.now) (λ e. Halts phrase ts e)

-- it gives what is kept of the phrase's tree
abbrev pub ReadsGrown : Phrases Token Tree → Tokens → Result (Built × Bor Tokens) Halt → Type 0
ReadsGrown phrase ts result = ReadsAs (GrownOf phrase) phrase ts result

-- what is kept of a tree, where there is memory
abbrev pub Builds : {E : Type 0} → Result Built E → Tree → Type 0
Builds result e = IfOk result (λ b. Stands b e)

pub record GrownClosed (m : Mark) (ts : Tokens) (built : Built) (last : Span) (rest : Tokens) : Type 0 where
  pub tree : Tree
  pub phrase : Closed m ts (tree, last) rest
  pub fewer : length rest < length ts
  pub stands : Stands built tree
