-- Programs within the limits, and the fault of tokens that are none.
use Rattle.std.specs.Prelude.{◌≡◌, ◌≤◌, ℕ, List, [], ◌∷◌, ◌++◌, length, Option, Some, None}
use Rattle.dk_base.specs.declared.TheConstants.{MAX_SOURCE_DEPTH}
use Rattle.dk_base.specs.declared.span.Span.{Span}
use Rattle.dk_lexer.specs.declared.token.Token.{Token}
use Rattle.dk_grammar.specs.Reading.{IsFaulty}
use Rattle.dk_parser.specs.declared.whole.ParseError.{ParseError}
use Rattle.dk_parser.specs.declared.whole.ParseError.TheVariants.{Nest, Syntax, Depth, OutOfMemory}
use Rattle.dk_parser.specs.Grammar.{Tokens}
use Rattle.dk_parser.specs.Depth.{depth, too_deep, first}
use Rattle.dk_parser.specs.Nest.{StaysShallow, PassesAt}
use Rattle.dk_parser.specs.Programs.{Source, Definition}
use Rattle.dk_parser.specs.Rules.{ProgramRule}

-- all tokens are those of this program
abbrev pub Derives : Tokens → Source → Type 0
Derives ts p = ProgramRule ts p []

abbrev pub IsProgram : Tokens → Type 0
IsProgram ts = (p : Source) × Derives ts p

-- every body is shallow enough
abbrev pub AreShallow : List Definition → Type 0
AreShallow [] = Unit {0}
AreShallow (d ∷ ds) = (depth d.body ≤ MAX_SOURCE_DEPTH) × AreShallow ds

-- the first subtree that is deeper than the limit by one
abbrev pub first_deep : List Definition → Option Span
first_deep [] = None
first_deep (d ∷ ds) = first (too_deep d.body) (first_deep ds)

-- the k-th token has this span
pub record StandsAt (ts : Tokens) (k : ℕ) (span : Span) : Type 0 where
  pub before : Tokens
  pub tok : Token
  pub after : Tokens
  pub whole : ts ≡ before ++ (tok ∷ after)
  pub index : length before ≡ k
  pub is_there : tok.span ≡ span

-- the token with this span is the faulty one
pub record IsFaultyAt (ts : Tokens) (span : Span) : Type 0 where
  pub index : ℕ
  pub faulty : IsFaulty IsProgram ts index
  pub stands : StandsAt ts index span

pub record IsDeepAt (ts : Tokens) (span : Span) : Type 0 where
  pub program : Source
  pub derives : Derives ts program
  pub first : first_deep program.definitions ≡ Some span

-- a program within its limits
pub record Accepted (ts : Tokens) (p : Source) : Type 0 where
  pub nests : StaysShallow 0 ts
  pub derives : Derives ts p
  pub shallow : AreShallow p.definitions

-- The fault of a list of tokens that are no program, in the order in which they are judged.
abbrev pub Faults : Tokens → ParseError → Type 0
Faults ts (Nest span) = PassesAt 0 ts span
Faults ts (Syntax span) = StaysShallow 0 ts × IsFaultyAt ts span
Faults ts (Depth span) = StaysShallow 0 ts × IsDeepAt ts span
Faults ts OutOfMemory = Unit {0}
