-- The errors of the passes as errors of a text.
use Rattle.std.proofs.Common.{ℕ, List}
use Rattle.dk_lexer.specs.declared.token.Token.{Token}
use Rattle.dk_parser.specs.declared.whole.ParseError.{ParseError}
use Rattle.dk_parser.specs.declared.whole.ParseError.TheVariants.{Nest, Syntax, Depth, OutOfMemory}
use Rattle.dk_parser.specs.Judged.{Faults}
use Rattle.dk_compile.specs.Sources.{IsCut, IsSourceFault, IsErrorBy}
use Rattle.dk_compile.specs.Faults.{of_parser}

pub parse_error : (text : List ℕ) (tokens : List Token) (e : ParseError) → IsCut text tokens → Faults tokens e → IsErrorBy (IsSourceFault text) (of_parser e)
parse_error text tokens (Nest span) cut is = (tokens, cut, is)
parse_error text tokens (Syntax span) cut is = (tokens, cut, is)
parse_error text tokens (Depth span) cut is = (tokens, cut, is)
parse_error text tokens OutOfMemory cut is = tt
