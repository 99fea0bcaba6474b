use Rattle.dk_parser.specs.Programs.{source_of}
use Rattle.dk_parser.proofs.Conversions.{program_types}
use Rattle.dk_parser.proofs.whole.parse.Goals as goal

pub returns-clause-types : goal.returns-clause-types
returns-clause-types c = program_types c.args.tokens.now (source_of c.in_ok-program.program) c.in_ok-program.ensures.derives
