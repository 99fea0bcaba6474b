use Rattle.dk_parser.specs.Programs.{source_of}
use Rattle.dk_types.specs.Typed.{typing_of}
use Rattle.dk_types.proofs.Finds.{accepted, refuses, typed_so, faulty_so}
use Rattle.dk_types.proofs.whole.check.Goals as goal

pub returns : goal.returns
returns c = record {
  typed = typed_so typing_of (source_of c.args.program.now) c.judged.result c.judged.ensures;
  fault = faulty_so typing_of (source_of c.args.program.now) c.judged.result c.judged.ensures;
  accepts = accepted typing_of (source_of c.args.program.now) c.judged.result c.judged.ensures;
  refuses = refuses typing_of (source_of c.args.program.now) c.judged.result c.judged.ensures;
}
