use Rattle.dk_parser.specs.Programs.{source_of}
use Rattle.dk_types.specs.Typed.{typing_of}
use Rattle.dk_compile.proofs.Ports.{some_ports}
use Rattle.dk_compile.proofs.reading.typed.Goals as goal

pub returns-clause-some_inputs : goal.returns-clause-some_inputs
returns-clause-some_inputs c = (some_ports c.args.text.now (source_of c.in_ok-program.program) (typing_of c.in_ok-typed.typed) c.in_ok-program.ensures.tree c.in_ok-typed.ensures.typed).0

pub returns-clause-some_outputs : goal.returns-clause-some_outputs
returns-clause-some_outputs c = (some_ports c.args.text.now (source_of c.in_ok-program.program) (typing_of c.in_ok-typed.typed) c.in_ok-program.ensures.tree c.in_ok-typed.ensures.typed).1
