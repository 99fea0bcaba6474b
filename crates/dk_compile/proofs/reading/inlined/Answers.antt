use Rattle.dk_types.specs.Typed.{typing_of}
use Rattle.dk_compile.proofs.Ports.{some_ports}
use Rattle.dk_compile.proofs.reading.inlined.Goals as goal

pub inline-requires-clause-some_inputs : goal.inline-requires-clause-some_inputs
inline-requires-clause-some_inputs c =
    let (text, accepted) = c.requires.accepted in
    (some_ports text accepted.program.tree (typing_of c.args.program.now) accepted.program.parsed accepted.program.typed).0

pub inline-requires-clause-some_outputs : goal.inline-requires-clause-some_outputs
inline-requires-clause-some_outputs c =
    let (text, accepted) = c.requires.accepted in
    (some_ports text accepted.program.tree (typing_of c.args.program.now) accepted.program.parsed accepted.program.typed).1
