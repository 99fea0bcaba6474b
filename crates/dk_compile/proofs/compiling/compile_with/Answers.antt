use Rattle.dk_types.specs.Typed.{typing_of}
use Rattle.dk_compile.proofs.compiling.compile_with.Goals as goal

pub returns-clause-compiled : goal.returns-clause-compiled
returns-clause-compiled c = (typing_of c.in_ok-ir.field-0.program, record { planned = c.in_ok-ir.ensures.planned; circuit = c.in_ok-module.ensures.circuit; printed = c.in_ok-module.ensures.text })
