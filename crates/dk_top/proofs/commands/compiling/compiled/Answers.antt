use Rattle.dk_top.proofs.CompileLemmas.{compiled_accepted}
use Rattle.dk_top.specs.Compiling.{IsCompiledFrom}
use Rattle.dk_top.proofs.commands.compiling.compiled.Goals as goal

pub returns-in-Ok-clause-compiled : goal.returns-in-Ok-clause-compiled
returns-in-Ok-clause-compiled c =
    let found = c.in-Ok.ensures.compiled in
    record { program = found.0; is = found.1 }

pub returns-in-Err-clause-fault : goal.returns-in-Err-clause-fault
returns-in-Err-clause-fault c = c.ending_of.ensures.fault_at c.args.text.now c.args.options.age c.in-Err.ensures.fault

pub returns-in-Ok-clause-good : goal.returns-in-Ok-clause-good
returns-in-Ok-clause-good c =
    let found = c.in-Ok.ensures.compiled in
    let from : IsCompiledFrom c.args.text.now c.args.options.age c.args.options.enable c.args.options.block c.in-Ok.compiled = record { program = found.0; is = found.1 } in
    (found.0, compiled_accepted c.one_at_age_law.ensures.accepted c.args.text.now c.args.options.age c.args.options.enable c.args.options.block c.in-Ok.compiled from)
