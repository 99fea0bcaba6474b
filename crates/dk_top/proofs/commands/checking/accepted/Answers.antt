use Rattle.dk_top.proofs.commands.checking.accepted.Goals as goal

pub returns-in-Err-clause-fault : goal.returns-in-Err-clause-fault
returns-in-Err-clause-fault c = c.ending_of.ensures.fault c.args.text.now c.in-Err.ensures.fault
