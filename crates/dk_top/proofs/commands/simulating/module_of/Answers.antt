use Rattle.std.proofs.Common.{refl, rules}
use Rattle.dk_top.specs.Simulation.{of_ports}
use Rattle.dk_top.proofs.SimReads.{told_ending}
use Rattle.dk_top.proofs.commands.simulating.module_of.Goals as goal

pub returns-in-Err-Fault-clause-fault : goal.returns-in-Err-Fault-clause-fault
returns-in-Err-Fault-clause-fault c = told_ending c.in-Err-Fault.fault c.of.result c.of.ensures c.args.hold c.args.text.now c.requires (search rules)

pub returns-in-Err-NoEnable-clause-fault : goal.returns-in-Err-NoEnable-clause-fault
returns-in-Err-NoEnable-clause-fault c = (c.requires, of_ports c.in-Err-NoEnable.span (record { holds = search rules; lacks = search rules }) refl)
