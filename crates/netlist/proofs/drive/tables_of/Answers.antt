use Rattle.wiring.specs.Netlist.{netlist_of}
use Rattle.netlist.specs.Faults.{IsErrorBy}
use Rattle.netlist.specs.Driven.{IsDrivenTwice}
use Rattle.netlist.proofs.Declaring.{if_err}
use Rattle.netlist.proofs.Driving.{second_assign, second_update}
use Rattle.netlist.proofs.drive.tables_of.Goals as goal

pub returns-in_err-drivers-clause-fault : goal.returns-in_err-drivers-clause-fault
returns-in_err-drivers-clause-fault c =
    if_err (IsErrorBy (IsDrivenTwice (netlist_of c.args.wiring.now))) c.from_residual.result c.in_err-drivers.field-0.0 c.from_residual.ensures.1
    (second_assign (netlist_of c.args.wiring.now) c.in_err-drivers.field-0.0 c.in_err-drivers.ensures.fault)

pub returns-in_err-updaters-clause-fault : goal.returns-in_err-updaters-clause-fault
returns-in_err-updaters-clause-fault c =
    if_err (IsErrorBy (IsDrivenTwice (netlist_of c.args.wiring.now))) c.from_residual-in_err-updaters.result c.in_err-updaters.field-0.0 c.from_residual-in_err-updaters.ensures.1
    (second_update (netlist_of c.args.wiring.now) c.in_ok-drivers.drivers c.in_ok-drivers.ensures.ok c.in_err-updaters.field-0.0 c.in_err-updaters.ensures.fault)
