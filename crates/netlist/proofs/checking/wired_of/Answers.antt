use Rattle.netlist.specs.declared.fault.NetError.TheVariants.{Fault}
use Rattle.netlist.specs.Faults.{IsErrorBy}
use Rattle.netlist.specs.Passes.{IsPassFault}
use Rattle.netlist.proofs.Declaring.{if_err}
use Rattle.netlist.proofs.Driving.{targets, states, tables_here, passes_targets, twice_error, undriven_fault, passes_drivers, cycle_error, ordered_here}
use Rattle.netlist.proofs.checking.wired_of.Goals as goal

pub tables_of-requires-clause-targets : goal.tables_of-requires-clause-targets
tables_of-requires-clause-targets c = targets c.args.parts.now c.in_ok-wiring.wiring c.in_ok-wiring.ensures.netlist c.in_ok-wiring.ensures.passes

pub tables_of-requires-clause-states : goal.tables_of-requires-clause-states
tables_of-requires-clause-states c = states c.args.parts.now c.in_ok-wiring.wiring c.in_ok-wiring.ensures.netlist

pub returns-in_err-tables-clause-fault : goal.returns-in_err-tables-clause-fault
returns-in_err-tables-clause-fault c =
    if_err (IsErrorBy (IsPassFault c.args.parts.now)) c.from_residual-in_err-tables.result c.in_err-tables.field-0.0 c.from_residual-in_err-tables.ensures.1
    (twice_error c.args.parts.now c.in_ok-wiring.wiring c.in_ok-wiring.ensures.netlist c.in_ok-wiring.ensures.passes c.in_err-tables.field-0.0 c.in_err-tables.ensures.fault)

pub returns-in_err-check_driven-clause-fault : goal.returns-in_err-check_driven-clause-fault
returns-in_err-check_driven-clause-fault c =
    if_err (IsErrorBy (IsPassFault c.args.parts.now)) c.from_residual-in_err-check_driven.result (Fault c.in_err-check_driven.field-0.0) c.from_residual-in_err-check_driven.ensures.1
    (undriven_fault c.args.parts.now c.in_ok-scope.scope c.in_ok-scope.ensures.scope c.in_ok-tables.tables (tables_here c.args.parts.now c.in_ok-wiring.wiring c.in_ok-wiring.ensures.netlist c.in_ok-tables.tables c.in_ok-tables.ensures.tables) (passes_targets c.args.parts.now c.in_ok-wiring.wiring c.in_ok-wiring.ensures.netlist c.in_ok-wiring.ensures.passes c.in_ok-tables.tables c.in_ok-tables.ensures.tables) c.in_err-check_driven.field-0.0 c.in_err-check_driven.ensures.fault)

pub returns-in_err-order-clause-fault : goal.returns-in_err-order-clause-fault
returns-in_err-order-clause-fault c =
    let passes = passes_drivers c.args.parts.now c.in_ok-scope.scope c.in_ok-scope.ensures.scope c.in_ok-tables.tables (tables_here c.args.parts.now c.in_ok-wiring.wiring c.in_ok-wiring.ensures.netlist c.in_ok-tables.tables c.in_ok-tables.ensures.tables) (passes_targets c.args.parts.now c.in_ok-wiring.wiring c.in_ok-wiring.ensures.netlist c.in_ok-wiring.ensures.passes c.in_ok-tables.tables c.in_ok-tables.ensures.tables) c.in_ok-check_driven.ensures.ok in
    if_err (IsErrorBy (IsPassFault c.args.parts.now)) c.from_residual-in_err-order.result c.in_err-order.field-0.0 c.from_residual-in_err-order.ensures.1
    (cycle_error c.args.parts.now c.in_ok-wiring.wiring c.in_ok-wiring.ensures.netlist passes c.in_err-order.field-0.0 c.in_err-order.ensures.fault)

pub returns-clause-ok : goal.returns-clause-ok
returns-clause-ok c = record {
  netlist = c.in_ok-wiring.ensures.netlist;
  passes = passes_drivers c.args.parts.now c.in_ok-scope.scope c.in_ok-scope.ensures.scope c.in_ok-tables.tables (tables_here c.args.parts.now c.in_ok-wiring.wiring c.in_ok-wiring.ensures.netlist c.in_ok-tables.tables c.in_ok-tables.ensures.tables) (passes_targets c.args.parts.now c.in_ok-wiring.wiring c.in_ok-wiring.ensures.netlist c.in_ok-wiring.ensures.passes c.in_ok-tables.tables c.in_ok-tables.ensures.tables) c.in_ok-check_driven.ensures.ok;
  ordered = ordered_here c.args.parts.now c.in_ok-wiring.wiring c.in_ok-wiring.ensures.netlist c.in_ok-order.order.items c.in_ok-order.ensures.ok;
  sizes = c.in_ok-wiring.ensures.sizes;
  names = c.in_ok-scope.ensures.names;
}
