use Rattle.netlist.specs.Faults.{IsErrorBy}
use Rattle.netlist.specs.Passes.{IsPassFault}
use Rattle.netlist.proofs.Declaring.{if_err, port_error, declaration_error, scope_whole, all_differ}
use Rattle.netlist.proofs.declare.scope_of.Goals as goal

pub returns-in_err-add_all_ports-clause-fault : goal.returns-in_err-add_all_ports-clause-fault
returns-in_err-add_all_ports-clause-fault c =
    if_err (IsErrorBy (IsPassFault c.args.parts.now)) c.from_residual.result c.in_err-add_all_ports.field-0.0 c.from_residual.ensures.1 (port_error c.args.parts.now c.deref.result.now c.deref.ensures.value c.in_err-add_all_ports.field-0.0 c.in_err-add_all_ports.ensures.fault)

pub returns-in_err-add_declarations-clause-fault : goal.returns-in_err-add_declarations-clause-fault
returns-in_err-add_declarations-clause-fault c =
    if_err (IsErrorBy (IsPassFault c.args.parts.now)) c.from_residual-in_err-add_declarations.result c.in_err-add_declarations.field-0.0 c.from_residual-in_err-add_declarations.ensures.1
    (declaration_error c.args.parts.now c.deref.result.now c.deref.ensures.value c.deref-2.result.now c.deref-2.ensures.value c.add_all_ports.new.scope c.in_ok-add_all_ports.ensures.ok c.in_err-add_declarations.field-0.0 c.in_err-add_declarations.ensures.fault)

pub returns-clause-differ : goal.returns-clause-differ
returns-clause-differ c =
    all_differ c.args.parts.now c.add_declarations.new.scope
    (scope_whole c.args.parts.now c.deref.result.now c.deref.ensures.value c.deref-2.result.now c.deref-2.ensures.value c.add_all_ports.new.scope c.in_ok-add_all_ports.ensures.ok c.add_declarations.new.scope c.in_ok-add_declarations.ensures.ok) c.law.ensures
