use Rattle.netlist.specs.Faults.{IsErrorBy}
use Rattle.netlist.specs.Passes.{IsPassFault}
use Rattle.netlist.proofs.Declaring.{if_err}
use Rattle.netlist.proofs.Fine.{assigns_error, assigns_fine, assigns_sized, updates_error, all_updates_fine, updates_sized}
use Rattle.netlist.proofs.checking.wiring_of.Goals as goal

pub returns-in_err-assigns-clause-fault : goal.returns-in_err-assigns-clause-fault
returns-in_err-assigns-clause-fault c =
    if_err (IsErrorBy (IsPassFault c.args.parts.now)) c.from_residual-in_err-assigns.result c.in_err-assigns.field-0.0 c.from_residual-in_err-assigns.ensures.1
    (assigns_error c.args.parts.now c.in_ok-nets.nets c.in_ok-nets.ensures.nets c.args.scope.now c.requires.scope c.deref.result.now c.deref.ensures.value c.requires.passes c.in_err-assigns.field-0.0 c.in_err-assigns.ensures.wrong)

pub returns-in_err-updates-clause-fault : goal.returns-in_err-updates-clause-fault
returns-in_err-updates-clause-fault c =
    let fine = assigns_fine c.args.parts.now c.in_ok-nets.nets c.in_ok-nets.ensures.nets c.args.scope.now c.requires.scope c.deref.result.now c.deref.ensures.value c.in_ok-assigns.ensures.good in
    if_err (IsErrorBy (IsPassFault c.args.parts.now)) c.from_residual-in_err-updates.result c.in_err-updates.field-0.0 c.from_residual-in_err-updates.ensures.1
    (updates_error c.args.parts.now c.in_ok-nets.nets c.in_ok-nets.ensures.nets c.args.scope.now c.requires.scope c.deref-2.result.now c.deref-2.ensures.value c.requires.passes fine c.in_err-updates.field-0.0 c.in_err-updates.ensures.wrong)

pub returns-clause-passes : goal.returns-clause-passes
returns-clause-passes c = record {
  before = c.requires.passes;
  assigns = assigns_fine c.args.parts.now c.in_ok-nets.nets c.in_ok-nets.ensures.nets c.args.scope.now c.requires.scope c.deref.result.now c.deref.ensures.value c.in_ok-assigns.ensures.good;
  updates = all_updates_fine c.args.parts.now c.in_ok-nets.nets c.in_ok-nets.ensures.nets c.args.scope.now c.requires.scope c.deref-2.result.now c.deref-2.ensures.value c.in_ok-updates.ensures.good;
}

pub returns-clause-sizes : goal.returns-clause-sizes
returns-clause-sizes c = record {
  declarations = c.in_ok-nets.ensures.fit;
  assigns = assigns_sized c.args.parts.now c.in_ok-nets.nets c.in_ok-nets.ensures.nets c.args.scope.now c.requires.scope c.deref.result.now c.deref.ensures.value c.in_ok-assigns.ensures.good;
  updates = updates_sized c.args.parts.now c.in_ok-nets.nets c.in_ok-nets.ensures.nets c.args.scope.now c.requires.scope c.deref-2.result.now c.deref-2.ensures.value c.in_ok-updates.ensures.good;
}
