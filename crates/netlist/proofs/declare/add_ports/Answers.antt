use Rattle.std.proofs.Common.{refl, length, ◌+◌, ◌++◌}
use Rattle.std.proofs.lemmas.Option.{slice_get_read}
use Rattle.netlist.specs.Scopes.{port_entries}
use Rattle.netlist.specs.Entries.{names_in, IsSecondPort}
use Rattle.netlist.specs.Faults.{IsErrorBy}
use Rattle.netlist.proofs.Declaring.{if_err, port_taken}
use Rattle.netlist.proofs.declare.add_ports.Goals as goal

pub returns-in_err-add-clause-fault : goal.returns-in_err-add-clause-fault
returns-in_err-add-clause-fault c =
    let at = slice_get_read c.args.ports.now (length c.args.ports.now) c.loop-k.k c.index-ports-k.result refl c.loop-k-test.true c.index-ports-k.is in
    if_err (IsErrorBy (IsSecondPort (names_in (c.args.scope.now ++ port_entries 0 0 c.args.ports.now)) (1 + length c.args.ports.now))) c.from_residual.result c.in_err-add.field-0.0 c.from_residual.ensures.1
    (port_taken c.loop-k.scope (c.args.scope.now ++ port_entries 0 0 c.args.ports.now) c.as_bytes.result.now c.args.ports.now c.loop-k.k c.loop-k.inputs c.loop-k.outputs c.index-ports-k.result at c.as_bytes.ensures.bytes c.loop-k.invariant.whole c.loop-k.invariant.size c.in_err-add.field-0.0 c.in_err-add.ensures)
