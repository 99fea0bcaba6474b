use Rattle.netlist.specs.Names.{names_of}
use Rattle.netlist.specs.Scopes.{netlist_of_parts, module_of}
use Rattle.netlist.specs.Faults.{IsFault, IsErrorBy}
use Rattle.netlist.proofs.Declaring.{if_err}
use Rattle.netlist.proofs.Ruled.{ruled_error}
use Rattle.netlist.proofs.Making.{is_module, rules_here, names_here, module_here}
use Rattle.netlist.proofs.module.Module.checked.Goals as goal

pub in_order-made-requires-clause-rules : goal.in_order-made-requires-clause-rules
in_order-made-requires-clause-rules c =
    let wired = c.in_ok-wiring.ensures.ok in
    let acyclic = c.no_cycle_law.ensures (netlist_of_parts c.args.parts) c.in_ok-wiring.field-0.order.items wired.ordered in
    rules_here c.args.parts c.in_ok-wiring.field-0 wired acyclic (c.rules_kept_law.ensures.rules c.args.parts (module_of c.args.parts) wired.sizes (is_module c.args.parts c.in_ok-wiring.field-0 wired acyclic))

pub in_order-made-requires-clause-names : goal.in_order-made-requires-clause-names
in_order-made-requires-clause-names c =
    let wired = c.in_ok-wiring.ensures.ok in
    let acyclic = c.no_cycle_law.ensures (netlist_of_parts c.args.parts) c.in_ok-wiring.field-0.order.items wired.ordered in
    names_here c.args.parts c.in_ok-wiring.field-0 wired acyclic (names_of c.in_ok-names.names) c.in_ok-names.ensures
    (c.rules_kept_law.ensures.names c.args.parts (module_of c.args.parts) wired.names (is_module c.args.parts c.in_ok-wiring.field-0 wired acyclic))

pub returns-clause-made : goal.returns-clause-made
returns-clause-made c =
    let wired = c.in_ok-wiring.ensures.ok in
    let acyclic = c.no_cycle_law.ensures (netlist_of_parts c.args.parts) c.in_ok-wiring.field-0.order.items wired.ordered in
    module_here c.args.parts c.in_ok-wiring.field-0 wired acyclic (names_of c.in_ok-names.names) c.in_ok-names.ensures c.in_order-made.result c.in_order-made.ensures

pub returns-in_err-wiring-clause-fault : goal.returns-in_err-wiring-clause-fault
returns-in_err-wiring-clause-fault c =
    if_err (IsErrorBy (IsFault c.args.parts)) c.from_residual.result c.in_err-wiring.field-0.0 c.from_residual.ensures.1 (ruled_error c.args.parts c.in_err-wiring.field-0.0 c.in_err-wiring.ensures.fault)
