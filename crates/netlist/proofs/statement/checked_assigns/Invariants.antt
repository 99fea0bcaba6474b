use Rattle.std.proofs.Common.{◌≡◌, take}
use Rattle.wiring.specs.Netlist.{netlist_of}
use Rattle.netlist.specs.Scopes.{collected, assign_named}
use Rattle.netlist.specs.Statements.{IsGoodAssign}
use Rattle.netlist.proofs.Resolving.{Before}
use Rattle.netlist.proofs.statement.checked_assigns.Given as goal

abbrev pub invariant-loop-k : goal.invariant-loop-k
invariant-loop-k l = record {
  made : l.assigns.items ≡ collected (assign_named l.scope) (take l.k l.named);
  good : Before (IsGoodAssign l.scope (netlist_of l.wiring)) l.named l.k;
}
