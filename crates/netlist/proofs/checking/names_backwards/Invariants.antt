use Rattle.std.proofs.Common.{◌≡◌, ◌++◌}
use Rattle.std.specs.Prelude.{reverse, vec_len}
use Rattle.netlist.specs.Scopes.{collected, wire_name, reg_name, array_name}
use Rattle.netlist.proofs.checking.names_backwards.Given as goal

abbrev pub invariant-loop-declaration : goal.invariant-loop-declaration
invariant-loop-declaration l = record {
  top : l.names.module ≡ l.fn.name;
  wires : collected wire_name l.declarations.items ++ reverse l.names.wires.items ≡ collected wire_name l.fn.declarations.items;
  regs : collected reg_name l.declarations.items ++ reverse l.names.regs.items ≡ collected reg_name l.fn.declarations.items;
  arrays : collected array_name l.declarations.items ++ reverse l.names.arrays.items ≡ collected array_name l.fn.declarations.items;
}

abbrev pub decreases-loop-declaration : goal.decreases-loop-declaration
decreases-loop-declaration l = vec_len l.declarations
