use Rattle.std.proofs.Common.{◌≡◌, take}
use Rattle.netlist.specs.declared.parts.Declaration.{Declaration}
use Rattle.netlist.specs.Scopes.{collected, wire_width, reg_width, array_shape, SortFits}
use Rattle.netlist.proofs.Resolving.{Before}
use Rattle.netlist.proofs.declare.sorts_of.Given as goal

abbrev pub invariant-loop-declaration : goal.invariant-loop-declaration
invariant-loop-declaration l = record {
  wires : l.sorts.wires.items ≡ collected (λ (d : Declaration). wire_width d.sort) (take l.declaration-index l.declarations);
  regs : l.sorts.regs.items ≡ collected (λ (d : Declaration). reg_width d.sort) (take l.declaration-index l.declarations);
  arrays : l.sorts.arrays.items ≡ collected (λ (d : Declaration). array_shape d.sort) (take l.declaration-index l.declarations);
  fit : Before (λ (d : Declaration). SortFits d.sort) l.declarations l.declaration-index;
}
