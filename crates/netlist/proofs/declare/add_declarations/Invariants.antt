use Rattle.std.proofs.Common.{◌≡◌, ◌+◌, ◌≤◌, ◌++◌, drop, length, true}
use Rattle.net_names.specs.Words.{is_name}
use Rattle.netlist.specs.declared.parts.Declaration.{Declaration}
use Rattle.netlist.specs.Scopes.{declared_entries}
use Rattle.netlist.proofs.Resolving.{Before}
use Rattle.netlist.proofs.declare.add_declarations.Given as goal

abbrev pub invariant-loop-k : goal.invariant-loop-k
invariant-loop-k l = record {
  whole : l.scope ++ declared_entries l.counts.wires l.counts.regs l.counts.arrays (drop l.k l.declarations) ≡ l.fn.scope ++ declared_entries 0 0 0 l.declarations;
  size : length l.scope ≡ length l.fn.scope + l.k;
  wires : l.counts.wires ≤ l.k;
  regs : l.counts.regs ≤ l.k;
  arrays : l.counts.arrays ≤ l.k;
  names : Before (λ (d : Declaration). is_name d.name ≡ true) l.declarations l.k;
}
