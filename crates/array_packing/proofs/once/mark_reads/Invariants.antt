use Rattle.std.proofs.Common.{List, Bool, drop}
use Rattle.wiring.specs.declared.netlist.Assign.{Assign}
use Rattle.wiring.specs.Snapshot.{right_accesses, accesses_of}
use Rattle.array_packing.specs.Packing.{Marks}
use Rattle.array_packing.proofs.once.mark_reads.Given as goal

abbrev pub invariant-loop-assign : goal.invariant-loop-assign
invariant-loop-assign l = (new : List Bool) → Marks l.seen new (accesses_of (λ (a : Assign). right_accesses a.right) (drop l.assign-index l.assigns)) → Marks l.fn.seen new (accesses_of (λ (a : Assign). right_accesses a.right) l.assigns)
