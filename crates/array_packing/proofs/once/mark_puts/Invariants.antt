use Rattle.std.proofs.Common.{List, Bool, drop}
use Rattle.wiring.specs.Snapshot.{update_accesses, accesses_of}
use Rattle.array_packing.specs.Packing.{Marks}
use Rattle.array_packing.proofs.once.mark_puts.Given as goal

abbrev pub invariant-loop-update : goal.invariant-loop-update
invariant-loop-update l = (new : List Bool) → Marks l.seen new (accesses_of update_accesses (drop l.update-index l.updates)) → Marks l.fn.seen new (accesses_of update_accesses l.updates)
