use Rattle.std.proofs.Common.{take}
use Rattle.dk_types.specs.Types.{AreOutputs}
use Rattle.dk_types.proofs.items.outputs.Given as goal

abbrev pub invariant-loop-k : goal.invariant-loop-k
invariant-loop-k l = AreOutputs l.scope (take l.k l.items) l.done.items
