use Rattle.std.proofs.Common.{◌++◌, List, ℕ, drop}
use Rattle.std.specs.List.{AllZip}
use Rattle.dk_base.specs.declared.stencils.Image.{Image}
use Rattle.buffer_plan.specs.Plans.{ages_of}
use Rattle.circuit.specs.Splits.{lists_of}
use Rattle.circuit.specs.Divided.{AreDivided, AreSplits, all_segments}
use Rattle.circuit.proofs.splits.finer_ages.Given as goal

abbrev pub invariant-loop-image : goal.invariant-loop-image
invariant-loop-image l =
    (rest : List (List ℕ)) → AllZip (λ (i : Image) split. AreDivided l.least (all_segments l.plan) 0 (ages_of l.plan i.number) split) (drop l.image-index l.images) rest
    → AreSplits l.least l.plan (lists_of l.splits.items ++ rest)
