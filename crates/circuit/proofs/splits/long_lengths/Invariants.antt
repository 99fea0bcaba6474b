use Rattle.std.proofs.Common.{◌≡◌, ◌++◌, drop, filter, flat_map, nat_lt}
use Rattle.dk_base.specs.declared.stencils.Image.{Image}
use Rattle.buffer_plan.specs.Plans.{ages_of}
use Rattle.circuit.specs.Divided.{segments, all_segments}
use Rattle.circuit.proofs.splits.long_lengths.Given as goal

abbrev pub invariant-loop-image : goal.invariant-loop-image
invariant-loop-image l =
    l.lengths.items ++ filter (nat_lt l.least) (flat_map (λ (i : Image). segments 0 (ages_of l.plan i.number)) (drop l.image-index l.images)) ≡ filter (nat_lt l.least) (all_segments l.plan)
