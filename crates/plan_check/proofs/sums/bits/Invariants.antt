use Rattle.std.proofs.Common.{◌≡◌, ◌+◌, ◌*◌, ◌≤◌, ◌^◌, drop}
use Rattle.plan_check.specs.Sums.{bits_of_lines}
use Rattle.plan_check.proofs.sums.bits.Given as goal

abbrev pub invariant-loop-image : goal.invariant-loop-image
invariant-loop-image l = record {
  sum : l.total + bits_of_lines (drop l.image-index l.images) ≡ bits_of_lines l.images;
  near : l.total ≤ l.image-index * 2 ^ 72;
}
