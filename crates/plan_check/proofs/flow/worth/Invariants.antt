use Rattle.std.proofs.Common.{◌≡◌, ◌*◌, ◌^◌, pos, drop}
use Rattle.std.specs.Prelude.{◌+ℤ◌, ◌≤ℤ◌, neg_ℤ}
use Rattle.raster_delay.specs.Network.{worth}
use Rattle.plan_check.specs.Sums.{carriers, amounts}
use Rattle.plan_check.proofs.flow.worth.Given as goal

abbrev pub invariant-loop-line : goal.invariant-loop-line
invariant-loop-line l = record {
  sum : l.sum +ℤ worth (carriers l.system (drop l.line-index l.flow)) (amounts (drop l.line-index l.flow)) ≡ worth (carriers l.system l.flow) (amounts l.flow);
  low : neg_ℤ (pos (l.line-index * 2 ^ 89)) ≤ℤ l.sum;
  high : l.sum ≤ℤ pos (l.line-index * 2 ^ 89);
}
