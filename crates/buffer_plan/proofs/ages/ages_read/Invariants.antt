use Rattle.std.proofs.Common.{◌≡◌, take}
use Rattle.buffer_plan.specs.Plans.{ages_in}
use Rattle.buffer_plan.proofs.ages.ages_read.Given as goal

abbrev pub invariant-loop-r : goal.invariant-loop-r
invariant-loop-r l = l.ages.items ≡ ages_in l.row l.delays l.k (take l.r-index l.reads)
