use Rattle.std.proofs.Common.{ℕ, ◌+◌, ◌<◌, slice_index_or}
use Rattle.dk_base.specs.declared.stencils.LiveRead.{LiveRead}
use Rattle.dk_base.specs.Stencils.{IsBefore}
use Rattle.dk_base.proofs.stencil_rules.are_in_order.Given as goal

abbrev pub invariant-loop-k : goal.invariant-loop-k
invariant-loop-k l = (i : ℕ) (d : LiveRead) → i + 1 < l.k → IsBefore (slice_index_or l.reads i d) (slice_index_or l.reads (i + 1) d)
