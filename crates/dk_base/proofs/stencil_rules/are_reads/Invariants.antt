use Rattle.std.proofs.Common.{ℕ, ◌<◌, slice_index_or}
use Rattle.dk_base.specs.declared.stencils.LiveRead.{LiveRead}
use Rattle.dk_base.specs.Stencils.{IsRead}
use Rattle.dk_base.proofs.stencil_rules.are_reads.Given as goal

abbrev pub invariant-loop-read : goal.invariant-loop-read
invariant-loop-read l = (k : ℕ) (d : LiveRead) → k < l.read-index → IsRead l.width l.height l.inputs l.images (slice_index_or l.reads k d)
