use Rattle.std.proofs.Common.{ℕ, ◌<◌, pos, slice_index_or}
use Rattle.std.specs.Prelude.{◌<ℤ◌}
use Rattle.dk_base.specs.Types.{above}
use Rattle.pointwise_eval.proofs.fit.elements_fit.Given as goal

abbrev pub invariant-loop-element : goal.invariant-loop-element
invariant-loop-element g l = (k : ℕ) (d : g.row.T.Denot) → k < l.element-index → g.T.Element.worth (slice_index_or l.elements k d) <ℤ pos (above l.fn.ty)
