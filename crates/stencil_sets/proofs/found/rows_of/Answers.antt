use Rattle.std.proofs.Common.{arith, rules, ◌+ℤ◌, pos, slice_index_or, to_z, w32}
use Rattle.std.proofs.lemmas.Int.{ints, to_z-of_z}
use Rattle.stencil_sets.specs.declared.path.Rect.{Rect}
use Rattle.stencil_sets.specs.Paths.{IsNearRect}
use Rattle.frame_paths.proofs.Spreads.{small32}
use Rattle.stencil_sets.proofs.Rows.{range_more}
use Rattle.stencil_sets.proofs.found.rows_of.Goals as goal

pub loop-rect-preserved : goal.loop-rect-preserved
loop-rect-preserved c =
    let rects = c.args.rects.now in
    let i = c.loop-rect.rect-index in
    let none : Rect = record { image = 0; across = record { least = pos 0; greatest = pos 0 }; down = record { least = pos 0; greatest = pos 0 } } in
    let near : IsNearRect (slice_index_or rects i none) = c.requires i none c.loop-rect-test.true in
    let low = small32 (slice_index_or rects i none).down.least (omega (arith, near.down.least)) in
    let high = small32 (slice_index_or rects i none).down.greatest (omega (arith, near.down.greatest)) in
    let more = small32 ((slice_index_or rects i none).down.greatest +ℤ pos 1) (omega (arith, ints, near.down.greatest)) in
    range_more rects i none (to_z w32 c.loop-rect.first-bits) _ (to_z w32 c.loop-rect.end-bits) _ c.loop-rect-test.true near c.loop-rect.invariant
    (cc (to_z-of_z w32 c.min-first.result (search rules), c.min-first.ensures.value, low)) (cc (to_z-of_z w32 c.max-end.result (search rules), c.max-end.ensures.value, high, more))
