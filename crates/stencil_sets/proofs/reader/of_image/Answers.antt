use Rattle.std.proofs.Common.{◌+◌, drop, slice_index_or, pos}
use Rattle.stencil_sets.specs.declared.path.Rect.{Rect}
use Rattle.stencil_sets.proofs.Rows.{drop_step}
use Rattle.stencil_sets.proofs.Readers.{chosen_step}
use Rattle.stencil_sets.proofs.reader.of_image.Goals as goal

pub loop-rect-preserved : goal.loop-rect-preserved
loop-rect-preserved c =
    let rects = c.args.rects.now in
    let i = c.loop-rect.rect-index in
    let none : Rect = record { image = 0; across = record { least = pos 0; greatest = pos 0 }; down = record { least = pos 0; greatest = pos 0 } } in
    chosen_step rects (drop i rects) (drop (i + 1) rects) c.loop-rect.chosen.items c.choose.new.chosen.items (slice_index_or rects i none) c.args.g
    (drop_step rects i none c.loop-rect-test.true) (c.requires.near i none c.loop-rect-test.true) c.in_ok-choose.ensures c.loop-rect.invariant
