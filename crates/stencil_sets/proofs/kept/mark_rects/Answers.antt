use Rattle.std.proofs.Common.{pos}
use Rattle.stencil_sets.specs.declared.path.Rect.{Rect}
use Rattle.stencil_sets.proofs.Marked.{rects_more}
use Rattle.stencil_sets.proofs.kept.mark_rects.Goals as goal

pub loop-rect-preserved : goal.loop-rect-preserved
loop-rect-preserved c =
    let none : Rect = record { image = 0; across = record { least = pos 0; greatest = pos 0 }; down = record { least = pos 0; greatest = pos 0 } } in
    rects_more c.args.kept.now c.loop-rect.kept c.mark_rect.new.kept c.args.rects.now c.loop-rect.rect-index none c.loop-rect-test.true c.loop-rect.invariant c.mark_rect.ensures.more
