use Rattle.std.proofs.Common.{◌∷◌, [], ◌++◌, ◌<◌, take, map, length, pos, arith, sym, ◌∙◌, ap}
use Rattle.std.proofs.lemmas.List.{map_more}
use Rattle.dk_base.specs.declared.stencils.LiveRead.{LiveRead}
use Rattle.raster_delay.specs.Placing.{placed}
use Rattle.raster_delay.proofs.placed.placed_reads.Goals as goal

pub loop-r-preserved : goal.loop-r-preserved
loop-r-preserved c =
    let one = placed c.args.images.now in
    let reads = c.args.reads.now in
    let i = c.loop-r.r-index in
    let none : LiveRead = record { f = 0; g = 0; dx = pos 0; dy = pos 0 } in
    let below : i < length reads = omega arith in
    c.in_ok-push.ensures.items ∙ ap (λ xs. xs ++ c.placed_read.result ∷ []) c.loop-r.invariant
    ∙ ap (λ x. map one (take i reads) ++ x ∷ []) c.placed_read.ensures
    ∙ sym (map_more one reads i none below)
