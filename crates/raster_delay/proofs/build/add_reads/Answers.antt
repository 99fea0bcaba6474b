use Rattle.std.proofs.Common.{◌∷◌, [], ◌++◌, ◌<◌, take, map, get_or, length, pos, arith, sym, ◌∙◌, ap}
use Rattle.std.proofs.lemmas.List.{append_assoc, map_more}
use Rattle.raster_delay.specs.Delays.{read}
use Rattle.raster_delay.specs.declared.placed.PlacedRead.{PlacedRead}
use Rattle.raster_delay.proofs.build.add_reads.Goals as goal

pub loop-r-preserved : goal.loop-r-preserved
loop-r-preserved c =
    let one = read c.args.row c.args.age c.args.inputs in
    let old = c.args.all.now.items in
    let reads = c.args.reads.now in
    let i = c.loop-r.r-index in
    let none : PlacedRead = record { f = 0; g = 0; dx = pos 0; dy = pos 0 } in
    let below : i < length reads = omega arith in
    c.in_ok-push.ensures.items ∙ ap (λ xs. xs ++ c.read_constraint.result ∷ []) c.loop-r.invariant
    ∙ ap (λ x. (old ++ map one (take i reads)) ++ x ∷ []) c.read_constraint.ensures
    ∙ append_assoc old (map one (take i reads)) (one (get_or reads i none) ∷ [])
    ∙ ap (λ xs. old ++ xs) (sym (map_more one reads i none below))
