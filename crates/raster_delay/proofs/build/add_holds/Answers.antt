use Rattle.std.proofs.Common.{◌∷◌, [], ◌++◌, map, arith, sym, ◌∙◌, ap}
use Rattle.std.specs.List.{range_with_len}
use Rattle.std.proofs.lemmas.List.{append_assoc}
use Rattle.std.proofs.lemmas.List.FromFn.{map-range_with_len_more}
use Rattle.raster_delay.specs.Delays.{hold}
use Rattle.raster_delay.proofs.build.add_holds.Goals as goal

pub loop-k-preserved : goal.loop-k-preserved
loop-k-preserved c =
    let k = c.loop-k.k in
    let one = hold c.args.inputs c.args.images in
    let old = c.args.all.now.items in
    c.in_ok-push.ensures.items ∙ ap (λ xs. xs ++ c.hold_constraint.result ∷ []) c.loop-k.invariant
    ∙ ap (λ x. (old ++ map one (range_with_len 0 k)) ++ x ∷ []) c.hold_constraint.ensures
    ∙ append_assoc old (map one (range_with_len 0 k)) (one k ∷ [])
    ∙ ap (λ xs. old ++ xs) (sym (map-range_with_len_more one 0 k k (omega arith)))
