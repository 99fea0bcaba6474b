use Rattle.std.proofs.Common.{◌∷◌, [], ◌++◌, ◌-◌, map, arith, sym, ◌∙◌, ap}
use Rattle.std.specs.List.{range_with_len}
use Rattle.std.proofs.lemmas.List.{append_assoc}
use Rattle.std.proofs.lemmas.List.FromFn.{map-range_with_len_more}
use Rattle.raster_delay.specs.Delays.{start}
use Rattle.raster_delay.proofs.build.add_starts.Goals as goal

pub loop-k-preserved : goal.loop-k-preserved
loop-k-preserved c =
    let k = c.loop-k.k in
    let i = c.args.inputs in
    let one = start i in
    let old = c.args.all.now.items in
    c.in_ok-push.ensures.items ∙ ap (λ xs. xs ++ c.start_constraint.result ∷ []) c.loop-k.invariant
    ∙ ap (λ x. (old ++ map one (range_with_len i (k - i))) ++ x ∷ []) c.start_constraint.ensures
    ∙ append_assoc old (map one (range_with_len i (k - i))) (one k ∷ [])
    ∙ ap (λ xs. old ++ xs) (sym (map-range_with_len_more one i (k - i) k (omega arith)) ∙ ap (λ n. map one (range_with_len i n)) (omega arith))
