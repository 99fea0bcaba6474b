use Rattle.std.proofs.Common.{◌≡◌, ◌∙◌, ◌/◌, false, arith, rules, length, subst, sym, ap}
use Rattle.std.proofs.lemmas.Iterator.{items_from_collect, YieldsList-from_map, YieldsList-from_slice}
use Rattle.std.specs.Result.{IfOk}
use Rattle.std.specs.Slice.Iter.{iter_rest}
use Rattle.std.proofs.lemmas.Result.{IfOk-weaker}
use Rattle.pgm_rounds.specs.Standing.{AreSamples}
use Rattle.pgm_rounds.proofs.Pairs.{joined, joined_all, are_pairs}
use Rattle.pgm_rounds.proofs.image.pairs_of.Goals as goal

pub returns : goal.returns
returns c =
    let raster = c.args.raster.now in
    let count = c.args.count in
    let front = c.split_at.result.0.now in
    let half = length front / 2 in
    let read : IfOk c.collect.result (λ read. read.items ≡ joined_all half front) =
    items_from_collect c.collect.result c.collect.ensures.ran (YieldsList-from_map {s = c.map.result} _ joined (YieldsList-from_slice _ (ap iter_rest c.map.ensures.source ∙ c.iter.ensures.rest ∙ c.as_chunks.ensures.front)) c.map.ensures.closure (λ x r q k. search rules)) in
    IfOk-weaker c.collect.result _ _ (λ read is. subst (λ x. AreSamples false raster count x) (sym is) (are_pairs raster front count half c.requires c.split_at.ensures.front (omega (arith, c.split_at.ensures.front_len, c.requires)))) read
