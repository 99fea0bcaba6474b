use Rattle.std.proofs.Common.{◌∙◌, ◌%◌, rules, ap}
use Rattle.std.specs.Slice.Iter.{iter_rest}
use Rattle.std.proofs.lemmas.Iterator.{YieldsList-from_map, YieldsList-from_slice}
use Rattle.std.proofs.lemmas.Iterator.Adapters.{items_from_extend}
use Rattle.std.proofs.lemmas.Result.{IfOk-weaker}
use Rattle.pgm_rounds.proofs.writing.add_low_bytes.Goals as goal

pub returns : goal.returns
returns c =
    let given = items_from_extend c.extend.result c.extend.ensures.ran (YieldsList-from_map _ (λ s. s % 256) (YieldsList-from_slice c.args.samples.now (ap iter_rest c.map.ensures.source ∙ c.iter.ensures.rest)) c.map.ensures.closure (λ x r q k. search rules)) in
    IfOk-weaker c.extend.result _ _ (λ done given. given.0) given
