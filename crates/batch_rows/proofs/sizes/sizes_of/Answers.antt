use Rattle.std.proofs.Common.{◌≡◌, ◌∙◌, ap, sym, List, length, refl, Some, rules}
use Rattle.std.specs.Prelude.{slice_get}
use Rattle.std.proofs.lemmas.Option.{slice_get_read}
use Rattle.lane_rows.specs.declared.row.Size.{Size}
use Rattle.batch_rows.proofs.Sized.{sized_more}
use Rattle.batch_rows.proofs.sizes.sizes_of.Goals as goal

pub loop-k-preserved : goal.loop-k-preserved
loop-k-preserved c =
    let code = c.args.code.now in
    let k = c.loop-k.k in
    let i = c.index-code-k.result in
    let at : slice_get code k ≡ Some i = slice_get_read code (length code) k i refl c.loop-k-test.true c.index-code-k.is in (
      search rules,
      λ j other t there got.
          sized_more c.args.widths.now code c.loop-k.sizes.items k c.size_of.result i c.loop-k.invariant.0 at c.size_of.ensures c.loop-k.invariant.1 j other t there
          (ap (λ (sizes : List Size). slice_get sizes j) (sym c.in_ok-push.ensures.items) ∙ got),
    )
