use Rattle.std.proofs.Common.{◌≡◌, length, refl, Some, arith}
use Rattle.std.specs.Prelude.{slice_get}
use Rattle.std.proofs.lemmas.Option.{slice_get_read}
use Rattle.batch_rows.proofs.Order.{ordered_on, ordered_all}
use Rattle.batch_rows.proofs.ordered.orders.Goals as goal

pub loop-k-preserved : goal.loop-k-preserved
loop-k-preserved c =
    let code = c.args.code.now in
    let k = c.loop-k.k in
    let i = c.index-code-k.result in
    let at : slice_get code k ≡ Some i = slice_get_read code (length code) k i refl c.loop-k-test.true c.index-code-k.is in
    let yes = c.if-not-goes_on.false in
    ordered_on c.loop-k.seen c.goes_on.new.seen k code c.loop-k.invariant i at c.goes_on.ensures.keeps (c.goes_on.ensures.right yes) (c.goes_on.ensures.target yes) (c.goes_on.ensures.fresh yes) (c.goes_on.ensures.apart yes)

pub returns : goal.returns
returns c = λ _. ordered_all c.loop-k.seen c.loop-k.k c.args.code.now (omega (arith, c.loop-k-test.false)) c.loop-k.invariant
