use Rattle.std.proofs.Common.{length, refl, arith}
use Rattle.std.proofs.lemmas.Option.{slice_get_read}
use Rattle.batch_sim.proofs.Vectors.{long_more}
use Rattle.batch_sim.proofs.rows.are_long.Goals as goal

pub loop-x-preserved : goal.loop-x-preserved
loop-x-preserved c =
    let lists = c.args.lists.now in
    let k = c.loop-x.x in
    let at = slice_get_read lists (length lists) k c.index-lists-x.result refl c.loop-x-test.true c.index-lists-x.is in
    long_more lists k c.args.count c.index-lists-x.result at (omega (arith, c.if-len-count.false, c.len.ensures)) c.loop-x.invariant
