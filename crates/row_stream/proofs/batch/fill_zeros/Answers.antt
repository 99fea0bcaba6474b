use Rattle.std.proofs.Common.{ap, arith, ◌∙◌, map}
use Rattle.std.specs.List.{range_with_len}
use Rattle.row_stream.proofs.Batches.{made_of}
use Rattle.row_stream.proofs.batch.fill_zeros.Goals as goal

pub returns-clause-is : goal.returns-clause-is
returns-clause-is c =
    made_of (λ k. 0) c.loop-column.dins.items (λ k l. c.loop-column.invariant.done k (omega (arith, l, c.len-column-end.ensures, c.loop-column.invariant.count, c.loop-column-test.false)))
    ∙ ap (λ n. map (λ k. 0) (range_with_len 0 n)) c.loop-column.invariant.count
