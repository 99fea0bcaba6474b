use Rattle.std.proofs.Common.{ap, arith, ◌∙◌, map, length}
use Rattle.std.specs.List.{range_with_len}
use Rattle.pgm_codec.specs.Images.{sample_size}
use Rattle.pgm_codec.specs.Rasters.{sample_at}
use Rattle.row_stream.proofs.Batches.{made_of, room_at}
use Rattle.row_stream.proofs.batch.fill_samples.Goals as goal

pub sample-requires : goal.sample-requires
sample-requires c = room_at c.loop-column.column (length c.args.dins.now.items) (sample_size c.args.maxval) (length c.args.row.now) c.len-column-end.result c.loop-column-test.true (omega (arith, c.len-column-end.ensures)) c.requires

pub returns-clause-is : goal.returns-clause-is
returns-clause-is c =
    made_of (λ k. sample_at c.args.maxval c.args.row.now k) c.loop-column.dins.items (λ k l. c.loop-column.invariant.done k (omega (arith, l, c.len-column-end.ensures, c.loop-column.invariant.count, c.loop-column-test.false)))
    ∙ ap (λ n. map (λ k. sample_at c.args.maxval c.args.row.now k) (range_with_len 0 n)) c.loop-column.invariant.count
