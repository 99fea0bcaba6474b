use Rattle.std.proofs.Common.{◌≡◌, ℕ, ◌<◌, length}
use Rattle.std.specs.Prelude.{slice_index}
use Rattle.pgm_codec.specs.Rasters.{sample_at}
use Rattle.row_stream.proofs.batch.fill_samples.Given as goal

abbrev pub invariant-loop-column : goal.invariant-loop-column
invariant-loop-column l = record {
  count : length l.dins.items ≡ length l.fn.dins.items;
  done : (k : ℕ) → k < l.column → slice_index l.dins.items k ≡ sample_at l.maxval l.row k;
}
