use Rattle.std.proofs.Common.{◌<◌, ◌≤◌, ℕ, false}
use Rattle.pgm_codec.specs.Rasters.{sample_by}
use Rattle.pgm_codec.proofs.raster.great_pair.Given as goal

abbrev pub invariant-loop-index : goal.invariant-loop-index
invariant-loop-index l = (k : ℕ) → k < l.index → sample_by false l.raster k ≤ l.most
