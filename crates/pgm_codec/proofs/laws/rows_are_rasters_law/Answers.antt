use Rattle.pgm_codec.proofs.Rows.{row_is_raster, rasters_joined, samples_placed}
use Rattle.pgm_codec.proofs.laws.rows_are_rasters_law.Goals as goal

pub returns-clause-row : goal.returns-clause-row
returns-clause-row c = row_is_raster

pub returns-clause-joined : goal.returns-clause-joined
returns-clause-joined c = rasters_joined

pub returns-clause-samples : goal.returns-clause-samples
returns-clause-samples c = samples_placed
