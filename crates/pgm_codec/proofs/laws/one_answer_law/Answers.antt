use Rattle.pgm_codec.proofs.Unique.{one_answer}
use Rattle.pgm_codec.proofs.Judged.{one_raster_answer}
use Rattle.pgm_codec.proofs.laws.one_answer_law.Goals as goal

pub returns-clause-header : goal.returns-clause-header
returns-clause-header c = one_answer

pub returns-clause-raster : goal.returns-clause-raster
returns-clause-raster c = one_raster_answer
