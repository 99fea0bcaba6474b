use Rattle.pgm_codec.proofs.Unique.{one_front}
use Rattle.pgm_codec.proofs.RoundTrip.{one_image, one_file}
use Rattle.pgm_codec.proofs.laws.one_reading_law.Goals as goal

pub returns-clause-headers : goal.returns-clause-headers
returns-clause-headers c = λ first second rest more a b e. one_front first second rest more a b e

pub returns-clause-images : goal.returns-clause-images
returns-clause-images c = one_image

pub returns-clause-files : goal.returns-clause-files
returns-clause-files c = one_file
