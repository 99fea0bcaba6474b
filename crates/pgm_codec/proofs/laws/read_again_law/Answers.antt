use Rattle.pgm_codec.proofs.RoundTrip.{all_written}
use Rattle.pgm_codec.proofs.laws.read_again_law.Goals as goal

pub returns : goal.returns
returns c = λ pictures some few a. (some, few, all_written pictures a)
