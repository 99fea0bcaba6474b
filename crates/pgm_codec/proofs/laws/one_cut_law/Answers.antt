use Rattle.pgm_codec.proofs.Cuts.{one_cut}
use Rattle.pgm_codec.proofs.laws.one_cut_law.Goals as goal

pub returns : goal.returns
returns c = one_cut
