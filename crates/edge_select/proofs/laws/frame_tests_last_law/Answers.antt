use Rattle.edge_select.proofs.Framed.{tests_more}
use Rattle.edge_select.proofs.laws.frame_tests_last_law.Goals as goal

pub returns : goal.returns
returns c b a size tests f is = tests_more b a size tests f is
