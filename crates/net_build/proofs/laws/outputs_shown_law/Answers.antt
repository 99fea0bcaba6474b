use Rattle.net_build.proofs.Finished.{output_shown}
use Rattle.net_build.proofs.laws.outputs_shown_law.Goals as goal

pub returns : goal.returns
returns c b sources k n at = output_shown b sources k n at
