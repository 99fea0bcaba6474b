use Rattle.net_build.proofs.Stops.{run_goes_on}
use Rattle.net_build.proofs.laws.runs_on_law.Goals as goal

pub returns : goal.returns
returns c m part from clocks whole on start fit reset = run_goes_on m part from clocks whole on start fit reset
