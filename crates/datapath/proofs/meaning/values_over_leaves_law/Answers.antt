use Rattle.std.proofs.Common.{◌∙◌}
use Rattle.net_build.proofs.Runs.{clock_contents, clock_inputs}
use Rattle.datapath.proofs.Meant.{value_of_leaves}
use Rattle.datapath.proofs.meaning.values_over_leaves_law.Goals as goal

pub returns-clause-value : goal.returns-clause-value
returns-clause-value c size known e x y reads bits is = value_of_leaves size known e x y reads bits 0 0 is

pub returns-clause-net : goal.returns-clause-net
returns-clause-net c b m s size known e x y reads bits n lowered part valuation is = lowered.value m s part valuation ∙ value_of_leaves size known e x y _ _ 0 0 is

pub returns-clause-run : goal.returns-clause-run
returns-clause-run c b m from before clock s is = (is.whole.includes, record { settled = is.at.snapshot.settled; contents = clock_contents b m from before clock s is; inputs = clock_inputs b m from before clock s is })
