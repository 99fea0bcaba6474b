use Rattle.netlist.proofs.RunLaws.{run_some, run_one, run_or_stop, stop_one}
use Rattle.netlist.proofs.laws.one_run_law.Goals as goal

pub returns-clause-some : goal.returns-clause-some
returns-clause-some c m shots next from clocks places = run_some m shots next from clocks places

pub returns-clause-one : goal.returns-clause-one
returns-clause-one c m shots next from clocks xs ys to end places a b = run_one m shots next from clocks xs ys to end places a b

pub returns-clause-stop : goal.returns-clause-stop
returns-clause-stop c m shots next from clocks xs ys x i y j places a b = stop_one m shots next from clocks xs ys x i y j places a b

pub returns-clause-apart : goal.returns-clause-apart
returns-clause-apart c m shots next from clocks xs ys to x i places a b = run_or_stop m shots next from clocks xs ys to x i places a b
