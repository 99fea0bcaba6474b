use Rattle.wiring.proofs.Histories.{run_after, after_run}
use Rattle.wiring.proofs.laws.runs_are_histories_law.Goals as goal

pub returns-clause-after : goal.returns-clause-after
returns-clause-after c m from clocks shots to runs = run_after m from clocks shots to runs

pub returns-clause-runs : goal.returns-clause-runs
returns-clause-runs c m from history to after = after_run m from history to after
