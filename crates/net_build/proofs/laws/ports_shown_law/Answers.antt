use Rattle.net_build.proofs.Runs.{reset_shown, enable_shown, din_shown}
use Rattle.net_build.proofs.laws.ports_shown_law.Goals as goal

pub returns-clause-reset : goal.returns-clause-reset
returns-clause-reset c m from before d s at = reset_shown m from before d s at

pub returns-clause-enable : goal.returns-clause-enable
returns-clause-enable c m from before d s at h = enable_shown m from before d s at h

pub returns-clause-din : goal.returns-clause-din
returns-clause-din c m from before d s k at = din_shown m from before d s k at
