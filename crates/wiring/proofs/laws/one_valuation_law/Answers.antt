use Rattle.wiring.proofs.Valuation.{one_snapshot}
use Rattle.wiring.proofs.Settle.{some_snapshot}
use Rattle.wiring.proofs.laws.one_valuation_law.Goals as goal

pub returns : goal.returns
returns c m order rules ordered = record { some = some_snapshot m rules order ordered; one = one_snapshot m rules order ordered }
