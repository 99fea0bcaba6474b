use Rattle.wiring.proofs.Ordered.{order_acyclic}
use Rattle.wiring.proofs.laws.no_cycle_law.Goals as goal

pub returns : goal.returns
returns c m order ordered = order_acyclic m.assigns order ordered
