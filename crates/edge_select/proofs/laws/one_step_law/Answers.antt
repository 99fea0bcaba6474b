use Rattle.edge_select.proofs.Walks.{one_to, one_from}
use Rattle.edge_select.proofs.laws.one_step_law.Goals as goal

pub returns : goal.returns
returns c size dx dy x y = (one_to size dx dy x y, one_from size dx dy x y)
