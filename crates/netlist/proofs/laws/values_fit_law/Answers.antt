use Rattle.netlist.proofs.FitLaws.{net_fits, contents_fit}
use Rattle.netlist.proofs.laws.values_fit_law.Goals as goal

pub returns-clause-nets : goal.returns-clause-nets
returns-clause-nets c m order rules ordered s settled contents inputs n d = net_fits m rules order ordered s settled contents inputs n d

pub returns-clause-next : goal.returns-clause-next
returns-clause-next c m order rules ordered s settled contents inputs new next = contents_fit m rules order ordered s settled contents inputs new next
