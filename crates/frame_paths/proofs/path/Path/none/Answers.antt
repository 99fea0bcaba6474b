use Rattle.frame_paths.proofs.Walks.{none_leads}
use Rattle.frame_paths.proofs.path.Path.none.Goals as goal

pub returns-clause-leads : goal.returns-clause-leads
returns-clause-leads c = none_leads _ _ _ c.none-across.ensures.leads c.none-down.ensures.leads
