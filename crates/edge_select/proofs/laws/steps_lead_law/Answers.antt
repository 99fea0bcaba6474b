use Rattle.edge_select.proofs.Stepping.{lead_one, lead_then, lead_parts}
use Rattle.edge_select.proofs.laws.steps_lead_law.Goals as goal

pub returns-clause-one : goal.returns-clause-one
returns-clause-one c size steps x y u v a b p q = lead_one size steps x y u v a b p q

pub returns-clause-joined : goal.returns-clause-joined
returns-clause-joined c size steps more x y u v a b p q = lead_then size steps more x y u v a b p q

pub returns-clause-parts : goal.returns-clause-parts
returns-clause-parts c size steps more x y a b on = lead_parts size steps more x y a b on
