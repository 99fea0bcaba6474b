use Rattle.edge_select.proofs.Stepping.{clamped_ends, ends_in, lead_in_frame}
use Rattle.edge_select.proofs.laws.steps_end_law.Goals as goal

pub returns-clause-clamped : goal.returns-clause-clamped
returns-clause-clamped c size x y = clamped_ends size x y

pub returns-clause-step : goal.returns-clause-step
returns-clause-step c size edge x y u v some tall ends = ends_in size edge x y u v some tall ends

pub returns-clause-steps : goal.returns-clause-steps
returns-clause-steps c size steps x y u v some tall inside on = lead_in_frame size steps x y u v some tall inside on
