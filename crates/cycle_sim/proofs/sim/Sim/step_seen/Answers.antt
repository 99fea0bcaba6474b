use Rattle.cycle_sim.proofs.sim.Sim.step_seen.Goals as goal

pub returns-in-Err-clause-only : goal.returns-in-Err-clause-only
returns-in-Err-clause-only c = rw (← c.self.view_is) c.in-Err.ensures.only

pub returns-in-Ok-clause-only : goal.returns-in-Ok-clause-only
returns-in-Ok-clause-only c = rw (← c.self.view_is) c.in-Ok.ensures.only
