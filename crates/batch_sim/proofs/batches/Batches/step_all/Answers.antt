use Rattle.std.proofs.Common.{sym, subst}
use Rattle.cycle_sim.specs.Simulated.{Machine, StopsIn, clock}
use Rattle.batch_sim.proofs.batches.Batches.step_all.Goals as goal

pub returns-clause-only : goal.returns-clause-only
returns-clause-only c = λ x i stops. c.step_stored.ensures.only x i (subst (λ (s : Machine). StopsIn s (clock c.args.reset c.args.enable c.args.dins.now) x i) (sym c.self.view_is) stops)
