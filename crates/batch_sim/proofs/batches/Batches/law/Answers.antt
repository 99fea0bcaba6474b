use Rattle.std.proofs.Common.{subst}
use Rattle.wiring.specs.Snapshot.{HasPlaces}
use Rattle.cycle_sim.specs.Simulated.{Machine}
use Rattle.batch_sim.specs.Stored.{contents_in}
use Rattle.batch_sim.proofs.Fitting.{have_places}
use Rattle.batch_sim.proofs.batches.Batches.law.Goals as goal

pub returns-clause-places : goal.returns-clause-places
returns-clause-places c = subst (λ (s : Machine). HasPlaces s.netlist s.contents) c.self.view_is (have_places c.self.inside.sim.netlist (contents_in c.self.inside.stored) c.self.invariant.fits)
