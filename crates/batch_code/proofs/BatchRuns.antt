-- A batch's equations make a run.
use Rattle.std.proofs.Common.{ℕ, suc, List, [], ◌∷◌, length, refl}
use Rattle.wiring.specs.Netlist.{Netlist}
use Rattle.wiring.specs.Snapshot.{Contents, Snapshot}
use Rattle.wiring.specs.Clock.{Clock}
use Rattle.wiring.specs.Runs.{Runs}
use Rattle.batch_code.specs.Batch.{IsBatch, firsts}

pub runs_of : (m : Netlist) (clocks : List Clock) (shot : ℕ → Snapshot) (stored : ℕ → Contents) → IsBatch m clocks shot stored → Runs m (stored 0) clocks (firsts shot (length clocks)) (stored (length clocks))
runs_of m [] shot stored batch = refl
runs_of m (c ∷ clocks) shot stored batch = (stored 1, batch 0 c refl, runs_of m clocks (λ t. shot (suc t)) (λ t. stored (suc t)) (λ t d at. batch (suc t) d at))
