use Rattle.circuit.proofs.Driven.{drives}
use Rattle.circuit.proofs.laws.frame_drive_law.Goals as goal

pub returns : goal.returns
returns c m p plan places copies nets enable program ports whole runs behaves = drives m p plan places copies nets enable program ports whole runs behaves
