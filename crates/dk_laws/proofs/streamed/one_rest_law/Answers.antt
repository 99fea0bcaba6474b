use Rattle.dk_laws.proofs.StreamOnce.{one_left}
use Rattle.dk_laws.proofs.StreamFirst.{reads_first}
use Rattle.dk_laws.proofs.streamed.one_rest_law.Goals as goal

pub returns-clause-fault : goal.returns-clause-fault
returns-clause-fault c = one_left c.one_reading_law.ensures.images

pub returns-clause-failure : goal.returns-clause-failure
returns-clause-failure c = reads_first c.one_reading_law.ensures.images
