use Rattle.std.proofs.Common.{refl}
use Rattle.worked_tests.proofs.systems.system_by_hand.Goals as goal

pub returns-clause-holds_starts_reads_keeps : goal.returns-clause-holds_starts_reads_keeps
returns-clause-holds_starts_reads_keeps c = refl
