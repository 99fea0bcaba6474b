use Rattle.file_verdicts.proofs.Room.{room_taken, room_least}
use Rattle.file_verdicts.proofs.traces.room_law.Goals as goal

pub returns-clause-attained : goal.returns-clause-attained
returns-clause-attained c = room_taken

pub returns-clause-least : goal.returns-clause-least
returns-clause-least c = room_least
