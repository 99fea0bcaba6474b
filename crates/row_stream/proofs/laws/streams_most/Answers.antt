use Rattle.row_stream.proofs.MostLines.{fault_behind, fault_inside, read_behind, read_inside}
use Rattle.row_stream.proofs.laws.streams_most.Goals as goal

pub returns-clause-fault_behind : goal.returns-clause-fault_behind
returns-clause-fault_behind c = λ kind m bits from created now f file e few. fault_behind c.one_reading_law.ensures.images kind m bits from created now f file e few

pub returns-clause-fault_inside : goal.returns-clause-fault_inside
returns-clause-fault_inside c = λ kind m bits from created now f file e. fault_inside c.one_reading_law.ensures.images kind m bits from created now f file e

pub returns-clause-read_behind : goal.returns-clause-read_behind
returns-clause-read_behind c = λ kind m bits from created now all e few. read_behind c.one_reading_law.ensures.images kind m bits from created now all e few

pub returns-clause-read_inside : goal.returns-clause-read_inside
returns-clause-read_inside c = λ kind m bits from created now all e. read_inside c.one_reading_law.ensures.images kind m bits from created now all e
