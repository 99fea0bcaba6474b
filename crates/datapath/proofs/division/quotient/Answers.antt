use Rattle.datapath.proofs.Composed.{deeper_carries, typed_carries}
use Rattle.datapath.proofs.Toward.{some_level}
use Rattle.datapath.proofs.division.quotient.Goals as goal

pub unsigned_quotient-requires-clause-operand : goal.unsigned_quotient-requires-clause-operand
unsigned_quotient-requires-clause-operand c = record { x = c.requires.x; ty = c.in-Unsigned.is }

pub signed_quotient-requires-clause-operand : goal.signed_quotient-requires-clause-operand
signed_quotient-requires-clause-operand c = record { x = c.requires.x; ty = c.in-Signed.is }

pub returns-in_ok-q-in-Unsigned : goal.returns-in_ok-q-in-Unsigned
returns-in_ok-q-in-Unsigned c = deeper_carries (some_level c.args.by) (typed_carries c.in-Unsigned.is c.in_ok-q-in-Unsigned.ensures)

pub returns-in_ok-q-in-Signed : goal.returns-in_ok-q-in-Signed
returns-in_ok-q-in-Signed c = c.in_ok-q-in-Signed.ensures
