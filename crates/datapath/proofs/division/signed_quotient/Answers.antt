use Rattle.datapath.proofs.Composed.{deeper_carries}
use Rattle.datapath.proofs.Toward.{some_level, full_level, divided_by}
use Rattle.datapath.proofs.division.signed_quotient.Goals as goal

pub power_quotient-requires : goal.power_quotient-requires
power_quotient-requires c = c.requires.operand

pub turned_quotient-requires-clause-operand : goal.turned_quotient-requires-clause-operand
turned_quotient-requires-clause-operand c = c.requires.operand

pub returns-in_ok-q-in-Some : goal.returns-in_ok-q-in-Some
returns-in_ok-q-in-Some c = deeper_carries (some_level c.args.by) (divided_by c.args.x _ _ c.in-Some.ensures c.in_ok-q-in-Some.ensures)

pub returns-in_ok-q-in-None : goal.returns-in_ok-q-in-None
returns-in_ok-q-in-None c = deeper_carries (full_level c.args.by c.in-None.ensures) c.in_ok-q-in-None.ensures
