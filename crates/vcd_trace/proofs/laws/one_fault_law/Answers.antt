use Rattle.dk_grammar.proofs.FaultyLines.{one_first_faulty, none_first_faulty}
use Rattle.vcd_trace.specs.Replayed.{IsTrace}
use Rattle.vcd_trace.proofs.laws.one_fault_law.Goals as goal

pub returns-clause-one : goal.returns-clause-one
returns-clause-one c m text a b f g = one_first_faulty (IsTrace m) text a b f g

pub returns-clause-apart : goal.returns-clause-apart
returns-clause-apart c m clocks text number t f = none_first_faulty (IsTrace m) text number (clocks, t) f
