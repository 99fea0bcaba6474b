use Rattle.wiring.proofs.CountedClocks.{sorts, at_reset, at_held, at_counted, none_held, fed_counted, fed_long}
use Rattle.wiring.proofs.laws.clocks_counted_law.Goals as goal

pub returns-clause-cases : goal.returns-clause-cases
returns-clause-cases c m d = sorts m d

pub returns-clause-reset : goal.returns-clause-reset
returns-clause-reset c m d before e = at_reset m d before e

pub returns-clause-held : goal.returns-clause-held
returns-clause-held c m d before h = at_held m d before h

pub returns-clause-counted : goal.returns-clause-counted
returns-clause-counted c m d before is = at_counted m d before is

pub returns-clause-none_held : goal.returns-clause-none_held
returns-clause-none_held c m d e = none_held m d e

pub returns-clause-fed : goal.returns-clause-fed
returns-clause-fed c m k d before is = fed_counted m k d before is

pub returns-clause-length : goal.returns-clause-length
returns-clause-length c m k before = fed_long m k before
