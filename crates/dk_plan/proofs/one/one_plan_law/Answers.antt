use Rattle.dk_plan.proofs.Once.{claim_once, wrong_apart, line_once}
use Rattle.dk_plan.proofs.one.one_plan_law.Goals as goal

pub returns-clause-claim : goal.returns-clause-claim
returns-clause-claim c = claim_once c.one_reading_law.ensures.report c.one_reading_law.ensures.fault c.one_reading_law.ensures.apart

pub returns-clause-wrong : goal.returns-clause-wrong
returns-clause-wrong c = wrong_apart c.one_reading_law.ensures.report c.one_reading_law.ensures.fault c.one_reading_law.ensures.apart

pub returns-clause-line : goal.returns-clause-line
returns-clause-line c = line_once c.one_reading_law.ensures.report c.one_reading_law.ensures.fault c.one_reading_law.ensures.apart
