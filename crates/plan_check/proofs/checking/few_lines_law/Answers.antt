use Rattle.std.proofs.Common.{length, arith}
use Rattle.plan_check.proofs.Ranks.{few_lines}
use Rattle.plan_check.proofs.checking.few_lines_law.Goals as goal

pub returns : goal.returns
returns c = few_lines c.args.system.now c.law.ensures c.args.flow.now c.requires.ascending (length c.args.flow.now) (omega arith) c.requires.constraints
