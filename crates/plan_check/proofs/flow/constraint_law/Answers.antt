use Rattle.plan_check.proofs.Least.{source_within, target_within, small_cost}
use Rattle.plan_check.proofs.flow.constraint_law.Goals as goal

pub returns : goal.returns
returns c =
    let s = c.args.system.now in
    record {
      source = source_within s c.law.ensures c.args.line c.requires;
      target = target_within s c.law.ensures c.args.line c.requires;
      cost = small_cost s c.law.ensures c.args.line c.requires;
    }
