use Rattle.plan_check.proofs.Totals.{sums_of_flow, flow_of_sums}
use Rattle.plan_check.proofs.flow.sums_law.Goals as goal

pub returns : goal.returns
returns c =
    let s = c.args.system.now in
    let lines = c.args.flow.now in
    (flow_of_sums s c.law.ensures lines c.args.bits c.requires.constraints c.requires.ascending, sums_of_flow s lines c.args.bits)
