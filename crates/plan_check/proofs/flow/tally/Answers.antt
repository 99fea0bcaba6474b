use Rattle.std.proofs.Common.{◌<◌, length, arith}
use Rattle.plan_check.proofs.Tallies.{inflow_more, outflow_more}
use Rattle.plan_check.proofs.flow.tally.Goals as goal

pub loop-line-preserved : goal.loop-line-preserved
loop-line-preserved c =
    let s = c.args.system.now in
    let flow = c.args.flow.now in
    let i = c.loop-line.line-index in
    let below : i < length flow = omega arith in
    record {
      brought = λ v. omega (arith, c.loop-line.invariant.brought v, inflow_more s flow i below v, c.add_line.ensures.brought.value v);
      taken = λ v. omega (arith, c.loop-line.invariant.taken v, outflow_more s flow i below v, c.add_line.ensures.taken.value v);
      few_brought = λ v. omega (arith, c.loop-line.invariant.few_brought v, c.add_line.ensures.brought.most v);
      few_taken = λ v. omega (arith, c.loop-line.invariant.few_taken v, c.add_line.ensures.taken.most v);
    }
