use Rattle.std.proofs.Common.{arith, rules}
use Rattle.plan_check.proofs.Tallies.{none_at}
use Rattle.plan_check.proofs.flow.is_balanced.Goals as goal

pub tally-requires-clause-none : goal.tally-requires-clause-none
tally-requires-clause-none c = record {
  some_brought = search rules;
  some_taken = search rules;
  few_brought = λ v. omega (arith, none_at 528 v);
  few_taken = λ v. omega (arith, none_at 528 v);
}
