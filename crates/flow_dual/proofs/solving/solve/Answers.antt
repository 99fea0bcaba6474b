use Rattle.std.proofs.Common.{arith, rules}
use Rattle.std.proofs.lemmas.Grind.{common_steps}
use Rattle.flow_dual.proofs.solving.solve.Goals as goal

pub balance-requires : goal.balance-requires
balance-requires c = record {
  nodes_are = search rules;
  flows = search rules;
  empty = grind (arith, common_steps);
  numbers = search rules;
  holds = search rules;
}
