use Rattle.std.proofs.Common.{◌∙◌}
use Rattle.datapath.proofs.Compared.{opposite_carries}
use Rattle.datapath.proofs.Growth.{then_grows}
use Rattle.datapath.proofs.Over.{then_one, over_later}
use Rattle.datapath.proofs.Failing.{at_err}
use Rattle.datapath.proofs.comparison.is_unequal.Goals as goal

pub returns : goal.returns
returns c = record {
  grows = then_grows c.in_ok-opposite.ensures.grows c.in_ok-negation.ensures.grows;
  value = opposite_carries _ _ _ _ _ c.in_ok-negation.ensures.grows.includes c.in_ok-opposite.ensures.value c.in_ok-negation.ensures.value;
  made = then_one 1 c.in_ok-negation.ensures.made (over_later c.in_ok-negation.ensures.grows.includes c.in_ok-opposite.ensures.made);
  folds = λ h. let opposite = c.in_ok-opposite.ensures.folds h in let all = c.in_ok-negation.ensures.folds (opposite.0, tt) in (all.0, all.1 ∙ opposite.1);
}

pub returns-in_err-negation : goal.returns-in_err-negation
returns-in_err-negation c = at_err _ _ c.from_residual-in_err-negation.result c.from_residual-in_err-negation.ensures.1 (then_grows c.in_ok-opposite.ensures.grows c.in_err-negation.ensures)

pub is_equal-requires : goal.is_equal-requires
is_equal-requires c = c.requires

pub bit_complement-requires : goal.bit_complement-requires
bit_complement-requires c = record { x = c.in_ok-opposite.ensures.value.operand; ty = c.in_ok-opposite.ensures.value.is }
