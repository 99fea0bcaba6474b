use Rattle.std.proofs.Common.{◌∙◌}
use Rattle.datapath.proofs.Compared.{greater_carries}
use Rattle.datapath.proofs.Growth.{then_grows}
use Rattle.datapath.proofs.Over.{then_two, then_three, over_later, first_over, second_over}
use Rattle.datapath.proofs.Composed.{common_turned_type}
use Rattle.datapath.proofs.Carried.{operand_later}
use Rattle.datapath.proofs.Failing.{at_err}
use Rattle.datapath.proofs.comparison.maximum.Goals as goal

pub returns-in_err-greater : goal.returns-in_err-greater
returns-in_err-greater c = at_err _ _ c.from_residual-in_err-greater.result c.from_residual-in_err-greater.ensures.1 (then_grows c.in_ok-below.ensures.grows c.in_err-greater.ensures)

pub returns : goal.returns
returns c = record {
  grows = then_grows c.in_ok-below.ensures.grows c.in_ok-greater.ensures.grows;
  value = greater_carries _ _ c.in_ok-below.below c.args.x c.args.y _ _ c.in_ok-greater.ensures.grows.includes c.in_ok-below.ensures.value c.in_ok-greater.ensures.value;
  made = then_three 2 c.in_ok-greater.ensures.made (over_later c.in_ok-greater.ensures.grows.includes (then_two 0 c.in_ok-below.ensures.made second_over first_over)) first_over second_over;
  folds = λ h. let below = c.in_ok-below.ensures.folds (h.1.0, (h.0, tt)) in let all = c.in_ok-greater.ensures.folds (below.0, (h.0, (h.1.0, tt))) in (all.0, all.1 ∙ below.1);
}

pub is_less-requires : goal.is_less-requires
is_less-requires c = record { x = c.requires.y; y = c.requires.x; ty = common_turned_type _ _ c.requires.ty }

pub choice-requires : goal.choice-requires
choice-requires c = record {
  condition = record { x = c.in_ok-below.ensures.value.operand; ty = c.in_ok-below.ensures.value.is };
  x = operand_later _ _ _ c.in_ok-below.ensures.grows c.requires.x;
  y = operand_later _ _ _ c.in_ok-below.ensures.grows c.requires.y;
  ty = c.requires.ty;
}
