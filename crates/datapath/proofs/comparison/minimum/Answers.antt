use Rattle.std.proofs.Common.{◌∙◌}
use Rattle.datapath.proofs.Divided.{same_carries}
use Rattle.dk_base.proofs.Ranges.{common_turned}
use Rattle.datapath.proofs.Compared.{lesser_carries}
use Rattle.datapath.proofs.Growth.{then_grows}
use Rattle.datapath.proofs.Over.{then_two, then_three, over_later, first_over, second_over}
use Rattle.datapath.proofs.Composed.{common_turned_type}
use Rattle.datapath.proofs.Carried.{operand_later}
use Rattle.datapath.proofs.Failing.{at_err}
use Rattle.datapath.proofs.comparison.minimum.Goals as goal

pub returns-in_err-lesser : goal.returns-in_err-lesser
returns-in_err-lesser c = at_err _ _ c.from_residual-in_err-lesser.result c.from_residual-in_err-lesser.ensures.1 (then_grows c.in_ok-above.ensures.grows c.in_err-lesser.ensures)

pub returns : goal.returns
returns c = record {
  grows = then_grows c.in_ok-above.ensures.grows c.in_ok-lesser.ensures.grows;
  value = same_carries _ _ _ _ _ (common_turned c.args.x.ty c.args.y.ty) (lesser_carries _ _ c.in_ok-above.above c.args.x c.args.y _ _ c.in_ok-lesser.ensures.grows.includes c.in_ok-above.ensures.value c.in_ok-lesser.ensures.value);
  made = then_three 2 c.in_ok-lesser.ensures.made (over_later c.in_ok-lesser.ensures.grows.includes (then_two 0 c.in_ok-above.ensures.made second_over first_over)) second_over first_over;
  folds = λ h. let above = c.in_ok-above.ensures.folds (h.1.0, (h.0, tt)) in let all = c.in_ok-lesser.ensures.folds (above.0, (h.1.0, (h.0, tt))) in (all.0, all.1 ∙ above.1);
}

pub is_less-requires : goal.is_less-requires
is_less-requires c = record { x = c.requires.y; y = c.requires.x; ty = common_turned_type _ _ c.requires.ty }

pub choice-requires : goal.choice-requires
choice-requires c = record {
  condition = record { x = c.in_ok-above.ensures.value.operand; ty = c.in_ok-above.ensures.value.is };
  x = operand_later _ _ _ c.in_ok-above.ensures.grows c.requires.y;
  y = operand_later _ _ _ c.in_ok-above.ensures.grows c.requires.x;
  ty = common_turned_type _ _ c.requires.ty;
}
