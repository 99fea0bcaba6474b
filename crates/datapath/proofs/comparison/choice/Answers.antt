use Rattle.std.proofs.Common.{ap, sym, ◌∙◌}
use Rattle.dk_base.specs.Types.{width_of}
use Rattle.datapath.proofs.Compared.{choice_carries}
use Rattle.datapath.proofs.Growth.{then_grows, width_later, has_width_of}
use Rattle.datapath.proofs.Over.{three_over}
use Rattle.datapath.proofs.Carried.{operand_later}
use Rattle.datapath.proofs.Composed.{width_is}
use Rattle.datapath.proofs.Failing.{at_err}
use Rattle.datapath.proofs.comparison.choice.Goals as goal

pub returns : goal.returns
returns c = record {
  grows = then_grows (then_grows c.in_ok-left.ensures.grows c.in_ok-right.ensures.grows) c.in_ok-atom.ensures.grows;
  value = choice_carries _ _ _ _ c.args.condition c.args.x c.args.y _ _ _ c.common-ty.result _ c.requires.condition.ty c.common-ty.ensures c.width-width.ensures c.requires.ty c.requires.condition.x c.requires.x c.requires.y c.in_ok-left.ensures.grows.includes c.in_ok-right.ensures.grows.includes c.in_ok-atom.ensures.grows.includes c.in_ok-left.ensures.word c.in_ok-right.ensures.word c.in_ok-atom.ensures.word;
  made = three_over 0 c.in_ok-right.ensures.grows.includes c.in_ok-atom.ensures.grows.includes c.in_ok-left.ensures.made c.in_ok-right.ensures.made c.in_ok-atom.ensures.made;
  folds = λ h. let left = c.in_ok-left.ensures.folds (h.1.0, tt) in let right = c.in_ok-right.ensures.folds (h.1.1.0, tt) in let all = c.in_ok-atom.ensures.folds (h.0, (left.0, (right.0, tt))) in (all.0, all.1 ∙ right.1 ∙ left.1);
}

pub returns-in_err-right : goal.returns-in_err-right
returns-in_err-right c = at_err _ _ c.from_residual-in_err-right.result c.from_residual-in_err-right.ensures.1 (then_grows c.in_ok-left.ensures.grows c.in_err-right.ensures)

pub returns-in_err-atom : goal.returns-in_err-atom
returns-in_err-atom c = at_err _ _ c.from_residual-in_err-atom.result c.from_residual-in_err-atom.ensures.1 (then_grows (then_grows c.in_ok-left.ensures.grows c.in_ok-right.ensures.grows) c.in_err-atom.ensures)

pub resized-requires : goal.resized-requires
resized-requires c = record { operand = c.requires.x; width = width_is _ _ _ c.common-ty.ensures c.width-width.ensures c.requires.ty }

pub resized-requires-2 : goal.resized-requires-2
resized-requires-2 c = record { operand = operand_later _ _ _ c.in_ok-left.ensures.grows c.requires.y; width = width_is _ _ _ c.common-ty.ensures c.width-width.ensures c.requires.ty }

pub choose-requires : goal.choose-requires
choose-requires c = record {
  width = width_is _ _ _ c.common-ty.ensures c.width-width.ensures c.requires.ty;
  c = width_later _ _ _ _ (then_grows c.in_ok-left.ensures.grows c.in_ok-right.ensures.grows) (has_width_of (sym (ap width_of c.requires.condition.ty)) c.requires.condition.x.width);
  x = width_later _ _ _ _ c.in_ok-right.ensures.grows c.in_ok-left.ensures.word.width;
  y = c.in_ok-right.ensures.word.width;
}
