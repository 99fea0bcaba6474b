use Rattle.std.proofs.Common.{◌∙◌}
use Rattle.datapath.proofs.Shifted.{within_carries}
use Rattle.datapath.proofs.Growth.{then_grows}
use Rattle.datapath.proofs.Over.{then_one, over_later}
use Rattle.datapath.proofs.Composed.{type_is}
use Rattle.datapath.proofs.Failing.{at_err}
use Rattle.datapath.proofs.shifts.shift_within.Goals as goal

pub returns : goal.returns
returns c = record {
  grows = then_grows c.in_ok-high.ensures.grows c.in_ok-atom.ensures.grows;
  value = within_carries _ _ _ c.args.x c.in_ok-high.high _ _ c.args.by c.width.ensures c.requires.x c.in_ok-high.ensures.grows.includes c.in_ok-atom.ensures.grows.includes c.in_ok-high.ensures.value c.in_ok-atom.ensures.word;
  made = then_one 0 c.in_ok-atom.ensures.made (over_later c.in_ok-atom.ensures.grows.includes c.in_ok-high.ensures.made);
  folds = λ h. let high = c.in_ok-high.ensures.folds h in let all = c.in_ok-atom.ensures.folds (high.0, tt) in (all.0, all.1 ∙ high.1);
}

pub returns-in_err-atom : goal.returns-in_err-atom
returns-in_err-atom c = at_err _ _ c.from_residual-in_err-atom.result c.from_residual-in_err-atom.ensures.1 (then_grows c.in_ok-high.ensures.grows c.in_err-atom.ensures)

pub resized-requires : goal.resized-requires
resized-requires c = record { operand = c.in_ok-high.ensures.value.operand; width = type_is _ _ c.width.ensures c.requires.x.ty }
