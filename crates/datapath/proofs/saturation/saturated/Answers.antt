use Rattle.std.proofs.Common.{◌∙◌, arith, sym}
use Rattle.datapath.proofs.Growth.{then_grows, has_width_of}
use Rattle.datapath.proofs.Limits.{saturated_carries}
use Rattle.datapath.proofs.Over.{over_deeper, then_two, itself_over, over_later}
use Rattle.datapath.proofs.Composed.{type_is}
use Rattle.datapath.proofs.Carried.{operand_later}
use Rattle.datapath.proofs.Failing.{at_err}
use Rattle.datapath.proofs.saturation.saturated.Goals as goal

pub returns : goal.returns
returns c = record {
  grows = then_grows (then_grows c.in_ok-bits.ensures.grows c.in_ok-low.ensures.grows) c.in_ok-atom.ensures.grows;
  value = saturated_carries _ _ _ c.args.x _ _ _ c.args.ty _ c.width-width.ensures c.requires.ty c.in_ok-low.ensures.grows.includes c.in_ok-atom.ensures.grows.includes c.in_ok-bits.ensures.word c.in_ok-low.ensures.word c.in_ok-atom.ensures.word;
  made = then_two 3 c.in_ok-atom.ensures.made.limited (over_deeper (omega arith) c.in_ok-atom.ensures.made.tested) (over_later c.in_ok-atom.ensures.grows.includes (then_two 0 c.in_ok-low.ensures.made itself_over (over_later c.in_ok-low.ensures.grows.includes c.in_ok-bits.ensures.made)));
  folds = λ h. let bits = c.in_ok-bits.ensures.folds h in let low = c.in_ok-low.ensures.folds (h.0, (bits.0, tt)) in let all = c.in_ok-atom.ensures.folds (h.0, (low.0, tt)) in (all.0, all.1 ∙ low.1 ∙ bits.1);
}

pub returns-in_err-low : goal.returns-in_err-low
returns-in_err-low c = at_err _ _ c.from_residual-in_err-low.result c.from_residual-in_err-low.ensures.1 (then_grows c.in_ok-bits.ensures.grows c.in_err-low.ensures)

pub returns-in_err-atom : goal.returns-in_err-atom
returns-in_err-atom c = at_err _ _ c.from_residual-in_err-atom.result c.from_residual-in_err-atom.ensures.1 (then_grows (then_grows c.in_ok-bits.ensures.grows c.in_ok-low.ensures.grows) c.in_err-atom.ensures)

pub resized-requires : goal.resized-requires
resized-requires c = record { operand = c.requires.x; width = type_is _ _ c.width-width.ensures c.requires.ty }

pub raised-requires-clause-operand : goal.raised-requires-clause-operand
raised-requires-clause-operand c = record { x = operand_later _ _ _ c.in_ok-bits.ensures.grows c.requires.x; ty = c.requires.ty }

pub raised-requires-clause-bits : goal.raised-requires-clause-bits
raised-requires-clause-bits c = has_width_of (sym c.width-width.ensures) c.in_ok-bits.ensures.word.width

pub lowered-requires-clause-operand : goal.lowered-requires-clause-operand
lowered-requires-clause-operand c = record { x = operand_later _ _ _ (then_grows c.in_ok-bits.ensures.grows c.in_ok-low.ensures.grows) c.requires.x; ty = c.requires.ty }

pub lowered-requires-clause-bits : goal.lowered-requires-clause-bits
lowered-requires-clause-bits c = c.in_ok-low.ensures.word.width
