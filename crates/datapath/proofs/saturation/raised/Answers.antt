use Rattle.std.proofs.Common.{◌≤◌, ap, ◌∙◌, arith, refl, sym}
use Rattle.datapath.specs.Nets.{bits_of}
use Rattle.dk_base.specs.Types.{below}
use Rattle.datapath.proofs.Growth.{then_grows, width_later, grows_itself, has_width_of}
use Rattle.datapath.proofs.Limits.{not_raised, is_raised}
use Rattle.datapath.proofs.Over.{then_one, then_three, nothing_over, over_later, first_over, second_over}
use Rattle.datapath.proofs.Composed.{type_is}
use Rattle.datapath.proofs.Failing.{at_err}
use Rattle.datapath.proofs.saturation.raised.Goals as goal

pub returns-then-deep-least : goal.returns-then-deep-least
returns-then-deep-least c = record {
  grows = grows_itself _;
  word = let le : below c.args.x.ty ≤ below c.args.ty = omega (arith, c.if-deep-least.true, c.below-deep.ensures.value, c.below-least.ensures.value) in not_raised _ c.args.x c.args.ty c.args.bits c.requires.operand.x c.requires.bits le;
  made = second_over;
  folds = λ h. (h.1.0, refl);
}

pub returns : goal.returns
returns c = record {
  grows = then_grows c.in_ok-low.ensures.grows c.in_ok-atom.ensures.grows;
  word = is_raised _ _ c.args.x c.args.ty c.args.bits _ c.constant.result _ _ c.width.ensures c.in_ok-atom.ensures.grows.includes (λ nets. ap (bits_of nets) c.constant.ensures.is ∙ c.below-least.ensures.value) c.in_ok-low.ensures.word c.in_ok-atom.ensures.word;
  made = then_three 2 c.in_ok-atom.ensures.made (over_later c.in_ok-atom.ensures.grows.includes (then_one 0 c.in_ok-low.ensures.made first_over)) (nothing_over (c.constant.ensures.made _)) second_over;
  folds = λ h. let low = c.in_ok-low.ensures.folds (h.0, tt) in let all = c.in_ok-atom.ensures.folds (low.0, (c.constant.ensures.known, (h.1.0, tt))) in (all.0, all.1 ∙ low.1);
}

pub returns-in_err-atom : goal.returns-in_err-atom
returns-in_err-atom c = at_err _ _ c.from_residual-in_err-atom.result c.from_residual-in_err-atom.ensures.1 (then_grows c.in_ok-low.ensures.grows c.in_err-atom.ensures)

pub below_test-requires-clause-operand : goal.below_test-requires-clause-operand
below_test-requires-clause-operand c = c.requires.operand

pub constant-requires-clause-width : goal.constant-requires-clause-width
constant-requires-clause-width c = type_is _ _ c.width-2.ensures c.requires.operand.ty

pub choose-requires : goal.choose-requires
choose-requires c = record {
  width = type_is _ _ c.width.ensures c.requires.operand.ty;
  c = c.in_ok-low.ensures.word.width;
  x = has_width_of (c.width.ensures ∙ sym c.width-2.ensures) (c.constant.ensures.width _);
  y = width_later _ _ _ _ c.in_ok-low.ensures.grows (has_width_of c.width.ensures c.requires.bits);
}
