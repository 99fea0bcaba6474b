use Rattle.std.proofs.Common.{◌≤◌, ◌^◌, ℕ, ap, ◌∙◌, arith, sym, refl}
use Rattle.dk_base.proofs.Codes.{span}
use Rattle.datapath.specs.Nets.{bits_of}
use Rattle.dk_base.specs.Types.{above}
use Rattle.datapath.proofs.Growth.{then_grows, width_later, grows_itself, has_width_of}
use Rattle.datapath.proofs.Limits.{not_lowered, is_lowered}
use Rattle.datapath.proofs.Over.{unlimited, then_three, nothing_over, over_later, first_over, second_over}
use Rattle.datapath.proofs.Composed.{type_is}
use Rattle.datapath.proofs.Failing.{at_err}
use Rattle.datapath.proofs.saturation.lowered.Goals as goal

pub returns-then-most-greatest : goal.returns-then-most-greatest
returns-then-most-greatest c = record {
  grows = grows_itself _;
  word = let le : above c.args.x.ty ≤ above c.args.ty = omega (arith, c.if-most-greatest.true, c.greatest-most.ensures, c.greatest-greatest.ensures) in not_lowered _ c.args.x c.args.ty c.args.bits c.requires.operand.x c.requires.bits le;
  made = unlimited _ _ _;
  folds = λ h. (h.1.0, refl);
}

pub returns : goal.returns
returns c = record {
  grows = then_grows c.in_ok-high.ensures.grows c.in_ok-atom.ensures.grows;
  word = is_lowered _ _ c.args.x c.args.ty c.args.bits _ c.constant.result _ _ c.greatest-greatest.result c.width.ensures c.greatest-greatest.ensures c.in_ok-atom.ensures.grows.includes (λ nets. ap (bits_of nets) c.constant.ensures.is) c.in_ok-high.ensures.word c.in_ok-atom.ensures.word;
  made = record { test = c.in_ok-high.high; tested = over_later c.in_ok-atom.ensures.grows.includes c.in_ok-high.ensures.made; limited = then_three 0 c.in_ok-atom.ensures.made first_over (nothing_over (c.constant.ensures.made _)) second_over };
  folds = λ h. let high = c.in_ok-high.ensures.folds (h.0, tt) in let all = c.in_ok-atom.ensures.folds (high.0, (c.constant.ensures.known, (h.1.0, tt))) in (all.0, all.1 ∙ high.1);
}

pub returns-in_err-atom : goal.returns-in_err-atom
returns-in_err-atom c = at_err _ _ c.from_residual-in_err-atom.result c.from_residual-in_err-atom.ensures.1 (then_grows c.in_ok-high.ensures.grows c.in_err-atom.ensures)

pub constant-requires-clause-fits : goal.constant-requires-clause-fits
constant-requires-clause-fits c = let s = span c.args.ty c.requires.operand.ty in let w = ap (λ (n : ℕ). 2 ^ n) c.width-2.ensures in omega (arith, s, w, c.greatest-greatest.ensures)

pub above_test-requires-clause-greater : goal.above_test-requires-clause-greater
above_test-requires-clause-greater c = omega (arith, c.if-most-greatest.false, c.greatest-most.ensures, c.greatest-greatest.ensures)

pub above_test-requires-clause-operand : goal.above_test-requires-clause-operand
above_test-requires-clause-operand c = c.requires.operand

pub constant-requires-clause-width : goal.constant-requires-clause-width
constant-requires-clause-width c = type_is _ _ c.width-2.ensures c.requires.operand.ty

pub choose-requires : goal.choose-requires
choose-requires c = record {
  width = type_is _ _ c.width.ensures c.requires.operand.ty;
  c = c.in_ok-high.ensures.word.width;
  x = has_width_of (c.width.ensures ∙ sym c.width-2.ensures) (c.constant.ensures.width _);
  y = width_later _ _ _ _ c.in_ok-high.ensures.grows (has_width_of c.width.ensures c.requires.bits);
}
