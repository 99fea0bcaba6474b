use Rattle.std.proofs.Common.{ap, refl, arith}
use Rattle.datapath.specs.Nets.{bits_of}
use Rattle.datapath.proofs.Shifted.{shift_carries, unshifted_carries, shift_width, shift_join}
use Rattle.datapath.proofs.Growth.{grows_itself}
use Rattle.datapath.proofs.Over.{then_two, itself_over, nothing_over}
use Rattle.datapath.proofs.shifts.shift_left.Goals as goal

pub returns : goal.returns
returns c = record {
  grows = c.in_ok-atom.ensures.grows;
  value = shift_carries _ _ c.args.x c.constant.result _ c.shifted-ty.result _ _ c.shifted-ty.ensures c.width-width.ensures c.requires.ty c.requires.x c.in_ok-atom.ensures.grows.includes (λ nets. ap (bits_of nets) c.constant.ensures.is) c.in_ok-atom.ensures.word;
  made = then_two 0 c.in_ok-atom.ensures.made itself_over (nothing_over (c.constant.ensures.made _));
  folds = λ h. c.in_ok-atom.ensures.folds (h.0, (c.constant.ensures.known, tt));
}

pub returns-then-by-eq0 : goal.returns-then-by-eq0
returns-then-by-eq0 c = record {
  grows = grows_itself _;
  value = unshifted_carries _ c.args.x _ c.if-by-eq0.true c.requires.x;
  made = itself_over;
  folds = λ h. (h.0, refl);
}

pub constant-requires-clause-width : goal.constant-requires-clause-width
constant-requires-clause-width c = shift_width c.args.x _ (omega (arith, c.if-by-eq0.false)) c.requires.ty

pub join-requires : goal.join-requires
join-requires c = shift_join _ c.args.x _ _ _ c.width-width.ensures (omega (arith, c.if-by-eq0.false)) c.requires.ty c.requires.x (c.constant.ensures.width _)
