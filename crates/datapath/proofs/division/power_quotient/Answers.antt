use Rattle.std.proofs.Common.{ap, arith, refl}
use Rattle.datapath.specs.Nets.{bits_of}
use Rattle.datapath.proofs.Growth.{grows_itself}
use Rattle.datapath.proofs.Over.{itself_over, nothing_over}
use Rattle.datapath.proofs.Toward.{far_carries, near_carries}
use Rattle.datapath.proofs.Composed.{type_width}
use Rattle.datapath.proofs.division.power_quotient.Goals as goal

pub returns-then-by-eq0 : goal.returns-then-by-eq0
returns-then-by-eq0 c = record {
  grows = grows_itself _;
  value = near_carries _ c.args.x _ (omega (arith, c.if-by-eq0.true)) c.requires.x;
  made = itself_over;
  folds = λ h. (h.0, refl);
}

pub returns-then-by-width : goal.returns-then-by-width
returns-then-by-width c = record {
  grows = grows_itself _;
  value = far_carries _ c.args.x c.constant.result c.args.width c.args.by c.requires.ty (omega (arith, c.if-by-width.true)) c.requires.x (c.constant.ensures.width _) (λ nets. ap (bits_of nets) c.constant.ensures.is);
  made = nothing_over (c.constant.ensures.made _);
  folds = λ h. (c.constant.ensures.known, refl);
}

pub constant-requires-clause-width : goal.constant-requires-clause-width
constant-requires-clause-width c = type_width _ _ c.requires.ty c.requires.x.ty

pub shifted_toward_zero-requires-clause-operand : goal.shifted_toward_zero-requires-clause-operand
shifted_toward_zero-requires-clause-operand c = c.requires

pub shifted_toward_zero-requires-clause-by : goal.shifted_toward_zero-requires-clause-by
shifted_toward_zero-requires-clause-by c = (omega (arith, c.if-by-eq0.false), omega (arith, c.if-by-width.false))

pub returns : goal.returns
returns c = c.in_ok-quotient.ensures
