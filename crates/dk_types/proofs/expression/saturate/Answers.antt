use Rattle.std.proofs.Common.{refl}
use Rattle.dk_types.proofs.Rules as R
use Rattle.dk_types.proofs.expression.saturate.Goals as goal

pub returns : goal.returns
returns c = λ scope a h. record {
  has = R.saturate_is scope c.args.span a c.args.to c.args.operand c.in_ok-new.field-0.value c.args.to.ty c.in_ok-new.ensures.ok refl c.requires h.has;
  is_type = c.requires;
}
