use Rattle.dk_types.proofs.Rules as R
use Rattle.dk_types.proofs.expression.scale.Goals as goal

pub returns : goal.returns
returns c = λ scope a h. record {
  has = R.scale_is scope c.args.span c.args.operator a c.args.by c.args.operand c.in_ok-operand.operand.value c.in_ok-ty.ty c.in_ok-operand.ensures.ok c.in_ok-ty.ensures.typed h.has;
  is_type = c.in_ok-ty.ensures.is_type;
}
