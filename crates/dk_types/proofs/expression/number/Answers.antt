use Rattle.dk_types.proofs.Rules as R
use Rattle.dk_types.proofs.expression.number.Goals as goal

pub returns : goal.returns
returns c = λ scope. record {
  has = R.number_is scope c.args.span c.args.value c.bits_for.result c.ranges.value c.bits_for.ensures.value;
  is_type = R.bits_are c.args.value c.bits_for.result c.ranges.value c.bits_for.ensures.least;
}
