use Rattle.dk_types.proofs.Rules as R
use Rattle.dk_types.proofs.operators.unary_type.Goals as goal

pub returns-in-Not : goal.returns-in-Not
returns-in-Not c = record {
  typed = tt;
  is_type = tt;
  faulty = λ scope a e h te pe.
      R.told_unary scope c.args.span c.args.first c.args.operator a e c.args.operand c.result_type.result c.fault.result _ c.fault.ensures
      (R.not_bit c.args.operator c.args.span c.args.first c.in-Not.is) c.result_type.ensures.value c.in-None.is h te pe;
}

pub returns-in-Negate : goal.returns-in-Negate
returns-in-Negate c = record {
  typed = tt;
  is_type = tt;
  faulty = λ scope a e h te pe.
      R.told_unary scope c.args.span c.args.first c.args.operator a e c.args.operand c.result_type.result c.fault-in-Negate.result _ c.fault-in-Negate.ensures
      (R.not_not c.args.operator c.args.span c.args.first (R.other_than_not c.args.operator c.in-Negate.is)) c.result_type.ensures.value c.in-None.is h te pe;
}
