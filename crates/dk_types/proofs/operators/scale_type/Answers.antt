use Rattle.dk_types.proofs.Rules as R
use Rattle.dk_types.proofs.operators.scale_type.Goals as goal

pub returns-in-Divide : goal.returns-in-Divide
returns-in-Divide c = record {
  typed = tt;
  is_type = tt;
  faulty = λ scope a e h te.
      R.told_scale scope c.args.span c.args.operator a c.args.by e c.args.operand c.result_type.result c.fault.result _ c.fault.ensures
      (R.divided c.args.operator c.args.span c.args.by c.in-Divide.is) c.result_type.ensures.value c.in-None.is h te;
}

pub returns-in-ShiftLeft : goal.returns-in-ShiftLeft
returns-in-ShiftLeft c = record {
  typed = tt;
  is_type = tt;
  faulty = λ scope a e h te.
      R.told_scale scope c.args.span c.args.operator a c.args.by e c.args.operand c.result_type.result c.fault-in-ShiftLeft.result _ c.fault-in-ShiftLeft.ensures
      (R.shifted_far c.args.operator c.args.span c.args.by (R.is_shift c.args.operator c.in-ShiftLeft.is) c.if-by-gt-MAX_SHIFT.true) c.result_type.ensures.value c.in-None.is h te;
}

pub returns-in-ShiftLeft-2 : goal.returns-in-ShiftLeft-2
returns-in-ShiftLeft-2 c = record {
  typed = tt;
  is_type = tt;
  faulty = λ scope a e h te.
      R.told_scale scope c.args.span c.args.operator a c.args.by e c.args.operand c.result_type.result c.fault-in-ShiftLeft-2.result _ c.fault-in-ShiftLeft-2.ensures
      (R.shifted_near c.args.operator c.args.span c.args.by (R.is_shift c.args.operator c.in-ShiftLeft-2.is) c.if-by-gt-MAX_SHIFT.false) c.result_type.ensures.value c.in-None.is h te;
}
