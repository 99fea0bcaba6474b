use Rattle.std.proofs.Common.{sym, ◌∙◌}
use Rattle.dk_types.proofs.Rules as R
use Rattle.dk_types.proofs.operators.select_type.Goals as goal

pub returns-in-None : goal.returns-in-None
returns-in-None c = record {
  typed = tt;
  is_type = tt;
  faulty = λ scope k a b d e f h g i td te tf pe.
      R.told_choice scope c.args.span k a b d e f c.args.condition c.args.left c.args.right c.select_type.result c.fault.result c.fault.ensures
      (sym c.is_bit.ensures ∙ c.if-is_bit.true) c.select_type.ensures.value c.in-None.is h g i td te tf;
}

pub returns-in-None-2 : goal.returns-in-None-2
returns-in-None-2 c = record {
  typed = tt;
  is_type = tt;
  faulty = λ scope k a b d e f h g i td te tf pe.
      R.told_condition scope c.args.span c.args.first k a b d e f c.args.condition c.fault-in-None-2.result c.fault-in-None-2.ensures
      (sym c.is_bit.ensures ∙ c.if-is_bit.false) h g i td pe;
}
