use Rattle.dk_types.proofs.Rules as R
use Rattle.dk_types.proofs.operators.binary_type.Goals as goal

pub returns-in-None : goal.returns-in-None
returns-in-None c = record {
  typed = tt;
  is_type = tt;
  faulty = λ scope a b e f h g te tf pe qe.
      R.told_binary scope c.args.span c.args.operator a b e f c.args.left c.args.right c.result_type.result c.fault.result c.fault.ensures
      c.in_default.ensures c.result_type.ensures.value c.in-None.is h g te tf;
}
