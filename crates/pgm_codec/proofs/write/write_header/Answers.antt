use Rattle.std.proofs.Common.{arith}
use Rattle.std.proofs.lemmas.Fmt.{length-decimal-le}
use Rattle.pgm_codec.proofs.write.write_header.Goals as goal

pub put_number-at-requires : goal.put_number-at-requires
put_number-at-requires c = omega (arith, length-decimal-le 4 c.args.width (omega arith) (omega arith) (omega arith))

pub put_number-at-requires-2 : goal.put_number-at-requires-2
put_number-at-requires-2 c =
    omega (arith, length-decimal-le 4 c.args.width (omega arith) (omega arith) (omega arith), length-decimal-le 4 c.args.height (omega arith) (omega arith) (omega arith))

pub put_number-requires : goal.put_number-requires
put_number-requires c =
    omega (
      arith,
      length-decimal-le 4 c.args.width (omega arith) (omega arith) (omega arith),
      length-decimal-le 4 c.args.height (omega arith) (omega arith) (omega arith),
      length-decimal-le 5 c.from.result (omega arith) (omega arith) (omega arith),
    )
