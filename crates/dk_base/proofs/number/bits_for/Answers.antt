use Rattle.std.proofs.Common.{◌<◌, ◌^◌, refl, arith}
use Rattle.dk_base.proofs.BitCounts.{top}
use Rattle.dk_base.proofs.number.bits_for.Goals as goal

pub returns-clause-least : goal.returns-clause-least
returns-clause-least c =
    let some : 0 < c.args.value = omega arith in
    let fits : c.args.value < 2 ^ 64 = omega arith in
    top c.args.value _ some fits refl
