use Rattle.std.proofs.Common.{◌<◌, length, sym, rules, arith}
use Rattle.circuit.proofs.Splitting.{last_at}
use Rattle.circuit.proofs.finer.greatest.Goals as goal

pub returns : goal.returns
returns c = (let some : 0 < length c.args.ages.now = search rules in sym (last_at 0 c.args.ages.now _ (omega (arith, some))))
