use Rattle.std.proofs.Common.{refl, arith}
use Rattle.dk_types.proofs.Literals.{literal}
use Rattle.dk_types.proofs.worked.worked_types.Goals as goal

pub returns-clause-literals : goal.returns-clause-literals
returns-clause-literals c = (refl, literal 5 2 (omega arith) (omega arith) (omega arith), literal 18446744073709551615 63 (omega arith) (omega arith) (omega arith))
