use Rattle.std.proofs.Common.{arith}
use Rattle.dk_parser.proofs.Depths as D
use Rattle.dk_parser.proofs.built.selected.Goals as goal

pub returns-in-Err-operand : goal.returns-in-Err-operand
returns-in-Err-operand c = λ t l r o p q.
    let a = c.in-Ok.ensures.stands t o in
    D.second_deep t l r _ (omega (arith, a.1, c.in-Ok.ensures.shallow)) (c.in-Err-operand.ensures.stands l p) c.args.span

pub returns-in-Err-operand-2 : goal.returns-in-Err-operand-2
returns-in-Err-operand-2 c = λ t l r o p q.
    let a = c.in-Ok.ensures.stands t o in
    let b = c.in-Ok-operand.ensures.stands l p in
    D.third_deep t l r _ (omega (arith, a.1, c.in-Ok.ensures.shallow)) (omega (arith, b.1, c.in-Ok-operand.ensures.shallow)) (c.in-Err-operand-2.ensures.stands r q) c.args.span
