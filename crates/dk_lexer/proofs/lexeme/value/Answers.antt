use Rattle.std.proofs.Common.{◌≤◌, ◌^◌, arith}
use Rattle.dk_base.specs.Ascii.{value_of}
use Rattle.dk_lexer.proofs.Numbers.{value_at}
use Rattle.dk_lexer.proofs.lexeme.value.Goals as goal

pub returns-in_err-value : goal.returns-in_err-value
returns-in_err-value c =
    let big : 2 ^ 64 ≤ value_of c.args.digits.now = omega (arith, c.loop-digit.invariant, c.in_err-value.ensures, value_at c.loop-digit.value c.args.digits.now c.loop-digit.digit-index c.loop-digit-test.true) in
    rw c.from_residual.ensures big
