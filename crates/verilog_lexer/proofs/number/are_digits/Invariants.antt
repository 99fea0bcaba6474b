use Rattle.std.proofs.Common.{◌≡◌, drop}
use Rattle.verilog_text.specs.Bytes.{are_digits}
use Rattle.verilog_lexer.proofs.number.are_digits.Given as goal

abbrev pub invariant-loop-digit : goal.invariant-loop-digit
invariant-loop-digit l = are_digits l.fn.base (drop l.digit-index l.digits) ≡ are_digits l.fn.base l.digits
