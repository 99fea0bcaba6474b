use Rattle.std.proofs.Common.{◌≡◌, drop}
use Rattle.verilog_text.specs.Bytes.{value_after, value_of}
use Rattle.verilog_lexer.proofs.number.value.Given as goal

abbrev pub invariant-loop-digit : goal.invariant-loop-digit
invariant-loop-digit l = value_after l.fn.base l.value (drop l.digit-index l.digits) ≡ value_of l.fn.base l.digits
