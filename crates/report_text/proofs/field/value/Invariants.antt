use Rattle.std.proofs.Common.{◌≡◌, drop}
use Rattle.dk_base.specs.Ascii.{value_after}
use Rattle.report_text.proofs.field.value.Given as goal

abbrev pub invariant-loop-digit : goal.invariant-loop-digit
invariant-loop-digit l = value_after l.value (drop l.digit-index l.digits) ≡ value_after 0 l.digits
