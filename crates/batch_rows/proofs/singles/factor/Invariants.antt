use Rattle.std.proofs.Common.{◌≡◌, ◌%◌, ◌^◌}
use Rattle.wiring.specs.Rights.{repeated}
use Rattle.batch_rows.proofs.singles.factor.Given as goal

abbrev pub invariant-loop-number : goal.invariant-loop-number
invariant-loop-number l = l.all ≡ repeated l._number l.width 1 % 2 ^ 64
