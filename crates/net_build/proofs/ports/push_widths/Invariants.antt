use Rattle.std.proofs.Common.{◌≡◌, ◌++◌, drop}
use Rattle.net_build.proofs.ports.push_widths.Given as goal

-- the widths so far with those to come
abbrev pub invariant-loop-bits : goal.invariant-loop-bits
invariant-loop-bits l = l.widths.items ++ drop l.bits-index l.dins ≡ l.fn.widths.items ++ l.dins
