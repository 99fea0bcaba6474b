use Rattle.std.proofs.Common.{◌≡◌, ◌++◌, drop}
use Rattle.wiring.specs.Rules.{with_valids}
use Rattle.net_build.proofs.ports.output_widths.Given as goal

-- the widths so far with those to come
abbrev pub invariant-loop-bits : goal.invariant-loop-bits
invariant-loop-bits l = l.widths.items ++ with_valids (drop l.bits-index l.douts) ≡ with_valids l.douts
