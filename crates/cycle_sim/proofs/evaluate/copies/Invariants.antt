use Rattle.std.proofs.Common.{◌≡◌}
use Rattle.wiring.specs.Rights.{repeated}
use Rattle.cycle_sim.proofs.evaluate.copies.Given as goal

abbrev pub invariant-loop-i : goal.invariant-loop-i
invariant-loop-i l = l.all ≡ repeated l._i l.width l.a
