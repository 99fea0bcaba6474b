use Rattle.std.proofs.Common.{take}
use Rattle.std.specs.Prelude.{All}
use Rattle.wiring.specs.Snapshot.{Fit}
use Rattle.cycle_sim.specs.declared.running.Clock.{Clock as GivenClock}
use Rattle.cycle_sim.specs.Ports.{din_widths}
use Rattle.cycle_sim.proofs.running.clocks_fit.Given as goal

abbrev pub invariant-loop-clock : goal.invariant-loop-clock
invariant-loop-clock l = All (λ (c : GivenClock). Fit (din_widths l.sim.netlist) c.dins.items) (take l.clock-index l.clocks)
