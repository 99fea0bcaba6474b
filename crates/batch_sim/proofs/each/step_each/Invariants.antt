use Rattle.std.proofs.Common.{◌≡◌, List}
use Rattle.wiring.specs.Snapshot.{Contents}
use Rattle.cycle_sim.specs.declared.ports.Out.{Out}
use Rattle.batch_sim.specs.Called.{Came}
use Rattle.batch_sim.specs.Pieces.{clocks_of}
use Rattle.batch_sim.proofs.each.step_each.Given as goal

abbrev pub invariant-loop-number : goal.invariant-loop-number
invariant-loop-number l = record {
  netlist : l.sim.netlist ≡ l.fn.sim.netlist;
  came : (from : Contents) (old : List Out) → Came l.fn.sim.netlist (clocks_of l.fn.sim.netlist l.piece.inputs) from l.fn.sim.contents old l.fn.outs l.piece.first → Came l.fn.sim.netlist (clocks_of l.fn.sim.netlist l.piece.inputs) from l.sim.contents old l.outs l.number;
}
