use Rattle.std.proofs.Common.{◌≡◌, ◌≤◌, length}
use Rattle.batch_sim.specs.Called.{Came}
use Rattle.batch_sim.specs.Pieces.{clocks_of}
use Rattle.batch_sim.proofs.batches.Batches.step_pieces.Given as goal

abbrev pub invariant-loop-piece : goal.invariant-loop-piece
invariant-loop-piece l = record {
  netlist : l.self.netlist ≡ l.fn.self.netlist;
  places : l.first ≤ length l.inputs.enables.now;
  came : Came l.fn.self.netlist (clocks_of l.fn.self.netlist l.inputs) l.fn.self.contents l.self.contents l.fn.outs l.outs l.first;
}
