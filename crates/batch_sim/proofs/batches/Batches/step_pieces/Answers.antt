use Rattle.batch_sim.proofs.Clockwise.{came_rest}
use Rattle.batch_sim.proofs.batches.Batches.step_pieces.Goals as goal

pub returns-clause-ok : goal.returns-clause-ok
returns-clause-ok c =
    came_rest c.args.self.now.netlist c.loop-piece.self.netlist c.loop-piece.invariant.netlist c.args.inputs.now.enables.now c.args.inputs.now.dins.now c.args.self.now.contents c.loop-piece.self.contents c.step_piece-2.new.self.contents c.args.outs.now c.loop-piece.outs c.step_piece-2.new.outs c.loop-piece.first c.loop-piece.invariant.places c.step_piece-2.result c.step_piece-2.ensures.ok c.loop-piece.invariant.came
