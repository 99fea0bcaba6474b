use Rattle.batch_sim.specs.Called.{batch_clocks}
use Rattle.batch_sim.proofs.Clockwise.{stop_only}
use Rattle.batch_sim.proofs.batches.Batches.step_batch.Goals as goal

pub returns-clause-only : goal.returns-clause-only
returns-clause-only c = λ shots x i stops.
    let m = c.args.self.now.netlist in
    let from = c.args.self.now.contents in
    stop_only c.one_run_law.ensures.apart c.one_run_law.ensures.stop m (batch_clocks m c.args.enables.now c.args.dins.now) from c.step_pieces.new.self.contents c.args.outs.now c.step_pieces.new.outs c.law.ensures.one_valuation c.law.ensures.one_next c.law.ensures.places c.step_pieces.result c.step_pieces.ensures.ok c.step_pieces.ensures.stops shots x i stops
