use Rattle.std.proofs.Common.{length, rules}
use Rattle.lane_rows.specs.Values.{values_of}
use Rattle.batch_sim.specs.Called.{batch_clocks}
use Rattle.batch_sim.specs.Stored.{contents_in}
use Rattle.batch_sim.proofs.Rowwise.{piece_long, piece_shown}
use Rattle.batch_sim.proofs.rows.rows_batch.Goals as goal

pub returns-clause-tries : goal.returns-clause-tries
returns-clause-tries c = record {
  fits = c.run_piece.ensures.tries.fits;
  ran = λ _ from old came.
      let m = c.args.sim.now.netlist in
      let p = c.args.piece.now in
      let r = c.run_piece.new.rows in
      let clocks = batch_clocks m p.inputs.enables.now p.inputs.dins.now in
      piece_shown m clocks from (contents_in c.args.stored.now) (contents_in c.run_piece.new.stored) old c.args.outs.now c.show_guess.new.outs p.first p.count c.outputs-outputs.result (length p.inputs.enables.now) r.guess.engine.code.first_output (values_of r.guess.rows) c.run_piece.ensures.rows.engine.code.slots.first_output c.outputs-outputs.ensures
      (c.run_piece.ensures.tries.ran c.if-not-run_piece.false) (piece_long m p.inputs.enables.now p.inputs.dins.now p.first p.count c.requires.piece.piece.within) c.requires.piece.piece.within c.requires.outs c.show_guess.auto.outs c.show_guess.ensures came;
  back = search rules;
  outs = search rules;
}
