use Rattle.std.proofs.Common.{◌∙◌, length, map}
use Rattle.row_stream.specs.Standing.{pixel_clock}
use Rattle.row_stream.proofs.Batches.{batch_fits, dins_total, outs_total, ran_runs, ran_shown, no_stop, each_fits, douts_fit, all_small}
use Rattle.row_stream.proofs.Keeping.{lasts_through}
use Rattle.row_stream.proofs.batch.step_exact.Goals as goal

pub step_batch-requires-clause-dins : goal.step_batch-requires-clause-dins
step_batch-requires-clause-dins c = batch_fits c.args.sim.now.netlist c.args.enables.now c.args.dins.now c.requires.clocks.can.one_din c.requires.clocks.enables c.requires.clocks.can.fit

pub step_batch-requires-clause-all : goal.step_batch-requires-clause-all
step_batch-requires-clause-all c = dins_total c.args.sim.now.netlist c.args.enables.now c.args.dins.now c.requires.clocks.can.one_din c.requires.clocks.enables

pub step_batch-requires-clause-outs : goal.step_batch-requires-clause-outs
step_batch-requires-clause-outs c = outs_total c.args.sim.now.netlist c.args.enables.now c.args.dins.now c.requires.clocks.can.one_din c.requires.clocks.enables (length c.args.outs.now) c.requires.clocks.can.outputs c.requires.outs

pub unreachable-requires : goal.unreachable-requires
unreachable-requires c =
    no_stop c.args.sim.now.netlist c.args.enables.now c.args.dins.now c.requires.clocks.can.one_din c.requires.clocks.enables c.args.sim.now.contents c.step_batch.new.self.contents c.args.outs.now c.step_batch.new.outs c.in-Err.field-0 c.requires.clocks.can.lasts c.requires.clocks.can.fit c.in-Err.ensures.stops

pub returns-clause-steps : goal.returns-clause-steps
returns-clause-steps c =
    let m = c.args.sim.now.netlist in
    let from = c.args.sim.now.contents in
    let to = c.step_batch.new.self.contents in
    let outs = c.step_batch.new.outs in
    let ok = c.in-Ok.ensures.ok in
    let clocks = map pixel_clock c.args.dins.now in
    let runs = ran_runs m c.args.enables.now c.args.dins.now c.requires.clocks.can.one_din c.requires.clocks.enables from to outs ok in
    let shown = ran_shown m c.args.enables.now c.args.dins.now c.requires.clocks.can.one_din c.requires.clocks.enables from to outs ok c.requires.clocks.can.outputs (c.step_batch.auto.outs ∙ c.requires.outs) in
    let fit = each_fits m c.args.dins.now c.requires.clocks.can.fit in
    record {
      netlist = c.in-Ok.ensures.netlist;
      ran = record {
        shots = ok.shots;
        runs = runs;
        shown = shown;
        small = λ kind one. all_small kind.maxval outs (douts_fit c.values_fit_law.ensures.nets c.values_fit_law.ensures.next kind m one clocks from to ok.shots outs c.law.ensures.fit fit runs shown);
        lasts = lasts_through m clocks ok.shots from to fit c.requires.clocks.can.lasts runs;
      };
    }
