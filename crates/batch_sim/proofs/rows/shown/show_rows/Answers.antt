use Rattle.std.proofs.Common.{◌≡◌, ◌∙◌, arith}
use Rattle.lane_rows.specs.Values.{row_values, values_of}
use Rattle.batch_sim.proofs.Outputs.{output_more, all_shown}
use Rattle.batch_sim.proofs.rows.shown.show_rows.Goals as goal

pub loop-output-preserved : goal.loop-output-preserved
loop-output-preserved c = record {
  long = c.show_output.ensures.outs ∙ c.loop-output.invariant.long;
  shown = output_more (values_of c.args.rows.now) c.args.first c.args.count c.args.clocks c.loop-output.output (row_values c.row_at-valid.result.now) (row_values c.row_at-dout.result.now) c.loop-output.outs c.show_output.new.outs c.loop-output-test.true
      c.row_at-valid.ensures c.row_at-dout.ensures c.show_output.ensures.here c.show_output.ensures.others c.loop-output.invariant.shown;
}

pub returns : goal.returns
returns c =
    let end : c.loop-output.output ≡ c.args.count = omega (arith, c.loop-output-test.false, c.loop-output.auto.output-end) in
    all_shown (values_of c.args.rows.now) c.args.first c.args.count c.args.clocks c.loop-output.outs (c.loop-output.invariant.long ∙ c.requires.outs)
    (λ t k l below. c.loop-output.invariant.shown t k l (omega (arith, below, end)))
