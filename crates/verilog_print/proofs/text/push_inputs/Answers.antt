use Rattle.std.proofs.Common.{refl, length}
use Rattle.std.proofs.lemmas.Option.{slice_get_read}
use Rattle.verilog_layout.specs.Layout.{input_layout}
use Rattle.verilog_print.proofs.Lines.{each_at_step}
use Rattle.verilog_print.proofs.text.push_inputs.Goals as goal

pub loop-k-preserved : goal.loop-k-preserved
loop-k-preserved c =
    let at = slice_get_read c.args.widths.now (length c.args.widths.now) c.loop-k.k c.index-widths-k.result refl c.loop-k-test.true c.index-widths-k.is in
    each_at_step (input_layout c.args.enable) c.args.widths.now c.loop-k.k c.index-widths-k.result c.loop-k.out.items c.push_input.new.out.items _ at c.loop-k.invariant c.in_ok-push_input.ensures
