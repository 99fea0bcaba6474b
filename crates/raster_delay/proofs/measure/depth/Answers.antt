use Rattle.std.proofs.Common.{rules}
use Rattle.raster_delay.proofs.Places.{system_form}
use Rattle.raster_delay.proofs.measure.depth.Goals as goal

pub depth_among-requires : goal.depth_among-requires
depth_among-requires c =
    let form = system_form c.args.system.now c.law.ensures in
    record {
      row_limit = rw c.width.ensures form.row_limit;
      reads_are = rw (c.width.ensures, c.inputs.ensures, c.requires.causal.one_each, c.placed_reads.ensures) form.reads_are;
      small = c.requires.small;
      due = search rules;
    }
