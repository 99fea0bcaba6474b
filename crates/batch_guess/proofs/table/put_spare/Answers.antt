use Rattle.std.proofs.Common.{map}
use Rattle.std.specs.Prelude.{slice_index}
use Rattle.batch_guess.proofs.Tables.{trimmed_narrow}
use Rattle.batch_guess.proofs.table.put_spare.Goals as goal

pub put_row-requires-clause-fits : goal.put_row-requires-clause-fits
put_row-requires-clause-fits g c = λ t l.
    trimmed_narrow c.args.widths.now c.args.rows.now c.args.slot c.mask_of.result (slice_index (map g.L.Lane.value c.trim_row.new.row.items) t) (c.trim_row.ensures.most t l) c.mask_of.ensures c.requires.slot c.requires.lanes
