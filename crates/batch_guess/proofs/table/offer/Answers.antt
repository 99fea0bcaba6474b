use Rattle.std.proofs.Common.{◌≡◌, ◌<◌, ◌∙◌, [], length, arith}
use Rattle.std.specs.Prelude.{slice_index_or}
use Rattle.std.proofs.lemmas.List.{length-map}
use Rattle.lane_rows.specs.Values.{row_values, values_of}
use Rattle.batch_guess.proofs.Tables.{table_free}
use Rattle.batch_guess.proofs.table.offer.Goals as goal

pub returns-clause-table : goal.returns-clause-table
returns-clause-table c =
    let rows = c.args.table.now.rows.items in
    let inside : c.args.slot < length rows = omega (arith, c.if-slot-len.false, c.len.ensures) in
    let count : length (values_of rows) ≡ length rows = length-map rows row_values in
    let long : length (slice_index_or (values_of rows) c.args.slot []) ≡ length c.args.table.now.room.items = c.requires.table.ran.rows.long c.args.slot (omega (arith, inside, count)) in
    table_free c.args.widths.now c.args.code.now c.args.uses.now c.requires.uses (length c.args.table.now.room.items) c.args.done c.args.slot (c.is_free.ensures c.if-not-is_free.false) c.args.table.now c.put_free.new.table inside c.put_free.ensures.rows.count c.put_free.ensures.rows.bits (c.put_free.ensures.rows.long ∙ long)
    (λ t l. c.put_free.ensures.rows.fit t (omega (arith, l, long))) c.put_free.ensures.rows.others c.put_free.ensures.rooms c.put_free.ensures.spares c.requires.table
