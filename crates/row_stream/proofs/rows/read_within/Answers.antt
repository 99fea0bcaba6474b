use Rattle.std.proofs.Common.{rules, subst, sym}
use Rattle.std.specs.Result.{OnOk}
use Rattle.pgm_codec.specs.Rasters.{row_length}
use Rattle.row_stream.specs.RowReading.{TakesRow}
use Rattle.row_stream.proofs.Batches.{in_front}
use Rattle.row_stream.proofs.RowLemmas.{takes_row}
use Rattle.row_stream.proofs.rows.read_within.Goals as goal

pub returns : goal.returns
returns g c = record {
  room = search rules;
  ok =
      let new = c.read_row.new.to in
      let header = c.args.header.now in
      let before = (g.D.Desk.outside c.args.desk.now).image in
      let now = (g.D.Desk.outside c.read_row.new.desk).image in
      subst (λ z. OnOk c.read_row.result (TakesRow header c.args.row z before now)) (sym (in_front (row_length header) new _ c.read_row.ensures.room))
      (takes_row header c.args.row new before now c.read_row.result c.read_row.ensures.given c.read_row.ensures.judged c.read_row.ensures.bytes);
  fault = search rules;
  desk = search rules;
}
