use Rattle.std.proofs.Common.{rules, ◌≤◌, subst, sym}
use Rattle.dk_base.specs.declared.TheConstants.{MAX_SIDE}
use Rattle.row_stream.specs.Formats.{kind_of}
use Rattle.row_stream.specs.RowReading.{EndsRows}
use Rattle.row_stream.proofs.ImageEnds.{raster_index}
use Rattle.row_stream.proofs.state.Stream.stream_image.Goals as goal

pub raster_fault-requires-clause-index : goal.raster_fault-requires-clause-index
raster_fault-requires-clause-index g c =
    let old = c.args.self.now in
    let kind = kind_of old.format in
    let header = c.args.header.now in
    let before = g.D.Desk.outside c.args.desk.now in
    let now = g.D.Desk.outside c.stream_rows.new.desk in
    let sized = c.requires.can.header.sized in
    raster_index kind old.sim.netlist header c.in-Err-Raster.fault old.sim.contents old.line before now
    (subst (λ z. EndsRows kind old.sim.netlist header z old.sim.contents old.line before now) c.in-Err-Raster.field-0-is c.in-Err-Raster.ensures.err)
    (subst (λ z. z ≤ MAX_SIDE) (sym sized.width) old.format.size.sides.most_columns) (subst (λ z. z ≤ MAX_SIDE) (sym sized.height) old.format.size.sides.most_rows)

pub returns-in-Err-Raster : goal.returns-in-Err-Raster
returns-in-Err-Raster g c = record {
  keeps = c.in-Err-Raster.ensures.keeps;
  more = search rules;
  ok = search rules;
  err =
      let old = c.args.self.now in
      let kind = kind_of old.format in
      let header = c.args.header.now in
      let before = g.D.Desk.outside c.args.desk.now in
      let now = g.D.Desk.outside c.stream_rows.new.desk in (
        c.in-Err-Raster.fault,
        subst (λ z. EndsRows kind old.sim.netlist header z old.sim.contents old.line before now) c.in-Err-Raster.field-0-is c.in-Err-Raster.ensures.err,
        λ offset bytes h j. c.raster_fault.ensures old.bits offset bytes header h j,
      );
  desk = search rules;
}

pub returns-in-Err-Read : goal.returns-in-Err-Read
returns-in-Err-Read g c = record {
  keeps = c.in-Err-Read.ensures.keeps;
  more = search rules;
  ok = search rules;
  err =
      let old = c.args.self.now in
      let kind = kind_of old.format in
      let header = c.args.header.now in
      let before = g.D.Desk.outside c.args.desk.now in
      let now = g.D.Desk.outside c.stream_rows.new.desk in
      subst (λ z. EndsRows kind old.sim.netlist header z old.sim.contents old.line before now) c.in-Err-Read.field-0-is c.in-Err-Read.ensures.err;
  desk = search rules;
}

pub returns-in-Err-Write : goal.returns-in-Err-Write
returns-in-Err-Write g c = record {
  keeps = c.in-Err-Write.ensures.keeps;
  more = search rules;
  ok = search rules;
  err =
      let old = c.args.self.now in
      let kind = kind_of old.format in
      let header = c.args.header.now in
      let before = g.D.Desk.outside c.args.desk.now in
      let now = g.D.Desk.outside c.stream_rows.new.desk in
      subst (λ z. EndsRows kind old.sim.netlist header z old.sim.contents old.line before now) c.in-Err-Write.field-0-is c.in-Err-Write.ensures.err;
  desk = search rules;
}
