use Rattle.std.proofs.Common.{rules, refl, subst, sym, ◌≤◌, arith}
use Rattle.dk_base.specs.declared.TheConstants.{MAX_SIDE}
use Rattle.row_stream.specs.Formats.{kind_of}
use Rattle.row_stream.specs.Heads.{FitsHeader}
use Rattle.row_stream.specs.RowReading.{Streams, EndsRow, EndsRows}
use Rattle.row_stream.specs.States.{Setting}
use Rattle.row_stream.proofs.Rasters.{streams_none, streams_more}
use Rattle.row_stream.proofs.RowLemmas.{ends_rows}
use Rattle.row_stream.proofs.Keeping.{if_err, keeps_none, keeps_then}
use Rattle.row_stream.proofs.state.Stream.stream_rows.Goals as goal

pub loop-row-init : goal.loop-row-init
loop-row-init g c =
    let old = c.args.self.now in
    record {
      opened = c.requires.opened;
      keeps = keeps_none old c.requires.ready.stream;
      more = record { ready = c.requires.ready; few = omega arith };
      no_read = refl;
      no_failure = refl;
      streams = streams_none (kind_of old.format) old.sim.netlist c.args.header.now old.sim.contents old.line (g.D.Desk.outside c.args.desk.now);
    }

pub stream_row-requires-clause-can : goal.stream_row-requires-clause-can
stream_row-requires-clause-can g c =
    let inv = c.loop-row.invariant in
    let high = subst (λ z. z ≤ MAX_SIDE) (sym c.requires.header.sized.height) c.args.self.now.format.size.sides.most_rows in
    record {
      opened = inv.opened;
      ready = inv.more.ready;
      few = omega (arith, inv.more.few, c.requires.few, c.loop-row-test.true, high);
      header = subst (λ (z : Setting). FitsHeader z.kind.size z.bits c.args.header.now) (sym inv.keeps.setting) c.requires.header;
    }

pub returns-in_err-stream_row : goal.returns-in_err-stream_row
returns-in_err-stream_row g c = record {
  keeps = keeps_then c.args.self.now c.loop-row.self c.stream_row.new.self c.loop-row.invariant.keeps c.in_err-stream_row.ensures.keeps;
  more = search rules;
  ok = search rules;
  err =
      let inv = c.loop-row.invariant in
      let old = c.args.self.now in
      let mid = c.loop-row.self in
      let kind = kind_of old.format in
      let header = c.args.header.now in
      let start = g.D.Desk.outside c.args.desk.now in
      let half = g.D.Desk.outside c.loop-row.desk in
      let now = g.D.Desk.outside c.stream_row.new.desk in
      let f = c.in_err-stream_row.field-0.0 in
      let here = subst (λ (z : Setting). EndsRow z.kind z.netlist header c.loop-row.row f mid.sim.contents mid.line half now) inv.keeps.setting c.in_err-stream_row.ensures.err in
      if_err (λ e. EndsRows kind old.sim.netlist header e old.sim.contents old.line start now) c.from_residual.result f c.from_residual.ensures.1
      (ends_rows kind old.sim.netlist header c.loop-row.row f old.sim.contents mid.sim.contents old.line mid.line start half now c.loop-row-test.true inv.streams here);
  desk = search rules;
}

pub loop-row-preserved : goal.loop-row-preserved
loop-row-preserved g c =
    let inv = c.loop-row.invariant in
    let old = c.args.self.now in
    let mid = c.loop-row.self in
    let new = c.stream_row.new.self in
    let kind = kind_of old.format in
    let header = c.args.header.now in
    let start = g.D.Desk.outside c.args.desk.now in
    let half = g.D.Desk.outside c.loop-row.desk in
    let now = g.D.Desk.outside c.stream_row.new.desk in
    let ok = c.in_ok-stream_row.ensures in
    let here = subst (λ (z : Setting). Streams z.kind z.netlist header 1 mid.sim.contents new.sim.contents mid.line new.line half now) inv.keeps.setting ok.ok in
    let wide = subst (λ (z : Setting). z.kind.size.width ≤ MAX_SIDE) (sym inv.keeps.setting) old.format.size.sides.most_columns in
    record {
      opened = ok.desk.opened;
      keeps = keeps_then old mid new inv.keeps ok.keeps;
      more = record { ready = ok.more.ready; few = omega (arith, ok.more.few, inv.more.few, wide) };
      no_read = search rules;
      no_failure = search rules;
      streams = streams_more kind old.sim.netlist header c.loop-row.row old.sim.contents mid.sim.contents new.sim.contents old.line mid.line new.line start half now inv.streams here;
    }
