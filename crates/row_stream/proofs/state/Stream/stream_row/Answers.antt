use Rattle.std.proofs.Common.{rules, refl, ◌≡◌, ◌∙◌, sym, arith, subst, ◌≤◌}
use Rattle.dk_base.specs.declared.TheConstants.{MAX_SIDE}
use Rattle.row_stream.specs.Formats.{kind_of}
use Rattle.row_stream.specs.RowReading.{EndsRow}
use Rattle.row_stream.proofs.RowLemmas.{streams_one, fails_row, one_row, misses_row}
use Rattle.row_stream.proofs.Keeping.{if_err}
use Rattle.row_stream.proofs.state.Stream.stream_row.Goals as goal

pub read_front-requires : goal.read_front-requires
read_front-requires g c =
    let can = c.requires.can in
    record {
      opened = can.opened;
      width = subst (λ z. z ≤ MAX_SIDE) (sym can.header.sized.width) c.args.self.now.format.size.sides.most_columns;
      row = c.requires.row;
      room = omega (arith, can.ready.stream.row, can.header.sized.width);
    }

pub returns-in_err-read_front : goal.returns-in_err-read_front
returns-in_err-read_front g c = record {
  keeps = record { setting = refl; row = c.in_err-read_front.ensures.room; batch = c.requires.can.ready.stream.batch };
  more = search rules;
  ok = search rules;
  err =
      let old = c.args.self.now in
      let before = g.D.Desk.outside c.args.desk.now in
      let now = g.D.Desk.outside c.read_front.new.desk in
      let f = c.in_err-read_front.field-0.0 in
      if_err (λ e. EndsRow (kind_of old.format) old.sim.netlist c.args.header.now c.args.row e old.sim.contents old.line before now) c.from_residual.result f c.from_residual.ensures.1
      (misses_row (kind_of old.format) old.sim.netlist c.args.header.now c.args.row f old.sim.contents old.line before now c.in_err-read_front.ensures.fault c.in_err-read_front.ensures.desk.only);
  desk = search rules;
}

pub clock_row-requires-clause-ready : goal.clock_row-requires-clause-ready
clock_row-requires-clause-ready g c =
    let s = c.requires.can.ready.stream in
    record {
      ready = record {
        stream = record { bits = s.bits; one = s.one; fit = s.fit; room = s.room; row = c.in_ok-read_front.ensures.room ∙ s.row; batch = s.batch };
        created = search rules;
        lasts = c.requires.can.ready.lasts;
      };
      few = c.requires.can.few;
    }

pub clock_row-requires-clause-row : goal.clock_row-requires-clause-row
clock_row-requires-clause-row g c = one_row c.args.header.now c.args.row _ c.in_ok-read_front.ensures.ok.judged c.in_ok-read_front.ensures.ok.bytes

pub returns-in-Err : goal.returns-in-Err
returns-in-Err g c = record {
  keeps = let k = c.in-Err.ensures.keeps in record { setting = k.setting; row = k.row ∙ c.in_ok-read_front.ensures.room; batch = k.batch };
  more = search rules;
  ok = search rules;
  err =
      let old = c.args.self.now in
      let before = g.D.Desk.outside c.args.desk.now in
      let mid = g.D.Desk.outside c.read_front.new.desk in
      let now = g.D.Desk.outside c.clock_row.new.desk in
      let took = c.in_ok-read_front.ensures.ok in
      let same : mid.input_failures ≡ before.input_failures = search rules in
      fails_row (kind_of old.format) old.sim.netlist c.args.header.now c.args.row old.format.size.width _ old.sim.contents old.line before mid now
      c.requires.can.header.sized.width took.judged took.bytes took.given c.in_ok-read_front.ensures.desk.only same c.in-Err.ensures.desk.idle c.in-Err.ensures.err;
  desk = search rules;
}

pub returns-in-Ok : goal.returns-in-Ok
returns-in-Ok g c = record {
  keeps = let k = c.in-Ok.ensures.keeps in record { setting = k.setting; row = k.row ∙ c.in_ok-read_front.ensures.room; batch = k.batch };
  more = search rules;
  ok =
      let old = c.args.self.now in
      let before = g.D.Desk.outside c.args.desk.now in
      let mid = g.D.Desk.outside c.read_front.new.desk in
      let now = g.D.Desk.outside c.clock_row.new.desk in
      let took = c.in_ok-read_front.ensures.ok in
      let same : mid.input_failures ≡ before.input_failures = search rules in
      streams_one (kind_of old.format) old.sim.netlist c.args.header.now c.args.row old.format.size.width _ old.sim.contents old.line before mid now
      c.requires.can.header.sized.width took.judged took.bytes took.given c.in_ok-read_front.ensures.desk.only same c.in-Ok.ensures.desk.idle c.clock_row.new.self.sim.contents c.clock_row.new.self.line c.in-Ok.ensures.ok;
  err = search rules;
  desk = search rules;
}
