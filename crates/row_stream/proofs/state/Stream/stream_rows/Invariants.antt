use Rattle.std.proofs.Common.{◌≡◌, ◌*◌}
use Rattle.dk_desk.specs.declared.Stage.TheVariants.{Open}
use Rattle.dk_base.specs.declared.TheConstants.{MAX_SIDE}
use Rattle.row_stream.specs.Formats.{kind_of}
use Rattle.row_stream.specs.RowReading.{Streams}
use Rattle.row_stream.specs.States.{Keeps, CanGoOn}
use Rattle.row_stream.proofs.state.Stream.stream_rows.Given as goal

abbrev pub invariant-loop-row : goal.invariant-loop-row
invariant-loop-row g l =
    let outside = g.D.Desk.outside in
    record {
      opened : (outside l.desk).image.stage ≡ Open;
      keeps : Keeps l.fn.self l.self;
      more : CanGoOn (l.row * MAX_SIDE) l.fn.self l.self (outside l.desk);
      no_read : (outside l.desk).input_failures ≡ (outside l.fn.desk).input_failures;
      no_failure : (outside l.desk).output_failures ≡ (outside l.fn.desk).output_failures;
      streams : Streams (kind_of l.fn.self.format) l.fn.self.sim.netlist l.header l.row l.fn.self.sim.contents l.self.sim.contents l.fn.self.line l.self.line (outside l.fn.desk) (outside l.desk);
    }
