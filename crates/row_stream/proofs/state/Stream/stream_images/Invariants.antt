use Rattle.std.proofs.Common.{◌≡◌, ◌+◌, ◌*◌, ◌≤◌, ◌<◌}
use Rattle.dk_base.specs.declared.TheConstants.{MAX_FILE_IMAGES, MAX_HEADER_BYTES, MAX_SIDE}
use Rattle.dk_base.specs.FrameSizes.{size_of}
use Rattle.dk_desk.specs.Outside.{Input}
use Rattle.dk_desk.specs.declared.Stage.TheVariants.{Open}
use Rattle.row_stream.specs.Formats.{kind_of}
use Rattle.row_stream.specs.Heads.{FitsHeader, TakesHead}
use Rattle.row_stream.specs.ImageReading.{Stands, unread}
use Rattle.row_stream.specs.States.{IsReady, Keeps}
use Rattle.row_stream.proofs.state.Stream.stream_images.Given as goal

abbrev pub invariant-loop-images : goal.invariant-loop-images
invariant-loop-images g l =
    let outside = g.D.Desk.outside in
    let old = l.fn.self in
    record {
      opened : (outside l.desk).image.stage ≡ Open;
      keeps : Keeps old l.self;
      ready : IsReady l.self (outside l.desk);
      few : l.self.line.rows ≤ 1 + l.images * (MAX_SIDE * MAX_SIDE);
      inside : l.images < MAX_FILE_IMAGES;
      fits : FitsHeader (size_of old.format.size) old.bits l.header;
      small : l.offset ≤ l.images * (MAX_HEADER_BYTES + MAX_SIDE * (2 * MAX_SIDE));
      no_read : (outside l.desk).input_failures ≡ (outside l.fn.desk).input_failures;
      no_failure : (outside l.desk).output_failures ≡ (outside l.fn.desk).output_failures;
      stands : (before : Input) → TakesHead l.fn.first before (outside l.fn.desk).image → Stands (kind_of old.format) old.sim.netlist old.bits l.images l.offset l.header before.rest old.sim.contents l.self.sim.contents old.line l.self.line (unread before (outside l.fn.desk)) (outside l.desk);
    }
