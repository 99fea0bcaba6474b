use Rattle.std.proofs.Common.{◌≡◌, take}
use Rattle.row_stream.specs.Formats.{kind_of}
use Rattle.row_stream.specs.Telling.{Tells}
use Rattle.row_stream.specs.States.{CanAddMore}
use Rattle.row_stream.proofs.clocking.tell_all.Given as goal

abbrev pub invariant-loop-out : goal.invariant-loop-out
invariant-loop-out g l =
    let outside = g.D.Desk.outside in
    record {
      more : CanAddMore l.out-index l.format l.fn.line l.line (outside l.desk);
      idle : (outside l.desk).image ≡ (outside l.fn.desk).image;
      no_read : (outside l.desk).input_failures ≡ (outside l.fn.desk).input_failures;
      no_failure : (outside l.desk).output_failures ≡ (outside l.fn.desk).output_failures;
      tells : Tells (kind_of l.format) (take l.out-index l.outs) l.fn.line l.line (outside l.fn.desk) (outside l.desk);
    }
