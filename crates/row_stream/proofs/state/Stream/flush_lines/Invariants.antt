use Rattle.std.proofs.Common.{◌≡◌, ◌*◌}
use Rattle.row_stream.specs.Progress.{pixel_clocks}
use Rattle.row_stream.specs.States.{Keeps, CanGoOn, GoesThrough}
use Rattle.row_stream.proofs.state.Stream.flush_lines.Given as goal

abbrev pub invariant-loop-number : goal.invariant-loop-number
invariant-loop-number g l =
    let outside = g.D.Desk.outside in
    let width = l.fn.self.format.size.width in
    record {
      keeps : Keeps l.fn.self l.self;
      more : CanGoOn (l.number * width) l.fn.self l.self (outside l.desk);
      dins : l.self.batch.dins.items ≡ l.fn.self.batch.dins.items;
      idle : (outside l.desk).image ≡ (outside l.fn.desk).image;
      no_read : (outside l.desk).input_failures ≡ (outside l.fn.desk).input_failures;
      no_failure : (outside l.desk).output_failures ≡ (outside l.fn.desk).output_failures;
      goes : GoesThrough (pixel_clocks (λ k. 0) (l.number * width)) l.fn.self l.self (outside l.fn.desk) (outside l.desk);
    }
