use Rattle.batch_rows.specs.Code.{RowsAreRun}
use Rattle.batch_rows.specs.LaneSizes.{HaveRooms}
use Rattle.batch_rows.proofs.code.run_code.Given as goal

abbrev pub invariant-loop-k : goal.invariant-loop-k
invariant-loop-k l = record {
  rooms : HaveRooms l.rooms l.count;
  run : RowsAreRun l.widths l.instructions l.count l.fn.rows l.rows l.k;
}
