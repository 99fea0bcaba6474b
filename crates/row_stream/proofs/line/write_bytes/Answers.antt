use Rattle.std.proofs.Common.{rules}
use Rattle.std.proofs.lemmas.Result.{on_ok_weaker, on_err_weaker}
use Rattle.dk_desk.specs.declared.OutSlot.TheVariants.{File}
use Rattle.dk_desk.proofs.DeskLemmas.{Adds-more}
use Rattle.row_stream.proofs.Keeping.{passed}
use Rattle.row_stream.proofs.Writes.{front_first, front_second}
use Rattle.row_stream.proofs.line.write_bytes.Goals as goal

pub returns-in_err-write_head_before : goal.returns-in_err-write_head_before
returns-in_err-write_head_before g c = record {
  ok = search rules;
  err = passed c.from_residual.result c.in_err-write_head_before.field-0.0 c.from_residual.ensures.1 (front_first _ _ _ c.args.bytes.now c.in_err-write_head_before.ensures.err);
  desk = search rules;
}

pub returns : goal.returns
returns g c = record {
  ok = on_ok_weaker c.write_all.result (λ h. Adds-more File _ _ _ _ _ c.in_ok-write_head_before.ensures.ok h) c.write_all.ensures.ok;
  err = on_err_weaker c.write_all.result (λ h. front_second _ _ _ _ _ c.in_ok-write_head_before.ensures.ok h) c.write_all.ensures.err;
  desk = search rules;
}
