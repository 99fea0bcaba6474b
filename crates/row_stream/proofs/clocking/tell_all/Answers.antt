use Rattle.std.proofs.Common.{rules, refl, ◌∙◌, subst, arith}
use Rattle.std.proofs.lemmas.Option.{slice_get-get_or}
use Rattle.std.proofs.lemmas.List.{take_all}
use Rattle.row_stream.specs.Formats.{kind_of}
use Rattle.row_stream.specs.Telling.{Tells}
use Rattle.row_stream.proofs.Telling.{tells_none, tells_more, fails_next}
use Rattle.row_stream.proofs.Keeping.{passed}
use Rattle.row_stream.proofs.clocking.tell_all.Goals as goal

pub loop-out-init : goal.loop-out-init
loop-out-init g c = record {
  more = record { created = c.requires.can.created; room = c.requires.can.room; few = omega arith };
  idle = refl;
  no_read = refl;
  no_failure = refl;
  tells = tells_none (kind_of c.args.format) c.args.line.now (g.D.Desk.outside c.args.desk.now);
}

pub returns-in_err-tell : goal.returns-in_err-tell
returns-in_err-tell g c = record {
  more = search rules;
  ok = search rules;
  err =
      let outside = g.D.Desk.outside in
      passed c.from_residual.result c.in_err-tell.field-0.0 c.from_residual.ensures.1
      (fails_next (kind_of c.args.format) c.args.outs.now c.loop-out.out-index _ c.args.line.now c.loop-out.line (outside c.args.desk.now) (outside c.loop-out.desk) (outside c.tell.new.desk) (slice_get-get_or _ _ _ c.loop-out-test.true) c.loop-out.invariant.tells c.in_err-tell.ensures.err);
  desk = search rules;
}

pub loop-out-preserved : goal.loop-out-preserved
loop-out-preserved g c =
    let outside = g.D.Desk.outside in
    let inv = c.loop-out.invariant in
    record {
      more = record { created = c.in_ok-tell.ensures.more.created; room = c.in_ok-tell.ensures.more.room; few = omega (arith, c.in_ok-tell.ensures.more.few, inv.more.few) };
      idle = c.in_ok-tell.ensures.desk.idle ∙ inv.idle;
      no_read = c.in_ok-tell.ensures.desk.no_read ∙ inv.no_read;
      no_failure = search rules;
      tells = tells_more (kind_of c.args.format) c.args.outs.now c.loop-out.out-index _ c.args.line.now c.loop-out.line (outside c.args.desk.now) (outside c.loop-out.desk) (outside c.tell.new.desk) (slice_get-get_or _ _ _ c.loop-out-test.true) c.tell.new.line inv.tells c.in_ok-tell.ensures.ok;
    }

pub returns : goal.returns
returns g c = record {
  more = search rules;
  ok =
      let outside = g.D.Desk.outside in
      subst (λ z. Tells (kind_of c.args.format) z c.args.line.now c.loop-out.line (outside c.args.desk.now) (outside c.loop-out.desk)) (take_all c.loop-out.out-index c.args.outs.now (omega (arith, c.loop-out-test.false))) c.loop-out.invariant.tells;
  err = search rules;
  desk = search rules;
}
