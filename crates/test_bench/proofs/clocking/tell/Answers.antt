use Rattle.std.proofs.Common.{rules, subst, arith}
use Rattle.test_bench.specs.Clocking.{GoOn}
use Rattle.test_bench.specs.BatchClocks.{pairs_of}
use Rattle.std.proofs.lemmas.Option.{slice_get-get_or}
use Rattle.test_bench.proofs.Clocks.{told_more}
use Rattle.std.proofs.lemmas.List.{take_all}
use Rattle.test_bench.proofs.clocking.tell.Goals as goal

pub loop-out-preserved : goal.loop-out-preserved
loop-out-preserved g c = record {
  only = search rules;
  notes = told_more _ _ _ _ _ _ (slice_get-get_or _ _ _ c.loop-out-test.true) c.loop-out.invariant.notes c.note.ensures.notes;
}

pub returns-clause-notes : goal.returns-clause-notes
returns-clause-notes g c =
    let outside = g.D.Desk.outside in
    subst (λ z. GoOn (outside c.args.desk.now).notes (pairs_of z) (outside c.loop-out.desk).notes) (take_all c.loop-out.out-index c.args.outs.now (omega (arith, c.loop-out-test.false))) c.loop-out.invariant.notes
