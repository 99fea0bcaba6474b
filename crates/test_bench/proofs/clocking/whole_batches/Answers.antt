use Rattle.std.proofs.Common.{◌≡◌, ◌∙◌, ◌+◌, ◌*◌, ◌≤◌, refl, sym, subst, arith, ap}
use Rattle.std.specs.List.{flat_map, range_with_len}
use Rattle.std.proofs.lemmas.Result.{err_from_is_err_and}
use Rattle.dk_desk.specs.Outside.{Outside}
use Rattle.cycle_sim.specs.Ports.{din_widths}
use Rattle.test_bench.specs.declared.batch.TheConstants.{BATCH_PIXELS}
use Rattle.stimulus.specs.Stimulus.{clocks_at}
use Rattle.stimulus.specs.Given.{rounds_of}
use Rattle.test_bench.specs.Clocking.{pixel_clocks, Clocked, IsFed, StopsIn}
use Rattle.test_bench.proofs.Runs.{clocked_none}
use Rattle.test_bench.proofs.Joined.{clocked_on, stops_on, next_batch, batch_within}
use Rattle.test_bench.proofs.clocking.whole_batches.Goals as goal

pub loop-batch-init : goal.loop-batch-init
loop-batch-init g c = record {
  few = omega arith;
  only = refl;
  clocked = clocked_none c.args.bench.now.sim.netlist c.args.bench.now (g.D.Desk.outside c.args.desk.now).notes c.requires.drive.bench refl;
}

pub returns-in_err-some_pixel_clocks : goal.returns-in_err-some_pixel_clocks
returns-in_err-some_pixel_clocks g c =
    let outside = g.D.Desk.outside in
    let old = c.args.bench.now in
    let mid = c.loop-batch.bench in
    let m = old.sim.netlist in
    let k = c.loop-batch.batch in
    let f = clocks_at c.args.feed.now.hold (din_widths m) (rounds_of c.args.rounds.now) in
    let stop = c.in_err-some_pixel_clocks.field-0.0 in
    let p = err_from_is_err_and c.from_residual.result c.from_residual.ensures.1 in
    let here = subst (λ z. StopsIn z mid.sim.contents mid.made (flat_map (clocks_at c.args.feed.now.hold (din_widths z) (rounds_of c.args.rounds.now)) (range_with_len (k * BATCH_PIXELS) BATCH_PIXELS)) stop) c.loop-batch.invariant.clocked.netlist c.in_err-some_pixel_clocks.ensures.stop in
    rw (p.1, p.2) (record {
      only = c.in_err-some_pixel_clocks.ensures.only ∙ ap (λ (o : Outside). record o { notes = (outside c.some_pixel_clocks.new.desk).notes }) c.loop-batch.invariant.only;
      stop = stops_on m f (k * BATCH_PIXELS) BATCH_PIXELS (c.args.batches * BATCH_PIXELS) old mid (outside c.args.desk.now).notes (outside c.loop-batch.desk).notes stop (batch_within k c.args.batches BATCH_PIXELS c.loop-batch-test.true) c.loop-batch.invariant.clocked here;
    })

pub some_pixel_clocks-requires-clause-drive : goal.some_pixel_clocks-requires-clause-drive
some_pixel_clocks-requires-clause-drive g c =
    let fed = c.requires.drive.fed in
    let clocked = c.loop-batch.invariant.clocked in
    record { bench = clocked.bench; fed = (fed.0, subst (λ z. IsFed z fed.0 c.args.feed.now c.args.rounds.now) (sym clocked.netlist) fed.1) }

pub loop-batch-preserved : goal.loop-batch-preserved
loop-batch-preserved g c =
    let outside = g.D.Desk.outside in
    let old = c.args.bench.now in
    let mid = c.loop-batch.bench in
    let new = c.some_pixel_clocks.new.bench in
    let m = old.sim.netlist in
    let k = c.loop-batch.batch in
    let between = (outside c.loop-batch.desk).notes in
    let now = (outside c.some_pixel_clocks.new.desk).notes in
    let f = clocks_at c.args.feed.now.hold (din_widths m) (rounds_of c.args.rounds.now) in
    let here = subst (λ z. Clocked z (flat_map (clocks_at c.args.feed.now.hold (din_widths z) (rounds_of c.args.rounds.now)) (range_with_len (k * BATCH_PIXELS) BATCH_PIXELS)) mid new between now) c.loop-batch.invariant.clocked.netlist c.in_ok-some_pixel_clocks.ensures.ok in
    let next = next_batch k BATCH_PIXELS in
    record {
      few = omega (arith, c.in_ok-some_pixel_clocks.ensures.few, c.loop-batch.invariant.few, next);
      only = c.in_ok-some_pixel_clocks.ensures.only ∙ ap (λ (o : Outside). record o { notes = now }) c.loop-batch.invariant.only;
      clocked = clocked_on m f (k * BATCH_PIXELS) BATCH_PIXELS ((k + 1) * BATCH_PIXELS) old mid new (outside c.args.desk.now).notes between now next c.loop-batch.invariant.clocked here;
    }

pub returns : goal.returns
returns g c =
    let outside = g.D.Desk.outside in
    let old = c.args.bench.now in
    let end : c.loop-batch.batch ≡ c.args.batches = omega (arith, c.loop-batch-test.false, c.loop-batch.auto.batch-end) in
    record {
      few = subst (λ n. c.loop-batch.bench.made ≤ old.made + 2 * (n * BATCH_PIXELS)) end c.loop-batch.invariant.few;
      only = c.loop-batch.invariant.only;
      ok = subst (λ n. Clocked old.sim.netlist (pixel_clocks old.sim.netlist c.args.feed.now c.args.rounds.now 0 (n * BATCH_PIXELS)) old c.loop-batch.bench (outside c.args.desk.now).notes (outside c.loop-batch.desk).notes) end c.loop-batch.invariant.clocked;
    }
