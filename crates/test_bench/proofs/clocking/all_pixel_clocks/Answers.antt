use Rattle.std.proofs.Common.{◌∙◌, ◌*◌, ℕ, ap, sym, subst, arith}
use Rattle.std.specs.Prelude.{◌/◌, ◌%◌}
use Rattle.std.specs.List.{flat_map, range_with_len}
use Rattle.std.proofs.lemmas.Result.{err_from_is_err_and}
use Rattle.dk_desk.specs.Outside.{Outside}
use Rattle.cycle_sim.specs.Ports.{din_widths}
use Rattle.test_bench.specs.declared.batch.TheConstants.{BATCH_PIXELS}
use Rattle.stimulus.specs.Stimulus.{clocks_at}
use Rattle.stimulus.specs.Given.{rounds_of}
use Rattle.test_bench.specs.Clocking.{Clocked, IsFed, StopsIn}
use Rattle.test_bench.proofs.Joined.{clocked_on, stops_on, stops_all, parts_of}
use Rattle.test_bench.proofs.clocking.all_pixel_clocks.Goals as goal

pub returns-in_err-whole_batches : goal.returns-in_err-whole_batches
returns-in_err-whole_batches g c =
    let old = c.args.bench.now in
    let m = old.sim.netlist in
    let n : ℕ = c.args.clocks in
    let f = clocks_at c.args.feed.now.hold (din_widths m) (rounds_of c.args.rounds.now) in
    let stop = c.in_err-whole_batches.field-0.0 in
    let p = err_from_is_err_and c.from_residual.result c.from_residual.ensures.1 in
    let parts = parts_of n BATCH_PIXELS in
    rw (p.1, p.2) (record { only = c.in_err-whole_batches.ensures.only; stop = stops_all m f (n / BATCH_PIXELS * BATCH_PIXELS) n old.sim.contents old.made stop (omega (arith, parts)) c.in_err-whole_batches.ensures.stop })

pub some_pixel_clocks-requires-clause-drive : goal.some_pixel_clocks-requires-clause-drive
some_pixel_clocks-requires-clause-drive g c =
    let fed = c.requires.drive.fed in
    let clocked = c.in_ok-whole_batches.ensures.ok in
    record { bench = clocked.bench; fed = (fed.0, subst (λ z. IsFed z fed.0 c.args.feed.now c.args.rounds.now) (sym clocked.netlist) fed.1) }

pub returns-in_err-some_pixel_clocks : goal.returns-in_err-some_pixel_clocks
returns-in_err-some_pixel_clocks g c =
    let outside = g.D.Desk.outside in
    let old = c.args.bench.now in
    let mid = c.whole_batches.new.bench in
    let m = old.sim.netlist in
    let n : ℕ = c.args.clocks in
    let f = clocks_at c.args.feed.now.hold (din_widths m) (rounds_of c.args.rounds.now) in
    let stop = c.in_err-some_pixel_clocks.field-0.0 in
    let p = err_from_is_err_and c.from_residual-in_err-some_pixel_clocks.result c.from_residual-in_err-some_pixel_clocks.ensures.1 in
    let first = c.in_ok-whole_batches.ensures.ok in
    let here = subst (λ z. StopsIn z mid.sim.contents mid.made (flat_map (clocks_at c.args.feed.now.hold (din_widths z) (rounds_of c.args.rounds.now)) (range_with_len (n / BATCH_PIXELS * BATCH_PIXELS) (n % BATCH_PIXELS))) stop) first.netlist c.in_err-some_pixel_clocks.ensures.stop in
    let parts = parts_of n BATCH_PIXELS in
    rw (p.1, p.2) (record {
      only = c.in_err-some_pixel_clocks.ensures.only ∙ ap (λ (o : Outside). record o { notes = (outside c.some_pixel_clocks.new.desk).notes }) c.in_ok-whole_batches.ensures.only;
      stop = stops_on m f (n / BATCH_PIXELS * BATCH_PIXELS) (n % BATCH_PIXELS) n old mid (outside c.args.desk.now).notes (outside c.whole_batches.new.desk).notes stop (omega (arith, parts)) first here;
    })

pub returns : goal.returns
returns g c =
    let outside = g.D.Desk.outside in
    let old = c.args.bench.now in
    let mid = c.whole_batches.new.bench in
    let new = c.some_pixel_clocks.new.bench in
    let m = old.sim.netlist in
    let n : ℕ = c.args.clocks in
    let between = (outside c.whole_batches.new.desk).notes in
    let now = (outside c.some_pixel_clocks.new.desk).notes in
    let f = clocks_at c.args.feed.now.hold (din_widths m) (rounds_of c.args.rounds.now) in
    let first = c.in_ok-whole_batches.ensures.ok in
    let here = subst (λ z. Clocked z (flat_map (clocks_at c.args.feed.now.hold (din_widths z) (rounds_of c.args.rounds.now)) (range_with_len (n / BATCH_PIXELS * BATCH_PIXELS) (n % BATCH_PIXELS))) mid new between now) first.netlist c.in_ok-some_pixel_clocks.ensures.ok in
    record {
      few = omega (arith, c.in_ok-some_pixel_clocks.ensures.few, c.in_ok-whole_batches.ensures.few, parts_of n BATCH_PIXELS);
      only = c.in_ok-some_pixel_clocks.ensures.only ∙ ap (λ (o : Outside). record o { notes = now }) c.in_ok-whole_batches.ensures.only;
      ok = clocked_on m f (n / BATCH_PIXELS * BATCH_PIXELS) (n % BATCH_PIXELS) n old mid new (outside c.args.desk.now).notes between now (parts_of n BATCH_PIXELS) first here;
    }
