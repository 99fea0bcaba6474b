use Rattle.std.proofs.Common.{◌≡◌, ◌*◌, ◌≤◌, length, ap, sym, subst, ◌∙◌, arith}
use Rattle.std.specs.Prelude.{vec_capacity}
use Rattle.std.proofs.lemmas.Result.{MatchResult-weaker}
use Rattle.cycle_sim.specs.Ports.{din_widths}
use Rattle.batch_sim.specs.Called.{batch_clocks}
use Rattle.batch_sim.proofs.Clockwise.{clocks_count}
use Rattle.test_bench.specs.declared.batch.TheConstants.{BATCH_PIXELS}
use Rattle.test_bench.specs.Clocking.{StopsIn, Clocked}
use Rattle.test_bench.proofs.Filled.{inputs_are}
use Rattle.test_bench.proofs.Joined.{batch_is, batch_fit, unbatched, with_batch}
use Rattle.test_bench.proofs.clocking.some_pixel_clocks.Goals as goal

pub fill_batch-requires-clause-dins : goal.fill_batch-requires-clause-dins
fill_batch-requires-clause-dins g c =
    let fed = c.requires.drive.fed in
    subst (λ n. 2 * BATCH_PIXELS * n ≤ vec_capacity c.args.bench.now.batch.dins) (sym (inputs_are c.args.bench.now.sim.netlist fed.0 c.args.feed.now c.args.rounds.now fed.1)) c.requires.drive.bench.batch.dins

pub clock_batch-requires-clause-bench : goal.clock_batch-requires-clause-bench
clock_batch-requires-clause-bench g c =
    let old = c.args.bench.now in
    with_batch old c.fill_batch.new.batch c.requires.drive.bench (record {
      enables = subst (λ n. 2 * BATCH_PIXELS ≤ n) (sym c.fill_batch.ensures.given.room.enables) c.requires.drive.bench.batch.enables;
      dins = subst (λ n. 2 * BATCH_PIXELS * length (din_widths old.sim.netlist) ≤ n) (sym c.fill_batch.ensures.given.room.dins) c.requires.drive.bench.batch.dins;
      outs = ap length c.fill_batch.ensures.given.room.outs ∙ c.requires.drive.bench.batch.outs;
    })

pub clock_batch-requires-clause-clocks : goal.clock_batch-requires-clause-clocks
clock_batch-requires-clause-clocks g c =
    let m = c.args.bench.now.sim.netlist in
    let fed = c.requires.drive.fed in
    let new = c.fill_batch.new.batch in
    record {
      fit = batch_fit m fed.0 c.args.feed.now c.args.rounds.now fed.1 new.enables.items new.dins.items c.args.start c.args.count (c.fill_batch.ensures.clocks m fed.0 fed.1);
      whole = c.fill_batch.ensures.given.whole ∙ ap (λ n. length new.enables.items * n) (inputs_are m fed.0 c.args.feed.now c.args.rounds.now fed.1);
      few = omega (arith, c.fill_batch.ensures.given.count, c.requires.count);
    }

pub returns : goal.returns
returns g c =
    let outside = g.D.Desk.outside in
    let old = c.args.bench.now in
    let m = old.sim.netlist in
    let fed = c.requires.drive.fed in
    let new = c.fill_batch.new.batch in
    let before = (outside c.args.desk.now).notes in
    let now = (outside c.clock_batch.new.desk).notes in
    let count : length (batch_clocks m new.enables.items new.dins.items) ≡ length new.enables.items = clocks_count (length (din_widths m)) new.enables.items new.dins.items in
    let is = batch_is m fed.0 c.args.feed.now c.args.rounds.now fed.1 new.enables.items new.dins.items c.args.start c.args.count (c.fill_batch.ensures.clocks m fed.0 fed.1) in
    MatchResult-weaker c.clock_batch.result c.clock_batch.ensures
    (λ _ h. record {
      few = (let made = h.ok.made in omega (arith, made, count, c.fill_batch.ensures.given.count));
      only = h.only;
      ok = subst (λ z. Clocked m z old c.clock_batch.new.bench before now) is (unbatched m (batch_clocks m new.enables.items new.dins.items) old c.clock_batch.new.bench new before now h.ok);
    })
    (λ stop h. record {
      only = h.only;
      stop = subst (λ z. StopsIn m old.sim.contents old.made z stop) is h.stop;
    })
