use Rattle.std.proofs.Common.{rules, ◌≡◌, ◌+◌, ◌*◌, ◌≤◌, ◌<◌, ℕ, List, length, take, sym, subst, refl, ap, ◌∙◌, arith}
use Rattle.std.specs.Prelude.{vec_capacity}
use Rattle.std.proofs.lemmas.List.{length-take-le}
use Rattle.cycle_sim.specs.declared.ports.Out.{Out}
use Rattle.cycle_sim.specs.Ports.{din_widths}
use Rattle.batch_sim.specs.Called.{BatchRan, batch_clocks}
use Rattle.batch_sim.proofs.Clockwise.{place_within}
use Rattle.test_bench.specs.declared.batch.TheConstants.{BATCH_PIXELS}
use Rattle.test_bench.specs.BatchClocks.{AreShownIn}
use Rattle.test_bench.specs.Clocking.{StopsIn}
use Rattle.test_bench.proofs.Shows.{done_within, stops_in, clocked_batch, places_within, small_all, shows_batch, shots_count, shown_in}
use Rattle.test_bench.proofs.clocking.clock_batch.Goals as goal

pub step-requires-clause-ports : goal.step-requires-clause-ports
step-requires-clause-ports g c =
    let outside = g.D.Desk.outside in
    let old = c.args.bench.now in
    let bench = c.requires.bench in
    let m = old.sim.netlist in
    let enables = old.batch.enables.items in
    let dins = old.batch.dins.items in
    let p : ℕ = c.len-ports.result in
    let ports : p ≡ length old.outs.items = omega (arith, c.len-ports.ensures, bench.pictures) in
    let two : length m.outputs ≡ 2 * p = bench.outs ∙ ap (λ n. 2 * n) (sym ports) in
    let room : length old.batch.outs.items ≡ 2 * BATCH_PIXELS * p = bench.batch.outs ∙ ap (λ n. 2 * BATCH_PIXELS * n) (sym ports) in
    let counted : c.len-count.result ≡ length enables = omega (arith, c.len-count.ensures) in
    two

pub step-requires-clause-room : goal.step-requires-clause-room
step-requires-clause-room g c =
    let outside = g.D.Desk.outside in
    let old = c.args.bench.now in
    let bench = c.requires.bench in
    let m = old.sim.netlist in
    let enables = old.batch.enables.items in
    let dins = old.batch.dins.items in
    let p : ℕ = c.len-ports.result in
    let ports : p ≡ length old.outs.items = omega (arith, c.len-ports.ensures, bench.pictures) in
    let two : length m.outputs ≡ 2 * p = bench.outs ∙ ap (λ n. 2 * n) (sym ports) in
    let room : length old.batch.outs.items ≡ 2 * BATCH_PIXELS * p = bench.batch.outs ∙ ap (λ n. 2 * BATCH_PIXELS * n) (sym ports) in
    let counted : c.len-count.result ≡ length enables = omega (arith, c.len-count.ensures) in
    room

pub shown-requires : goal.shown-requires
shown-requires g c =
    let outside = g.D.Desk.outside in
    let old = c.args.bench.now in
    let bench = c.requires.bench in
    let m = old.sim.netlist in
    let enables = old.batch.enables.items in
    let dins = old.batch.dins.items in
    let p : ℕ = c.len-ports.result in
    let ports : p ≡ length old.outs.items = omega (arith, c.len-ports.ensures, bench.pictures) in
    let two : length m.outputs ≡ 2 * p = bench.outs ∙ ap (λ n. 2 * n) (sym ports) in
    let room : length old.batch.outs.items ≡ 2 * BATCH_PIXELS * p = bench.batch.outs ∙ ap (λ n. 2 * BATCH_PIXELS * n) (sym ports) in
    let counted : c.len-count.result ≡ length enables = omega (arith, c.len-count.ensures) in
    let l = done_within m enables dins old.sim.contents c.in-Err.stop c.in-Err.ensures.steps.stop in
    let q = place_within c.in-Err.stop.done (2 * BATCH_PIXELS) p (let h : c.in-Err.stop.done < 2 * BATCH_PIXELS = omega (arith, l, c.requires.clocks.few) in h) in
    omega (arith, q, c.in-Err.ensures.keeps.outs, room)

pub overflow_add-bench : goal.overflow_add-bench
overflow_add-bench g c =
    let old = c.args.bench.now in
    let l = done_within old.sim.netlist old.batch.enables.items old.batch.dins.items old.sim.contents c.in-Err.stop c.in-Err.ensures.steps.stop in
    omega (arith, l, c.requires.few, c.requires.clocks.few)

pub stopped-requires : goal.stopped-requires
stopped-requires g c =
    let old = c.args.bench.now in
    let l = done_within old.sim.netlist old.batch.enables.items old.batch.dins.items old.sim.contents c.in-Err.stop c.in-Err.ensures.steps.stop in
    omega (arith, l, c.requires.few, c.requires.clocks.few)

pub returns-in-Err : goal.returns-in-Err
returns-in-Err g c =
    let old = c.args.bench.now in
    let m = old.sim.netlist in
    record {
      only = c.tell.ensures.only;
      stop = subst (λ z. StopsIn m old.sim.contents old.made (batch_clocks m old.batch.enables.items old.batch.dins.items) z) (sym c.stopped.ensures)
          (stops_in m (batch_clocks m old.batch.enables.items old.batch.dins.items) old.sim.contents old.made c.in-Err.stop c.in-Err.ensures.steps.stop);
    }

pub shown-outs-requires : goal.shown-outs-requires
shown-outs-requires g c =
    let outside = g.D.Desk.outside in
    let old = c.args.bench.now in
    let bench = c.requires.bench in
    let m = old.sim.netlist in
    let enables = old.batch.enables.items in
    let dins = old.batch.dins.items in
    let p : ℕ = c.len-ports.result in
    let ports : p ≡ length old.outs.items = omega (arith, c.len-ports.ensures, bench.pictures) in
    let two : length m.outputs ≡ 2 * p = bench.outs ∙ ap (λ n. 2 * n) (sym ports) in
    let room : length old.batch.outs.items ≡ 2 * BATCH_PIXELS * p = bench.batch.outs ∙ ap (λ n. 2 * BATCH_PIXELS * n) (sym ports) in
    let counted : c.len-count.result ≡ length enables = omega (arith, c.len-count.ensures) in
    let l : c.len-count.result * p ≤ 2 * BATCH_PIXELS * p = places_within c.len-count.result (2 * BATCH_PIXELS) p (omega (arith, counted, c.requires.clocks.few)) in
    omega (arith, l, c.in-Ok.ensures.keeps.outs, room)

pub show_all-requires-clause-places : goal.show_all-requires-clause-places
show_all-requires-clause-places g c =
    let outside = g.D.Desk.outside in
    let old = c.args.bench.now in
    let bench = c.requires.bench in
    let m = old.sim.netlist in
    let enables = old.batch.enables.items in
    let dins = old.batch.dins.items in
    let p : ℕ = c.len-ports.result in
    let ports : p ≡ length old.outs.items = omega (arith, c.len-ports.ensures, bench.pictures) in
    let two : length m.outputs ≡ 2 * p = bench.outs ∙ ap (λ n. 2 * n) (sym ports) in
    let room : length old.batch.outs.items ≡ 2 * BATCH_PIXELS * p = bench.batch.outs ∙ ap (λ n. 2 * BATCH_PIXELS * n) (sym ports) in
    let counted : c.len-count.result ≡ length enables = omega (arith, c.len-count.ensures) in
    let step = c.in-Ok.ensures in
    let to = c.step.new.sim.contents in
    let outs = c.shown-outs.result.now in
    let is : outs ≡ take (length enables * p) c.step.new.self.outs.items = c.shown-outs.ensures ∙ ap (λ n. take (n * p) c.step.new.self.outs.items) counted in
    let within : length enables * p ≤ length c.step.new.self.outs.items = (let l : length enables * p ≤ 2 * BATCH_PIXELS * p = places_within (length enables) (2 * BATCH_PIXELS) p c.requires.clocks.few in omega (arith, l, step.keeps.outs, room)) in
    let count : length outs ≡ length enables * p = ap (λ (z : List Out). length z) is ∙ length-take-le (length enables * p) c.step.new.self.outs.items within in
    let r = subst (λ z. BatchRan m (batch_clocks m enables dins) old.sim.contents to z) (sym is) step.steps.ok in
    let nets = c.values_fit_law.ensures.nets in
    let next = c.values_fit_law.ensures.next in
    let fits = c.law.ensures.fit in
    let fit = c.requires.clocks.fit in
    count ∙ ap (λ n. n * p) (sym counted) ∙ ap (λ n. c.len-count.result * n) (let e : p ≡ length old.pictures.items = omega (arith, c.len-ports.ensures) in e)

pub show_all-requires-clause-douts : goal.show_all-requires-clause-douts
show_all-requires-clause-douts g c =
    let outside = g.D.Desk.outside in
    let old = c.args.bench.now in
    let bench = c.requires.bench in
    let m = old.sim.netlist in
    let enables = old.batch.enables.items in
    let dins = old.batch.dins.items in
    let p : ℕ = c.len-ports.result in
    let ports : p ≡ length old.outs.items = omega (arith, c.len-ports.ensures, bench.pictures) in
    let two : length m.outputs ≡ 2 * p = bench.outs ∙ ap (λ n. 2 * n) (sym ports) in
    let room : length old.batch.outs.items ≡ 2 * BATCH_PIXELS * p = bench.batch.outs ∙ ap (λ n. 2 * BATCH_PIXELS * n) (sym ports) in
    let counted : c.len-count.result ≡ length enables = omega (arith, c.len-count.ensures) in
    let step = c.in-Ok.ensures in
    let to = c.step.new.sim.contents in
    let outs = c.shown-outs.result.now in
    let is : outs ≡ take (length enables * p) c.step.new.self.outs.items = c.shown-outs.ensures ∙ ap (λ n. take (n * p) c.step.new.self.outs.items) counted in
    let within : length enables * p ≤ length c.step.new.self.outs.items = (let l : length enables * p ≤ 2 * BATCH_PIXELS * p = places_within (length enables) (2 * BATCH_PIXELS) p c.requires.clocks.few in omega (arith, l, step.keeps.outs, room)) in
    let count : length outs ≡ length enables * p = ap (λ (z : List Out). length z) is ∙ length-take-le (length enables * p) c.step.new.self.outs.items within in
    let r = subst (λ z. BatchRan m (batch_clocks m enables dins) old.sim.contents to z) (sym is) step.steps.ok in
    let nets = c.values_fit_law.ensures.nets in
    let next = c.values_fit_law.ensures.next in
    let fits = c.law.ensures.fit in
    let fit = c.requires.clocks.fit in
    small_all nets next m bench.order bench.rules bench.ordered enables dins old.sim.contents to outs p two count fits fit r

pub returns-in-Ok : goal.returns-in-Ok
returns-in-Ok g c =
    let outside = g.D.Desk.outside in
    let old = c.args.bench.now in
    let bench = c.requires.bench in
    let m = old.sim.netlist in
    let enables = old.batch.enables.items in
    let dins = old.batch.dins.items in
    let p : ℕ = c.len-ports.result in
    let ports : p ≡ length old.outs.items = omega (arith, c.len-ports.ensures, bench.pictures) in
    let two : length m.outputs ≡ 2 * p = bench.outs ∙ ap (λ n. 2 * n) (sym ports) in
    let room : length old.batch.outs.items ≡ 2 * BATCH_PIXELS * p = bench.batch.outs ∙ ap (λ n. 2 * BATCH_PIXELS * n) (sym ports) in
    let counted : c.len-count.result ≡ length enables = omega (arith, c.len-count.ensures) in
    let step = c.in-Ok.ensures in
    let to = c.step.new.sim.contents in
    let outs = c.shown-outs.result.now in
    let is : outs ≡ take (length enables * p) c.step.new.self.outs.items = c.shown-outs.ensures ∙ ap (λ n. take (n * p) c.step.new.self.outs.items) counted in
    let within : length enables * p ≤ length c.step.new.self.outs.items = (let l : length enables * p ≤ 2 * BATCH_PIXELS * p = places_within (length enables) (2 * BATCH_PIXELS) p c.requires.clocks.few in omega (arith, l, step.keeps.outs, room)) in
    let count : length outs ≡ length enables * p = ap (λ (z : List Out). length z) is ∙ length-take-le (length enables * p) c.step.new.self.outs.items within in
    let r = subst (λ z. BatchRan m (batch_clocks m enables dins) old.sim.contents to z) (sym is) step.steps.ok in
    let nets = c.values_fit_law.ensures.nets in
    let next = c.values_fit_law.ensures.next in
    let fits = c.law.ensures.fit in
    let fit = c.requires.clocks.fit in
    let before = (outside c.args.desk.now).notes in
    let now = (outside c.tell-in-Ok.new.desk).notes in
    let n = shots_count nets next m bench.order bench.rules bench.ordered enables dins old.sim.contents to outs p two count fits fit r in
    let shown = subst (λ w. AreShownIn w r.shots outs) (let e : p ≡ length old.pictures.items = omega (arith, c.len-ports.ensures) in e) (shown_in nets next m bench.order bench.rules bench.ordered enables dins old.sim.contents to outs p two count fits fit r) in
    let shows = shows_batch nets next m bench.order bench.rules bench.ordered enables dins old.sim.contents to outs p two count fits fit r old.most old.pictures.items c.show_all.new.pictures.items before now (λ all h. c.show_all.ensures.kept r.shots all (n ∙ sym counted) shown h) c.tell-in-Ok.ensures.notes in
    record {
      only = c.tell-in-Ok.ensures.only;
      ok = clocked_batch enables dins old _ before now bench step.steps.netlist refl (let e : old.made + c.len-count.result ≡ old.made + length enables = omega (arith, counted) in e) refl c.show_all.ensures.pictures.count c.show_all.ensures.pictures.room
          (record {
            enables = subst (λ v. 2 * BATCH_PIXELS ≤ vec_capacity v) (sym step.keeps.enables) bench.batch.enables;
            dins = subst (λ v. 2 * BATCH_PIXELS * length (din_widths m) ≤ vec_capacity v) (sym step.keeps.dins) bench.batch.dins;
            outs = step.keeps.outs ∙ bench.batch.outs;
          }) shows;
    }
