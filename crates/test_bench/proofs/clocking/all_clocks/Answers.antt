use Rattle.std.proofs.Common.{◌≡◌, ◌∙◌, ap, [], ◌∷◌, sym, subst, length, replicate, true}
use Rattle.std.specs.List.{flat_map, range_with_len}
use Rattle.std.proofs.lemmas.Result.{err_from_is_err_and}
use Rattle.wiring.specs.Snapshot.{Fit}
use Rattle.dk_desk.specs.Outside.{Outside}
use Rattle.cycle_sim.specs.Ports.{din_widths}
use Rattle.stimulus.specs.Stimulus.{reset_clock, clocks_at}
use Rattle.stimulus.specs.Given.{rounds_of}
use Rattle.test_bench.specs.Clocking.{pixel_clocks, Clocked, IsFed, StopsIn}
use Rattle.stimulus.proofs.Stimuli.{fit_zeros}
use Rattle.test_bench.proofs.Runs.{clocked_join, stops_later, stops_more}
use Rattle.test_bench.proofs.clocking.all_clocks.Goals as goal

pub clock-requires-clause-dins : goal.clock-requires-clause-dins
clock-requires-clause-dins g c =
    let widths = din_widths c.args.bench.now.sim.netlist in
    let e : c.args.dins.now ≡ replicate (length widths) 0 = c.requires.dins in
    subst (λ z. Fit widths z) (sym e) (fit_zeros widths)

pub returns-in_err-clock-clause-drives : goal.returns-in_err-clock-clause-drives
returns-in_err-clock-clause-drives g c =
    let old = c.args.bench.now in
    let m = old.sim.netlist in
    let widths = din_widths m in
    let stop = c.in_err-clock.field-0.0 in
    let p = err_from_is_err_and c.from_residual.result c.from_residual.ensures.1 in
    let e : c.args.dins.now ≡ replicate (length widths) 0 = c.requires.dins in
    let here = subst (λ z. StopsIn m old.sim.contents old.made (record { reset = true; enable = true; dins = z } ∷ []) stop) e c.in_err-clock.ensures.stop in
    rw (p.1, p.2) (record {
      only = c.in_err-clock.ensures.only;
      stop = stops_more m (reset_clock (length widths) ∷ []) (pixel_clocks m c.args.feed.now c.args.rounds.now 0 c.args.clocks) old.sim.contents old.made stop here;
    })

pub all_pixel_clocks-requires-clause-drive : goal.all_pixel_clocks-requires-clause-drive
all_pixel_clocks-requires-clause-drive g c =
    let fed = c.requires.drive.fed in
    let clocked = c.in_ok-clock.ensures.ok in
    record { bench = clocked.bench; fed = (fed.0, subst (λ z. IsFed z fed.0 c.args.feed.now c.args.rounds.now) (sym clocked.netlist) fed.1) }

pub returns-in_err-all_pixel_clocks-clause-drives : goal.returns-in_err-all_pixel_clocks-clause-drives
returns-in_err-all_pixel_clocks-clause-drives g c =
    let outside = g.D.Desk.outside in
    let old = c.args.bench.now in
    let mid = c.clock.new.bench in
    let m = old.sim.netlist in
    let widths = din_widths m in
    let hold = c.args.feed.now.hold in
    let rounds = rounds_of c.args.rounds.now in
    let before = (outside c.args.desk.now).notes in
    let between = (outside c.clock.new.desk).notes in
    let stop = c.in_err-all_pixel_clocks.field-0.0 in
    let p = err_from_is_err_and c.from_residual-in_err-all_pixel_clocks.result c.from_residual-in_err-all_pixel_clocks.ensures.1 in
    let e : c.args.dins.now ≡ replicate (length widths) 0 = c.requires.dins in
    let one : Clocked m (reset_clock (length widths) ∷ []) old mid before between = subst (λ z. Clocked m (record { reset = true; enable = true; dins = z } ∷ []) old mid before between) e c.in_ok-clock.ensures.ok in
    let here = subst (λ z. StopsIn z mid.sim.contents mid.made (flat_map (clocks_at hold (din_widths z) rounds) (range_with_len 0 c.args.clocks)) stop) one.netlist c.in_err-all_pixel_clocks.ensures.stop in
    rw (p.1, p.2) (record {
      only = c.in_err-all_pixel_clocks.ensures.only ∙ ap (λ (o : Outside). record o { notes = (outside c.all_pixel_clocks.new.desk).notes }) c.in_ok-clock.ensures.only;
      stop = stops_later m (reset_clock (length widths) ∷ []) (flat_map (clocks_at hold widths rounds) (range_with_len 0 c.args.clocks)) old mid before between stop one here;
    })

pub returns-clause-drives : goal.returns-clause-drives
returns-clause-drives g c =
    let outside = g.D.Desk.outside in
    let old = c.args.bench.now in
    let mid = c.clock.new.bench in
    let new = c.all_pixel_clocks.new.bench in
    let m = old.sim.netlist in
    let widths = din_widths m in
    let hold = c.args.feed.now.hold in
    let rounds = rounds_of c.args.rounds.now in
    let before = (outside c.args.desk.now).notes in
    let between = (outside c.clock.new.desk).notes in
    let now = (outside c.all_pixel_clocks.new.desk).notes in
    let e : c.args.dins.now ≡ replicate (length widths) 0 = c.requires.dins in
    let one : Clocked m (reset_clock (length widths) ∷ []) old mid before between = subst (λ z. Clocked m (record { reset = true; enable = true; dins = z } ∷ []) old mid before between) e c.in_ok-clock.ensures.ok in
    let two = subst (λ z. Clocked z (flat_map (clocks_at hold (din_widths z) rounds) (range_with_len 0 c.args.clocks)) mid new between now) one.netlist c.in_ok-all_pixel_clocks.ensures.ok in
    record {
      only = c.in_ok-all_pixel_clocks.ensures.only ∙ ap (λ (o : Outside). record o { notes = now }) c.in_ok-clock.ensures.only;
      ok = clocked_join m (reset_clock (length widths) ∷ []) (flat_map (clocks_at hold widths rounds) (range_with_len 0 c.args.clocks)) old mid new before between now one two;
    }
