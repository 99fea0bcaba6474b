use Rattle.std.proofs.Common.{◌∙◌, ◌*◌, ◌^◌, ◌<◌, ap, sym, subst, refl, length}
use Rattle.std.specs.Prelude.{slice_get}
use Rattle.std.specs.List.{All}
use Rattle.wiring.specs.Clock.{Clock}
use Rattle.test_bench.specs.Clocking.{GoOn}
use Rattle.test_bench.specs.BatchClocks.{pairs_of}
use Rattle.test_bench.proofs.Clocks.{douts_fit, outs_small, clocked_one}
use Rattle.test_bench.proofs.clocking.clock.Goals as goal

pub show-requires-clause-douts : goal.show-requires-clause-douts
show-requires-clause-douts g c =
    let bench = c.requires.bench in
    let m = c.args.bench.now.sim.netlist in
    let clock : Clock = record { reset = c.args.reset; enable = c.args.enable; dins = c.args.dins.now } in
    let ok = c.in-Ok.ensures.ok in
    let fit = douts_fit c.values_fit_law.ensures.nets m bench.order bench.rules bench.ordered clock c.args.bench.now.sim.contents c.step.new.sim.contents ok.0 c.law.ensures.fit c.requires.dins ok.1 in
    subst (λ z. All (λ out. out.dout < 2 ^ 16) z) (sym c.deref-in-Ok.ensures.value) (outs_small m bench.rules ok.0 c.step.new.outs.items fit ok.2 (bench.outs ∙ ap (λ n. 2 * n) (sym c.in-Ok.ensures.count)))

pub returns-in-Ok : goal.returns-in-Ok
returns-in-Ok g c =
    let outside = g.D.Desk.outside in
    let bench = c.requires.bench in
    let old = c.args.bench.now in
    let clock : Clock = record { reset = c.args.reset; enable = c.args.enable; dins = c.args.dins.now } in
    let ok = c.in-Ok.ensures.ok in
    let fit = douts_fit c.values_fit_law.ensures.nets old.sim.netlist bench.order bench.rules bench.ordered clock old.sim.contents c.step.new.sim.contents ok.0 c.law.ensures.fit c.requires.dins ok.1 in
    record {
      only = c.tell.ensures.only;
      ok = clocked_one clock old _ (outside c.args.desk.now).notes (outside c.tell.new.desk).notes ok.0 bench c.in-Ok.ensures.netlist refl refl c.in-Ok.ensures.count refl
          (c.show.ensures.pictures.count ∙ ap length c.deref-in-Ok.ensures.value) c.show.ensures.pictures.room ok.1 ok.2 fit
          (subst (λ z. GoOn (outside c.args.desk.now).notes (pairs_of z) (outside c.tell.new.desk).notes) c.deref.ensures.value c.tell.ensures.notes)
          (λ k a b out x y z. c.show.ensures.kept k a b out x y (ap (λ l. slice_get l k) c.deref-in-Ok.ensures.value ∙ z));
    }
