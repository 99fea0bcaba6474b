use Rattle.std.proofs.Common.{◌≡◌, ◌∙◌, ◌<◌, [], ◌∷◌, List, length, take, drop, suc, subst, sym, refl, Some, arith}
use Rattle.std.specs.Prelude.{slice_get}
use Rattle.std.proofs.lemmas.Option.{slice_get_read}
use Rattle.std.proofs.lemmas.Result.{err_from_is_err_and}
use Rattle.wiring.specs.Netlist.{Netlist}
use Rattle.wiring.specs.Clock.{Clock}
use Rattle.cycle_sim.specs.Runs.{clock_of, clocks_of, Ran, RanToStop}
use Rattle.cycle_sim.proofs.RunsJoin.{ran_none, ran_join, stop_later, upto_mapped, whole_mapped}
use Rattle.cycle_sim.proofs.running.run_clocks.Goals as goal

pub loop-clock-init : goal.loop-clock-init
loop-clock-init c = record {
  netlist = refl;
  ran = ran_none c.args.sim.now.netlist c.args.output c.args.sim.now.contents c.args.samples.now.items;
  count = omega arith;
  capacity = refl;
}

pub run_clock-requires-clause-room : goal.run_clock-requires-clause-room
run_clock-requires-clause-room c =
    let l : c.loop-clock.clock-index < length c.args.clocks.now = c.loop-clock-test.true in
    omega (arith, l, c.requires.room, c.loop-clock.invariant.count, c.loop-clock.invariant.capacity)

pub returns-in_err-run_clock : goal.returns-in_err-run_clock
returns-in_err-run_clock c =
    let m = c.args.sim.now.netlist in
    let xs = c.args.clocks.now in
    let i = c.loop-clock.clock-index in
    let x = c.clock-item.result in
    let r = c.in_err-run_clock.field-0.0 in
    let p = err_from_is_err_and c.from_residual.result c.from_residual.ensures.1 in
    let at : slice_get xs i ≡ Some x = slice_get_read xs (length xs) i x refl c.loop-clock-test.true c.clock-item.is in
    let stop = subst (λ (n : Netlist). RanToStop n c.args.output (clock_of x ∷ []) c.loop-clock.sim.contents c.loop-clock.samples.items c.run_clock.new.sim.contents c.run_clock.new.samples.items r.array r.index) c.loop-clock.invariant.netlist c.in_err-run_clock.ensures.stop in
    let test : i < length xs = c.loop-clock-test.true in
    rw (p.1, p.2) (record {
      netlist = c.in_err-run_clock.ensures.netlist ∙ c.loop-clock.invariant.netlist;
      stop = (subst (λ (cs : List Clock). RanToStop m c.args.output cs c.args.sim.now.contents c.args.samples.now.items c.run_clock.new.sim.contents c.run_clock.new.samples.items r.array r.index) (sym (whole_mapped clock_of xs i x at))
          (stop_later m c.args.output (clocks_of (take i xs)) (clock_of x) (clocks_of (drop (suc i) xs)) c.args.sim.now.contents c.loop-clock.sim.contents c.run_clock.new.sim.contents
          c.args.samples.now.items c.loop-clock.samples.items c.run_clock.new.samples.items r.array r.index c.loop-clock.invariant.ran stop));
      count = omega (arith, test, c.in_err-run_clock.ensures.count, c.loop-clock.invariant.count);
      capacity = c.in_err-run_clock.ensures.capacity ∙ c.loop-clock.invariant.capacity;
    })

pub loop-clock-preserved : goal.loop-clock-preserved
loop-clock-preserved c =
    let m = c.args.sim.now.netlist in
    let xs = c.args.clocks.now in
    let i = c.loop-clock.clock-index in
    let x = c.clock-item.result in
    let at : slice_get xs i ≡ Some x = slice_get_read xs (length xs) i x refl c.loop-clock-test.true c.clock-item.is in
    let one = subst (λ (n : Netlist). Ran n c.args.output (clock_of x ∷ []) c.loop-clock.sim.contents c.loop-clock.samples.items c.run_clock.new.sim.contents c.run_clock.new.samples.items) c.loop-clock.invariant.netlist c.in_ok-run_clock.ensures.ok in
    record {
      netlist = c.in_ok-run_clock.ensures.netlist ∙ c.loop-clock.invariant.netlist;
      ran = subst (λ (cs : List Clock). Ran m c.args.output cs c.args.sim.now.contents c.args.samples.now.items c.run_clock.new.sim.contents c.run_clock.new.samples.items) (sym (upto_mapped clock_of xs i x at))
          (ran_join m c.args.output (clocks_of (take i xs)) (clock_of x ∷ []) c.args.sim.now.contents c.loop-clock.sim.contents c.run_clock.new.sim.contents
          c.args.samples.now.items c.loop-clock.samples.items c.run_clock.new.samples.items c.loop-clock.invariant.ran one);
      count = omega (arith, c.in_ok-run_clock.ensures.count, c.loop-clock.invariant.count);
      capacity = c.in_ok-run_clock.ensures.capacity ∙ c.loop-clock.invariant.capacity;
    }
