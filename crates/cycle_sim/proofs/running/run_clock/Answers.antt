use Rattle.std.proofs.Common.{ℕ, List, subst, rules}
use Rattle.wiring.specs.Snapshot.{Snapshot}
use Rattle.wiring.specs.Clock.{given, Steps}
use Rattle.cycle_sim.specs.Ports.{IsShown}
use Rattle.cycle_sim.specs.Runs.{clock_of}
use Rattle.cycle_sim.proofs.RunsJoin.{ran_one}
use Rattle.cycle_sim.proofs.running.run_clock.Goals as goal

pub returns-in-Ok : goal.returns-in-Ok
returns-in-Ok c =
    let m = c.args.sim.now.netlist in
    let from = c.args.sim.now.contents in
    let to = c.step_output.new.self.contents in
    let clock = c.args.clock.now in
    let ok : (s : Snapshot) × Steps m from (given m (clock_of clock)) s to × IsShown s c.args.output c.in-Ok.out =
    subst (λ (dins : List ℕ). (s : Snapshot) × Steps m from (given m (record { reset = clock.reset; enable = clock.enable; dins = dins })) s to × IsShown s c.args.output c.in-Ok.out) c.deref.ensures.value c.in-Ok.ensures.ok in
    record {
      netlist = search rules;
      ok = ran_one m c.args.output (clock_of clock) from to c.args.samples.now.items c.note.new.samples.items ok.0 c.in-Ok.out ok.1 ok.2 c.note.ensures.items;
      count = search rules;
      capacity = search rules;
    }
